-- One frame taken off the front of some bytes.
use Rattle.std.proofs.Common.{◌≡◌, ℕ, ◌-◌, List, take, drop, get_or, Some, Result, Ok, Err, refl, sym, ap, subst, ◌∙◌, arith}
use Rattle.std.proofs.lemmas.List.{drop-take}
use Rattle.pg_wire.specs.Fronts.{IsWhole, message_of_bytes}
use Rattle.pg_types.specs.declared.faults.WireFault.{WireFault}
use Rattle.pg_types.specs.declared.faults.WireFault.TheVariants.{BadLength, UnknownTag, Layout, NotUtf8, OutOfMemory}
use Rattle.pg_server.specs.declared.frame.Frame.{Frame}
use Rattle.pg_server.specs.Frames.{frame_or_fault, IsFrame, TakesFrame, RefusesFrame, Parses}

-- the body is the one of the whole frame in front
pub is_whole_frame : (s : List ℕ) (n : ℕ) (r : Result Frame WireFault) → IsWhole s n →
    IsFrame (record { tag = get_or s 0 0; body = take (n - 5) (drop 5 s) }) r → IsFrame (message_of_bytes n s) r
is_whole_frame s n r whole is =
    let e : take (n - 5) (drop 5 s) ≡ drop 5 (take n s) = sym (drop-take 5 (n - 5) s) ∙ ap (λ (k : ℕ). drop 5 (take k s)) (omega (arith, whole.some)) in
    subst (λ (body : List ℕ). IsFrame (record { tag = get_or s 0 0; body = body }) r) e is

pub takes_frame : (s seen looked new : List ℕ) (n : ℕ) (frame : Frame) → seen ≡ s → looked ≡ s → IsWhole seen n →
    IsFrame (message_of_bytes n looked) (Ok frame) → new ≡ drop n s → TakesFrame s new frame
takes_frame s seen looked new n frame same also whole is behind =
    let whole' : IsWhole s n = subst (λ (x : List ℕ). IsWhole x n) same whole in
    record {
      raw = message_of_bytes n s;
      front = whole'.front ∙ ap (λ (rest : List ℕ). Some (message_of_bytes n s, rest)) (sym behind);
      means = subst (λ (x : List ℕ). IsFrame (message_of_bytes n x) (Ok frame)) also is;
    }

pub refuses_frame : (s seen looked : List ℕ) (n : ℕ) (fault : WireFault) → seen ≡ s → looked ≡ s → IsWhole seen n →
    IsFrame (message_of_bytes n looked) (Err fault) → Parses s s (Err fault)
refuses_frame s seen looked n fault same also whole is =
    by_fault fault (subst (λ (x : List ℕ). IsWhole x n) same whole) (subst (λ (x : List ℕ). IsFrame (message_of_bytes n x) (Err fault)) also is)
  where
    refused : (fault : WireFault) → IsWhole s n → frame_or_fault (message_of_bytes n s) ≡ Err fault → RefusesFrame s s fault
    refused fault whole means = record { same = refl; raw = message_of_bytes n s; rest = drop n s; front = whole.front; means = means }

    by_fault : (fault : WireFault) → IsWhole s n → IsFrame (message_of_bytes n s) (Err fault) → Parses s s (Err fault)
    by_fault BadLength whole is = absurd is
    by_fault UnknownTag whole is = refused UnknownTag whole is
    by_fault Layout whole is = refused Layout whole is
    by_fault NotUtf8 whole is = refused NotUtf8 whole is
    by_fault OutOfMemory whole is = refl
