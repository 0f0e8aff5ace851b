-- What stands in front, and the bytes behind it: how it is found doesn't depend on what follows.
use Rattle.std.proofs.Common.{◌≡◌, ℕ, ◌+◌, ◌-◌, ◌≤◌, Bool, true, false, not, List, [], ◌∷◌, ◌++◌, Option, Some, None, Result, Ok, Err, refl, sym, ap, subst, ◌∙◌, cond, arith, length, take, drop, append_assoc}
use Rattle.std.specs.Prelude.{nat_le, ◌==◌, if◌then◌else◌}
use Rattle.std.specs.Int.{w32, from_be_bytes}
use Rattle.std.specs.Option.{option_and_then}
use Rattle.std.proofs.lemmas.Bool.{leb-true}
use Rattle.std.proofs.lemmas.List.{take-append-drop, length-take-le, length-append, drop_at}
use Rattle.std.proofs.lemmas.Option.{option_and_then_some, some_pair_parts, cond_some}
use Rattle.pg_types.specs.declared.faults.WireFault.{WireFault}
use Rattle.pg_types.specs.declared.faults.WireFault.TheVariants.{BadLength, Layout}
use Rattle.pg_spec.specs.Bytes.{◌>>=◌, bytes_at, number_at}
use Rattle.pg_spec.specs.ClientFrames.{ClientFrame}
use Rattle.pg_spec.specs.RawMessages as raw
use Rattle.pg_spec.specs.RawMessages.{RawMessage, message_at, has_bad_header}
use Rattle.pg_spec.proofs.Readers.{bytes_at-Reader, number_at-Reader}
use Rattle.pg_spec.proofs.MessageLaws.{message_at-Reader}
use Rattle.pg_server.specs.declared.fault.ServerFault.TheVariants as faults
use Rattle.pg_server.specs.declared.session.Stage.{Stage}
use Rattle.pg_server.specs.declared.session.Stage.TheVariants.{Opening, Serves, Over}
use Rattle.pg_server.specs.Frames.{frame_or_fault}
use Rattle.pg_server.specs.Handlers.{Step}
use Rattle.pg_server.specs.Openings as opening
use Rattle.pg_server.specs.Openings.{InFront, is_length, is_parameters, starting, cancelling, opening_by, opening_behind, opening_in_front}
use Rattle.pg_machine.specs.Sessions.{spoken}
use Rattle.pg_server.specs.Standings.{Standing, Front, Waits, Says, Stops, is_broken, replied, behind_frame, reading, serving, opened, at_stage, front}

-- ---- what is left is behind what was taken

-- some bytes were taken off the front, or none
pub record IsBehind (s rest : List ℕ) (least : ℕ) : Type 0 where
  pub gone : List ℕ
  pub some : least ≤ length gone
  pub is : gone ++ rest ≡ s

behind_behind : (s r t : List ℕ) (n m : ℕ) → IsBehind s r n → IsBehind r t m → IsBehind s t n
behind_behind s r t n m a b = record {
  gone = a.gone ++ b.gone;
  some = omega (arith, a.some, length-append a.gone b.gone);
  is = append_assoc a.gone b.gone t ∙ ap (λ (x : List ℕ). a.gone ++ x) b.is ∙ a.is;
}

bytes_at-behind : (n : ℕ) (s item rest : List ℕ) → bytes_at n s ≡ Some (item, rest) → IsBehind s rest n
bytes_at-behind n s item rest e =
    let parts = cond_some (nat_le n (length s)) (take n s, drop n s) (item, rest) e in
    record {
      gone = take n s;
      some = omega (arith, length-take-le n s (leb-true n (length s) parts.0));
      is = ap (λ (p : List ℕ × List ℕ). take n s ++ p.1) (sym parts.1) ∙ take-append-drop n s;
    }

number_at-behind : (s : List ℕ) (n : ℕ) (rest : List ℕ) → number_at w32 s ≡ Some (n, rest) → IsBehind s rest 4
number_at-behind s n rest e =
    option_and_then_some (λ (d : List ℕ × List ℕ). Some (from_be_bytes w32 d.0, d.1)) (bytes_at 4 s) (n, rest) e (λ d at made.
    subst (λ (r : List ℕ). IsBehind s r 4) (some_pair_parts (from_be_bytes w32 d.0) n d.1 rest made).1 (bytes_at-behind 4 s d.0 d.1 at))

abbrev pub finish : ℕ → ℕ → List ℕ → List ℕ → Option (RawMessage × List ℕ)
finish tag n body rest = cond (raw.is_length n) (Some (record { tag = tag; body = body }, rest)) None

pub message_at-behind : (s : List ℕ) (m : RawMessage) (rest : List ℕ) → message_at s ≡ Some (m, rest) → IsBehind s rest 1
message_at-behind [] m rest e = absurd cc
message_at-behind (tag ∷ s) m rest e =
    option_and_then_some (λ (n : ℕ × List ℕ). bytes_at (n.0 - 4) n.1 >>= λ body. finish tag n.0 body.0 body.1) (number_at w32 s) (m, rest) e (λ n at later.
    option_and_then_some (λ (body : List ℕ × List ℕ). finish tag n.0 body.0 body.1) (bytes_at (n.0 - 4) n.1) (m, rest) later (λ body behind made.
    let parts = cond_some (raw.is_length n.0) (record { tag = tag; body = body.0 }, body.1) (m, rest) made in
    let all : IsBehind s body.1 4 = behind_behind s n.1 body.1 4 (n.0 - 4) (number_at-behind s n.0 n.1 at) (bytes_at-behind (n.0 - 4) n.1 body.0 body.1 behind) in
    subst (λ (p : RawMessage × List ℕ). IsBehind (tag ∷ s) p.1 1) parts.1
    (record { gone = tag ∷ all.gone; some = omega arith; is = ap (λ (x : List ℕ). tag ∷ x) all.is })))

-- what stands behind some bytes, by how many they are
pub record IsLeft (s rest : List ℕ) : Type 0 where
  pub fits : length rest ≤ length s
  pub is : rest ≡ drop (length s - length rest) s

pub left_behind : (s rest : List ℕ) (k : ℕ) → IsBehind s rest k → IsLeft s rest
left_behind s rest k behind =
    let size : length behind.gone + length rest ≡ length s = sym (length-append behind.gone rest) ∙ ap length behind.is in
    let skip : length s - length rest ≡ length behind.gone = omega (arith, size) in record {
      fits = omega (arith, size);
      is = sym (ap (λ (n : ℕ). drop n s) skip ∙ ap (drop (length behind.gone)) (sym behind.is) ∙ drop_at behind.gone rest (length behind.gone) refl);
    }

-- ---- the opening frames

-- What was found leaves bytes that stand behind others, and is found whatever follows.
abbrev pub Known : (s b : List ℕ) → InFront → InFront → Type 0
Known s b opening.Short later = Unit {0}
Known s b (opening.Ssl rest) later = IsBehind s rest 1 × (later ≡ opening.Ssl (rest ++ b))
Known s b (opening.Starts rest) later = IsBehind s rest 1 × (later ≡ opening.Starts (rest ++ b))
Known s b (opening.Breaks fault) later = later ≡ opening.Breaks fault

less : (s rest : List ℕ) (n : ℕ) → 1 ≤ n → IsBehind s rest n → IsBehind s rest 1
less s rest n some is = record { gone = is.gone; some = omega (arith, some, is.some); is = is.is }

starting-known : (s b : List ℕ) (n : ℕ) (body : List ℕ) → IsBehind s body 1 → Known s b (starting n body) (starting n (body ++ b))
starting-known s b n body is =
    elim (bytes_at (n - 8) body) as (λ o. bytes_at (n - 8) body ≡ o → Known s b (by_parameters o) (starting n (body ++ b))) [
      | None ↦ λ e. tt
      | Some p ↦ λ e.
          subst (λ (o : Option (List ℕ × List ℕ)). Known s b (by_parameters (Some p)) (by_parameters o)) (sym (bytes_at-Reader (n - 8) body p.0 p.1 b e))
          (by_test (is_parameters p.0) p.1 (behind_behind s body p.1 1 (n - 8) is (bytes_at-behind (n - 8) body p.0 p.1 e)))
    ] refl
  where
    by_parameters : Option (List ℕ × List ℕ) → InFront
    by_parameters o = elim o [ None ↦ opening.Short | Some p ↦ if is_parameters p.0 then opening.Starts p.1 else opening.Breaks (faults.BadFrame Layout) ]

    by_test : (t : Bool) (rest : List ℕ) → IsBehind s rest 1 →
        Known s b (cond t (opening.Starts rest) (opening.Breaks (faults.BadFrame Layout))) (cond t (opening.Starts (rest ++ b)) (opening.Breaks (faults.BadFrame Layout)))
    by_test true rest is = (is, refl)
    by_test false rest is = refl

cancelling-known : (s b body : List ℕ) → Known s b (cancelling body) (cancelling (body ++ b))
cancelling-known s b body =
    elim (bytes_at 8 body) as (λ o. bytes_at 8 body ≡ o → Known s b (elim o [ None ↦ opening.Short | Some p ↦ opening.Breaks faults.Cancel ]) (cancelling (body ++ b))) [
      | None ↦ λ e. tt
      | Some p ↦ λ e. ap (λ (o : Option (List ℕ × List ℕ)). elim o [ None ↦ opening.Short | Some p ↦ opening.Breaks faults.Cancel ]) (bytes_at-Reader 8 body p.0 p.1 b e)
    ] refl

pub opening_by-known : (s b : List ℕ) (n code : ℕ) (body : List ℕ) → IsBehind s body 1 → Known s b (opening_by n code body) (opening_by n code (body ++ b))
opening_by-known s b n code body is = by_tests (code == 80877103) (n == 8) (code == 80877102) (n == 16) (code == 196608)
  where
    bad : InFront
    bad = opening.Breaks (faults.BadFrame BadLength)

    chosen : (ssl eight cancel sixteen version : Bool) → List ℕ → InFront
    chosen ssl eight cancel sixteen version body =
        cond ssl (cond eight (opening.Ssl body) (opening.Breaks (faults.BadFrame BadLength)))
        (cond cancel (cond sixteen (cancelling body) (opening.Breaks (faults.BadFrame BadLength))) (cond version (starting n body) (opening.Breaks (faults.Version code))))

    by_tests : (ssl eight cancel sixteen version : Bool) → Known s b (chosen ssl eight cancel sixteen version body) (chosen ssl eight cancel sixteen version (body ++ b))
    by_tests true true cancel sixteen version = (is, refl)
    by_tests true false cancel sixteen version = refl
    by_tests false eight true true version = cancelling-known s b body
    by_tests false eight true false version = refl
    by_tests false eight false sixteen true = starting-known s b n body is
    by_tests false eight false sixteen false = refl

pub opening_behind-known : (s b : List ℕ) (n : ℕ) (bytes : List ℕ) → IsBehind s bytes 1 → Known s b (opening_behind n bytes) (opening_behind n (bytes ++ b))
opening_behind-known s b n bytes is =
    elim (number_at w32 bytes) as (λ o. number_at w32 bytes ≡ o → Known s b (by_code o) (opening_behind n (bytes ++ b))) [
      | None ↦ λ e. tt
      | Some code ↦ λ e.
          subst (λ (o : Option (ℕ × List ℕ)). Known s b (by_code (Some code)) (by_code o)) (sym (number_at-Reader bytes code.0 code.1 b e))
          (opening_by-known s b n code.0 code.1 (behind_behind s bytes code.1 1 4 is (number_at-behind bytes code.0 code.1 e)))
    ] refl
  where
    by_code : Option (ℕ × List ℕ) → InFront
    by_code o = elim o [ None ↦ opening.Short | Some code ↦ opening_by n code.0 code.1 ]

pub opening-known : (s b : List ℕ) → Known s b (opening_in_front s) (opening_in_front (s ++ b))
opening-known s b =
    elim (number_at w32 s) as (λ o. number_at w32 s ≡ o → Known s b (by_length o) (opening_in_front (s ++ b))) [
      | None ↦ λ e. tt
      | Some n ↦ λ e.
          subst (λ (o : Option (ℕ × List ℕ)). Known s b (by_length (Some n)) (by_length o)) (sym (number_at-Reader s n.0 n.1 b e))
          (by_test (is_length n.0) n.0 n.1 (less s n.1 4 (omega arith) (number_at-behind s n.0 n.1 e)))
    ] refl
  where
    by_length : Option (ℕ × List ℕ) → InFront
    by_length o = elim o [ None ↦ opening.Short | Some n ↦ if is_length n.0 then opening_behind n.0 n.1 else opening.Breaks (faults.BadFrame BadLength) ]

    by_test : (t : Bool) (n : ℕ) (rest : List ℕ) → IsBehind s rest 1 →
        Known s b (cond t (opening_behind n rest) (opening.Breaks (faults.BadFrame BadLength))) (cond t (opening_behind n (rest ++ b)) (opening.Breaks (faults.BadFrame BadLength)))
    by_test true n rest is = opening_behind-known s b n rest is
    by_test false n rest is = refl

-- what was answered there leaves bytes that stand behind others
pub opened-behind : {S : Type 0} (at : Standing S) (s said : List ℕ) (next : Standing S) (rest : List ℕ) → opened at (opening_in_front s) ≡ Says said next rest → IsBehind s rest 1
opened-behind {S = S} at s said next rest e = by_front (opening_in_front s) (opening-known s []) e
  where
    rest_of : Front S → List ℕ
    rest_of Waits = []
    rest_of (Says said next rest) = rest
    rest_of (Stops fault) = []

    by_front : (x : InFront) → Known s [] x (opening_in_front (s ++ [])) → opened at x ≡ Says said next rest → IsBehind s rest 1
    by_front opening.Short k e = absurd cc
    by_front (opening.Ssl r) k e = subst (λ (b : List ℕ). IsBehind s b 1) (ap rest_of e) k.0
    by_front (opening.Starts r) k e = subst (λ (b : List ℕ). IsBehind s b 1) (ap rest_of e) k.0
    by_front (opening.Breaks fault) k e = absurd cc

-- no effect is met there
abbrev pub NoEffect : InFront → Type 0
NoEffect (opening.Breaks (faults.BadEffect n)) = ⊥
NoEffect other = Unit {0}

pub opening-NoEffect : (s : List ℕ) → NoEffect (opening_in_front s)
opening-NoEffect s = by_length (number_at w32 s)
  where
    by_parameters : (o : Option (List ℕ × List ℕ)) → NoEffect (elim o [ None ↦ opening.Short | Some p ↦ if is_parameters p.0 then opening.Starts p.1 else opening.Breaks (faults.BadFrame Layout) ])
    by_parameters None = tt
    by_parameters (Some p) = by_test (is_parameters p.0)
      where
        by_test : (t : Bool) → NoEffect (cond t (opening.Starts p.1) (opening.Breaks (faults.BadFrame Layout)))
        by_test true = tt
        by_test false = tt

    by_rest : (o : Option (List ℕ × List ℕ)) → NoEffect (elim o [ None ↦ opening.Short | Some rest ↦ opening.Breaks faults.Cancel ])
    by_rest None = tt
    by_rest (Some rest) = tt

    by_tests : (n code : ℕ) (body : List ℕ) (ssl eight cancel sixteen version : Bool) →
        NoEffect (cond ssl (cond eight (opening.Ssl body) (opening.Breaks (faults.BadFrame BadLength)))
        (cond cancel (cond sixteen (cancelling body) (opening.Breaks (faults.BadFrame BadLength))) (cond version (starting n body) (opening.Breaks (faults.Version code)))))
    by_tests n code body true true cancel sixteen version = tt
    by_tests n code body true false cancel sixteen version = tt
    by_tests n code body false eight true true version = by_rest (bytes_at 8 body)
    by_tests n code body false eight true false version = tt
    by_tests n code body false eight false sixteen true = by_parameters (bytes_at (n - 8) body)
    by_tests n code body false eight false sixteen false = tt

    by_code : (n : ℕ) (o : Option (ℕ × List ℕ)) → NoEffect (elim o [ None ↦ opening.Short | Some code ↦ opening_by n code.0 code.1 ])
    by_code n None = tt
    by_code n (Some c) = by_tests n c.0 c.1 (c.0 == 80877103) (n == 8) (c.0 == 80877102) (n == 16) (c.0 == 196608)

    by_range : (t : Bool) (n : ℕ) (bytes : List ℕ) → NoEffect (cond t (opening_behind n bytes) (opening.Breaks (faults.BadFrame BadLength)))
    by_range true n bytes = by_code n (number_at w32 bytes)
    by_range false n bytes = tt

    by_length : (o : Option (ℕ × List ℕ)) → NoEffect (elim o [ None ↦ opening.Short | Some n ↦ if is_length n.0 then opening_behind n.0 n.1 else opening.Breaks (faults.BadFrame BadLength) ])
    by_length None = tt
    by_length (Some n) = by_range (is_length n.0) n.0 n.1

-- ---- whatever stands in front

-- What is done leaves bytes that stand behind others, and is done whatever follows.
abbrev pub Knows : {S : Type 0} → (s b : List ℕ) → Front S → Front S → Type 0
Knows s b Waits later = Unit {0}
Knows s b (Says said next rest) later = IsBehind s rest 1 × (later ≡ Says said next (rest ++ b))
Knows s b (Stops fault) later = later ≡ Stops fault

opened-known : {S : Type 0} (at : Standing S) (s b : List ℕ) (x y : InFront) → Known s b x y → Knows s b (opened at x) (opened at y)
opened-known at s b opening.Short y k = tt
opened-known at s b (opening.Ssl rest) y k = (k.0, ap (opened at) k.1)
opened-known at s b (opening.Starts rest) y k = (k.0, ap (opened at) k.1)
opened-known at s b (opening.Breaks fault) y k = ap (opened at) k

reading-known : {S : Type 0} (step : Step S) (at : Standing S) (s b : List ℕ) (m : RawMessage) (rest : List ℕ) (r : Result ClientFrame WireFault) → IsBehind s rest 1 →
    Knows s b (reading step at m rest r) (reading step at m (rest ++ b) r)
reading-known step at s b m rest (Err fault) is = refl
reading-known {S = S} step at s b m rest (Ok frame) is = by_test (is_broken step at m frame)
  where
    chosen : Bool → List ℕ → Front S
    chosen t rest = cond t (Stops (faults.BadEffect at.answered)) (Says (spoken (replied step at m).reply) (behind_frame at m (replied step at m).next) rest)

    by_test : (t : Bool) → Knows s b (chosen t rest) (chosen t (rest ++ b))
    by_test true = refl
    by_test false = (is, refl)

-- a bad header stays one
bad-header : (s b : List ℕ) → has_bad_header s ≡ true → (has_bad_header (s ++ b) ≡ true) × (message_at (s ++ b) ≡ None)
bad-header [] b e = absurd cc
bad-header (tag ∷ s) b e =
    elim (number_at w32 s) as (λ o. number_at w32 s ≡ o → is_bad o ≡ true → (has_bad_header (tag ∷ s ++ b) ≡ true) × (message_at (tag ∷ s ++ b) ≡ None)) [
      | None ↦ λ at bad. absurd cc
      | Some n ↦ λ at bad.
          let later = number_at-Reader s n.0 n.1 b at in (
            ap is_bad later ∙ bad,
            ap (option_and_then (λ (n : ℕ × List ℕ). bytes_at (n.0 - 4) n.1 >>= λ body. finish tag n.0 body.0 body.1)) later
                ∙ none (bytes_at (n.0 - 4) (n.1 ++ b)) n.0 (is_false (raw.is_length n.0) bad),
          )
    ] refl e
  where
    is_bad : Option (ℕ × List ℕ) → Bool
    is_bad o = elim o [ None ↦ false | Some n ↦ not (raw.is_length n.0) ]

    is_false : (t : Bool) → not t ≡ true → t ≡ false
    is_false true e = absurd cc
    is_false false e = refl

    none : (o : Option (List ℕ × List ℕ)) (n : ℕ) → raw.is_length n ≡ false → (o >>= λ body. finish tag n body.0 body.1) ≡ None
    none None n e = refl
    none (Some p) n e = ap (λ t. cond t (Some (record { tag = tag; body = p.0 }, p.1)) None) e

serving-known : {S : Type 0} (step : Step S) (at : Standing S) (s b : List ℕ) →
    Knows s b (serving step at (message_at s) (has_bad_header s)) (serving step at (message_at (s ++ b)) (has_bad_header (s ++ b)))
serving-known {S = S} step at s b =
    elim (message_at s) as (λ o. message_at s ≡ o → Knows s b (serving step at o (has_bad_header s)) (serving step at (message_at (s ++ b)) (has_bad_header (s ++ b)))) [
      | None ↦ λ e. by_header (has_bad_header s) refl
      | Some m ↦ λ e.
          subst (λ (o : Option (RawMessage × List ℕ)). Knows s b (reading step at m.0 m.1 (frame_or_fault m.0)) (serving step at o (has_bad_header (s ++ b)))) (sym (message_at-Reader s m.0 m.1 b e))
          (reading-known step at s b m.0 m.1 (frame_or_fault m.0) (message_at-behind s m.0 m.1 e))
    ] refl
  where
    by_header : (t : Bool) → has_bad_header s ≡ t → Knows s b (serving step at None t) (serving step at (message_at (s ++ b)) (has_bad_header (s ++ b)))
    by_header false e = tt
    by_header true e =
        let later = bad-header s b e in
        ap (λ (o : Option (RawMessage × List ℕ)). serving step at o (has_bad_header (s ++ b))) later.1 ∙ ap (serving step at None) later.0

pub front-known : {S : Type 0} (step : Step S) (at : Standing S) (s b : List ℕ) → Knows s b (front step at s) (front step at (s ++ b))
front-known step at s b = by_stage at.stage s
  where
    by_stage : (stage : Stage) (s : List ℕ) → Knows s b (at_stage step at s stage) (at_stage step at (s ++ b) stage)
    by_stage Opening s = opened-known at s b (opening_in_front s) (opening_in_front (s ++ b)) (opening-known s b)
    by_stage Serves s = serving-known step at s b
    by_stage Over [] = tt
    by_stage Over (x ∷ s) = refl

-- what is left is shorter
pub front-behind : {S : Type 0} (step : Step S) (at : Standing S) (s said : List ℕ) (next : Standing S) (rest : List ℕ) → front step at s ≡ Says said next rest → IsBehind s rest 1
front-behind {S = S} step at s said next rest e =
    (subst (λ (x : Front S). Knows s [] x (front step at (s ++ []))) e (front-known step at s [])).0
