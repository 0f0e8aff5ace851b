-- A frame that is laid out is read as that frame.
use Rattle.std.proofs.Common.{◌≡◌, ℕ, Bool, true, false, not, ◌&&◌, ◌||◌, List, [], ◌∷◌, Some, Ok, Err, refl, sym, ap, ◌∙◌, cond}
use Rattle.std.specs.Prelude.{◌==◌, find, if◌then◌else◌}
use Rattle.std.specs.List.{list_any}
use Rattle.std.specs.Str.{byte}
use Rattle.std.proofs.lemmas.Bool.{eqb-true}
use Rattle.std.proofs.lemmas.Option.{option_and_then_some, some_pair_parts}
use Rattle.pg_spec.specs.Bytes.{◌>>=◌}
use Rattle.pg_spec.specs.ClientFrames as spec
use Rattle.pg_spec.specs.RawMessages.{RawMessage, message_at}
use Rattle.pg_types.specs.declared.faults.WireFault.TheVariants as wire
use Rattle.pg_server.specs.Frames.{is_known, is_text, with_texts}
use Rattle.pg_server.specs.Parsed.{is_answer, IsReadAs}

-- what was found is there
found-any : {X : Type 0} (p : X → Bool) (xs : List X) (x : X) → find p xs ≡ Some x → list_any p xs ≡ true
found-any p [] x e = absurd cc
found-any {X = X} p (y ∷ xs) x e = by_test (p y) (λ later. found-any p xs x later) e
  where
    by_test : (t : Bool) → (find p xs ≡ Some x → list_any p xs ≡ true) → cond t (Some y) (find p xs) ≡ Some x → (t || list_any p xs) ≡ true
    by_test true others e = refl
    by_test false others e = others e

-- the frame of the tag `p` is an answer
never_p : (raw : RawMessage) (frame : spec.ClientFrame) → spec.client_frame_of raw ≡ Some frame → is_answer frame ≡ false → (raw.tag == byte "p") ≡ false
never_p raw frame e none = by_test (raw.tag == byte "p") refl
  where
    by_test : (t : Bool) → (raw.tag == byte "p") ≡ t → t ≡ false
    by_test false is = refl
    by_test true is =
        let tag : raw.tag ≡ byte "p" = eqb-true raw.tag (byte "p") is in
        let body : spec.client_frame_of (record { tag = byte "p"; body = raw.body }) ≡ Some frame = ap (λ (t : ℕ). spec.client_frame_of (record { tag = t; body = raw.body })) (sym tag) ∙ e in
        let frame_is : spec.Answer raw.body ≡ frame = cc in
        ap is_answer frame_is ∙ none

known : (raw : RawMessage) (frame : spec.ClientFrame) → spec.client_frame_of raw ≡ Some frame → is_answer frame ≡ false → is_known raw.tag ≡ true
known raw frame e none =
    option_and_then_some (λ (layout : spec.Layout). layout.body raw.body) (find (λ (layout : spec.Layout). layout.tag == raw.tag) spec.layouts) frame e (λ layout at made.
    ap (λ (t : Bool). t && not (raw.tag == byte "p")) (found-any (λ (layout : spec.Layout). layout.tag == raw.tag) spec.layouts layout at)
    ∙ ap (λ (t : Bool). true && not t) (never_p raw frame e none))

pub laid-out : (bytes rest : List ℕ) (frame : spec.ClientFrame) → spec.client_frame_at bytes ≡ Some (frame, rest) → is_answer frame ≡ false → is_text frame ≡ true → IsReadAs bytes rest frame
laid-out bytes rest frame e none text =
    option_and_then_some (λ (raw : RawMessage × List ℕ). spec.client_frame_of raw.0 >>= λ frame. Some (frame, raw.1)) (message_at bytes) (frame, rest) e (λ raw at later.
    option_and_then_some (λ (frame : spec.ClientFrame). Some (frame, raw.1)) (spec.client_frame_of raw.0) (frame, rest) later (λ found is made.
    let parts = some_pair_parts found frame raw.1 rest made in
    let of : spec.client_frame_of raw.0 ≡ Some frame = is ∙ ap (λ (f : spec.ClientFrame). Some f) parts.0 in
    record {
      raw = raw.0;
      front = at ∙ ap (λ (b : List ℕ). Some (raw.0, b)) parts.1;
      means = ap (λ (t : Bool). if t then with_texts (spec.client_frame_of raw.0) else Err wire.UnknownTag) (known raw.0 frame of none)
          ∙ ap with_texts of ∙ ap (λ (t : Bool). if t then Ok frame else Err wire.NotUtf8) text;
    }))
