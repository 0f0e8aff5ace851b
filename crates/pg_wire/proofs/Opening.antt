-- Frames without a tag that were written are read back.
use Rattle.std.proofs.Common.{◌≡◌, ℕ, ◌+◌, ◌-◌, ◌^◌, ◌<◌, Bool, true, false, cond, List, [], ◌∷◌, ◌++◌, length, map, Option, Some, None, Result, Ok, refl, sym, ap, subst, ◌∙◌, arith, append_assoc, ◌==◌}
use Rattle.std.specs.Prelude.{nat_lt}
use Rattle.std.specs.List.{list_any, AllByRecursion}
use Rattle.std.specs.Option.{option_and_then}
use Rattle.std.specs.Int.{w32, to_be_bytes}
use Rattle.std.proofs.lemmas.Bool.{le-leb, lt-ltb, ltb-false, ne_eqb}
use Rattle.std.proofs.lemmas.Option.{option_and_then_some, some_pair_parts}
use Rattle.std.proofs.lemmas.List.Folds.{list_any-append}
use Rattle.pg_spec.specs.Bytes.{◌>>=◌, bytes_at, number_at, text0, text0_at, items_of}
use Rattle.pg_spec.specs.Bodies.{name_at}
use Rattle.pg_spec.specs.Faults as spec
use Rattle.pg_spec.specs.Frames.{has_zero, unless_fault, untagged, startup_body, startup_frame}
use Rattle.pg_spec.specs.RawMessages.{is_length}
use Rattle.pg_spec.proofs.Readers.{Shrinks, bytes_at_front, number_at_front, items_of-some, items_of-none}
use Rattle.pg_wire.specs.Writes.{pairs_bytes}
use Rattle.pg_wire.proofs.ErrorSteps.{text0_at-Keeps}
use Rattle.pg_wire.proofs.SaslNames.{name_at-Shrinks}
use Rattle.pg_spec.specs.ClientFrames as found
use Rattle.pg_spec.specs.ClientFrames.{OpeningFrame, pair_at, if_ended, opening_by, opening_frame_at}
use Rattle.pg_wire.proofs.Numbers.{or_false, text0_front}

-- ---- any frame, by its first number

-- what is made of the length, of the code and of the frame
abbrev made : ℕ → List ℕ → OpeningFrame → Option (OpeningFrame × List ℕ)
made n behind frame = cond (is_length n) (Some (frame, behind)) None

abbrev by_code : ℕ → List ℕ → ℕ × List ℕ → Option (OpeningFrame × List ℕ)
by_code n behind code = opening_by code.0 code.1 >>= λ frame. made n behind frame

abbrev by_body : ℕ → List ℕ × List ℕ → Option (OpeningFrame × List ℕ)
by_body n body = number_at w32 body.0 >>= by_code n body.1

pub opening_front : (code : ℕ) (rest more : List ℕ) (frame : OpeningFrame) → 8 + length rest < 2 ^ 31 → code < 2 ^ 32 → opening_by code rest ≡ Some frame →
    opening_frame_at (untagged (to_be_bytes w32 code ++ rest) ++ more) ≡ Some (frame, more)
opening_front code rest more frame short small means =
    let body : List ℕ = to_be_bytes w32 code ++ rest in
    let n : ℕ = 4 + length body in
    let fits : is_length n ≡ true = rw (le-leb 4 n (omega arith), lt-ltb n (2 ^ 31) (omega (arith, short))) refl in
    ap opening_frame_at (append_assoc (to_be_bytes w32 n) body more)
    ∙ ap (option_and_then (λ (m : ℕ × List ℕ). bytes_at (m.0 - 4) m.1 >>= by_body m.0)) (number_at_front n (body ++ more) (omega (arith, short)))
    ∙ ap (option_and_then (by_body n)) (bytes_at_front body more (n - 4) (omega arith))
    ∙ ap (option_and_then (by_code n more)) (number_at_front code rest small)
    ∙ ap (option_and_then (made n more)) means
    ∙ ap (λ b. cond b (Some (frame, more)) None) fits

-- ---- the pairs of a startup frame

abbrev HasName : List ℕ × List ℕ → Type 0
HasName pair = 0 < length pair.0

name_front : (name more : List ℕ) → 0 < length name → has_zero name ≡ false → name_at (text0 name ++ more) ≡ Some (name, more)
name_front name more some calm =
    ap (λ (o : Option (List ℕ × List ℕ)). elim o [ None ↦ None | Some text ↦ cond (length text.0 == 0) None (Some text) ]) (text0_front name more calm)
    ∙ ap (λ b. cond b None (Some (name, more))) (ne_eqb (length name) 0 (λ is. omega (arith, some, is)))

pair_front : (pair : List ℕ × List ℕ) (more : List ℕ) → HasName pair → has_zero pair.0 ≡ false → has_zero pair.1 ≡ false →
    pair_at (text0 pair.0 ++ (text0 pair.1 ++ more)) ≡ Some (pair, more)
pair_front pair more some calm also =
    ap (option_and_then (λ (name : List ℕ × List ℕ). text0_at name.1 >>= λ value. Some ((name.0, value.0), value.1)))
    (name_front pair.0 (text0 pair.1 ++ more) some calm)
    ∙ ap (option_and_then (λ (value : List ℕ × List ℕ). Some ((pair.0, value.0), value.1))) (text0_front pair.1 more also)

pair_at-Shrinks : Shrinks pair_at
pair_at-Shrinks bytes item rest e =
    option_and_then_some (λ (name : List ℕ × List ℕ). text0_at name.1 >>= λ value. Some ((name.0, value.0), value.1)) (name_at bytes) (item, rest) e
    (λ name at then. option_and_then_some (λ (value : List ℕ × List ℕ). Some ((name.0, value.0), value.1)) (text0_at name.1) (item, rest) then
    (λ value found last. subst (λ (l : List ℕ). length l < length bytes) (some_pair_parts (name.0, value.0) item value.1 rest last).1
    (omega (arith, name_at-Shrinks bytes name.0 name.1 at, text0_at-Keeps name.1 value.0 value.1 found))))

-- no text of the pairs holds a zero byte
abbrev no_zero : List (List ℕ × List ℕ) → Type 0
no_zero pairs = (list_any has_zero (map (λ pair. pair.0) pairs) ≡ false) × (list_any has_zero (map (λ pair. pair.1) pairs) ≡ false)

pairs_front : (pairs : List (List ℕ × List ℕ)) → AllByRecursion HasName pairs → no_zero pairs → items_of pair_at (pairs_bytes pairs ++ 0 ∷ []) ≡ (pairs, 0 ∷ [])
pairs_front [] named calm = items_of-none pair_at pair_at-Shrinks (0 ∷ []) refl
pairs_front (pair ∷ pairs) named calm =
    let more : List ℕ = pairs_bytes pairs ++ 0 ∷ [] in
    let names = or_false (has_zero pair.0) (list_any has_zero (map (λ p. p.0) pairs)) calm.0 in
    let values = or_false (has_zero pair.1) (list_any has_zero (map (λ p. p.1) pairs)) calm.1 in
    let behind : pairs_bytes (pair ∷ pairs) ++ 0 ∷ [] ≡ text0 pair.0 ++ (text0 pair.1 ++ more) = simp append_assoc in
    ap (items_of pair_at) behind
    ∙ items_of-some pair_at pair_at-Shrinks (text0 pair.0 ++ (text0 pair.1 ++ more)) pair more (pair_front pair more named.0 names.0 values.0)
    ∙ ap (λ (read : List (List ℕ × List ℕ) × List ℕ). (pair ∷ read.0, read.1)) (pairs_front pairs named.1 (names.1, values.1))

-- ---- the startup frame

record IsStartup (pairs : List (List ℕ × List ℕ)) (bytes : List ℕ) : Type 0 where
  calm : no_zero pairs
  short : 4 + length (startup_body pairs) < 2 ^ 31
  spelled : bytes ≡ untagged (startup_body pairs)

abbrev by_tests : Bool → Bool → List ℕ → Result (List ℕ) spec.FrameFault
by_tests zeros long bytes = unless_fault (cond zeros (Some spec.ZeroByte) (cond long (Some spec.TooLong) None)) bytes

abbrev texts_of : List (List ℕ × List ℕ) → List (List ℕ)
texts_of pairs = map (λ pair. pair.0) pairs ++ map (λ pair. pair.1) pairs

is_startup : (pairs : List (List ℕ × List ℕ)) (bytes : List ℕ) → startup_frame pairs ≡ Ok bytes → IsStartup pairs bytes
is_startup pairs bytes written = by_cases (list_any has_zero (texts_of pairs)) (nat_lt 2147483647 (4 + length (startup_body pairs))) refl refl written
  where
    by_cases : (zeros long : Bool) → list_any has_zero (texts_of pairs) ≡ zeros → nat_lt 2147483647 (4 + length (startup_body pairs)) ≡ long →
        by_tests zeros long (untagged (startup_body pairs)) ≡ Ok bytes → IsStartup pairs bytes
    by_cases true long z l e = absurd cc
    by_cases false true z l e = absurd cc
    by_cases false false z l e = record {
      calm = or_false _ _ (sym (list_any-append has_zero (map (λ pair. pair.0) pairs) (map (λ pair. pair.1) pairs)) ∙ z);
      short = omega (arith, ltb-false 2147483647 (4 + length (startup_body pairs)) l);
      spelled = cc;
    }

pub startup_back : (pairs : List (List ℕ × List ℕ)) (bytes more : List ℕ) → AllByRecursion HasName pairs → startup_frame pairs ≡ Ok bytes →
    opening_frame_at (bytes ++ more) ≡ Some (found.Startup pairs, more)
startup_back pairs bytes more named written =
    let is = is_startup pairs bytes written in
    ap (λ (b : List ℕ). opening_frame_at (b ++ more)) is.spelled
    ∙ opening_front 196608 (pairs_bytes pairs ++ 0 ∷ []) more (found.Startup pairs) (omega (arith, is.short)) (omega arith)
    (ap if_ended (pairs_front pairs named is.calm))
