-- Names and values of a startup frame.
use Rattle.std.proofs.Common.{◌≡◌, ℕ, ◌+◌, ◌-◌, ◌^◌, ◌<◌, ◌≤◌, Bool, true, false, cond, List, [], ◌∷◌, ◌++◌, length, take, get_or, map, min, Some, None, Result, Ok, Err, refl, sym, ap, subst, ◌∙◌, arith, append_assoc, length-append}
use Rattle.std.specs.Prelude.{◌||◌, nat_lt}
use Rattle.std.specs.List.{list_any}
use Rattle.std.specs.Int.{w32, to_be_bytes}
use Rattle.std.proofs.lemmas.Bool.{lt-ltb, le-ltb}
use Rattle.std.proofs.lemmas.List.Folds.{list_any-append, length-flat_map-take}
use Rattle.pg_spec.specs.Bytes.{text0}
use Rattle.pg_spec.specs.Faults as spec
use Rattle.pg_spec.specs.Frames.{has_zero, startup_body, startup_frame, unless_fault, untagged}
use Rattle.pg_types.specs.declared.faults.FrameFault.{FrameFault}
use Rattle.pg_types.specs.declared.faults.FrameFault.TheVariants as frame
use Rattle.pg_wire.specs.Faults as faults
use Rattle.pg_wire.specs.Writes.{IsRefusal, pair_bytes, pairs_bytes, pair_has_zero}

-- there is room for the next pair
pub room_for_pair : (pairs : List (List ℕ × List ℕ)) (i spare whole : ℕ) (pair : List ℕ × List ℕ) → i < length pairs → pair ≡ get_or pairs i pair →
    spare + length (pairs_bytes (take i pairs)) ≡ whole → length (pairs_bytes pairs) ≤ whole → (length pair.0 + 1) + (length pair.1 + 1) ≤ spare
room_for_pair pairs i spare whole pair within is left fits =
    let size : length (pair_bytes pair) ≡ (length pair.0 + 1) + (length pair.1 + 1) =
    omega (arith, length-append (text0 pair.0) (text0 pair.1), length-append pair.0 (0 ∷ []), length-append pair.1 (0 ∷ [])) in
    let some : length (pairs_bytes (take i pairs)) + length (pair_bytes pair) ≤ length (pairs_bytes pairs) =
    subst (λ (p : List ℕ × List ℕ). length (pairs_bytes (take i pairs)) + length (pair_bytes p) ≤ length (pairs_bytes pairs)) (sym is)
    (length-flat_map-take pair_bytes pairs i pair within) in
    omega (arith, size, some, left, fits)

-- ---- the frame of these pairs

same_pairs : (pairs : List (List ℕ × List ℕ)) → map (λ pair. (pair.0, pair.1)) pairs ≡ pairs
same_pairs [] = refl
same_pairs (pair ∷ pairs) = ap (λ others. pair ∷ others) (same_pairs pairs)

-- the pairs that were looked at are those of the parameters
pub pairs_are : (items seen view : List (List ℕ × List ℕ)) → map (λ pair. (pair.0, pair.1)) items ≡ view → seen ≡ items → seen ≡ view
pairs_are items seen view is same = same ∙ sym (same_pairs items) ∙ is

swapped : (a b c d : Bool) → ((a || c) || (b || d)) ≡ ((a || b) || (c || d))
swapped true b c d = refl
swapped false true true d = refl
swapped false true false d = refl
swapped false false c d = refl

zero_in_pairs : (pairs : List (List ℕ × List ℕ)) → list_any has_zero (map (λ pair. pair.0) pairs ++ map (λ pair. pair.1) pairs) ≡ list_any pair_has_zero pairs
zero_in_pairs pairs = list_any-append has_zero (map (λ pair. pair.0) pairs) (map (λ pair. pair.1) pairs) ∙ both pairs
  where
    both : (pairs : List (List ℕ × List ℕ)) →
        (list_any has_zero (map (λ pair. pair.0) pairs) || list_any has_zero (map (λ pair. pair.1) pairs)) ≡ list_any pair_has_zero pairs
    both [] = refl
    both (pair ∷ pairs) =
        swapped (has_zero pair.0) (has_zero pair.1) (list_any has_zero (map (λ p. p.0) pairs)) (list_any has_zero (map (λ p. p.1) pairs))
        ∙ ap (λ b. pair_has_zero pair || b) (both pairs)

-- what the two tests make of the frame
abbrev by_tests : Bool → Bool → List (List ℕ × List ℕ) → Result (List ℕ) spec.FrameFault
by_tests zeros long pairs = unless_fault (cond zeros (Some spec.ZeroByte) (cond long (Some spec.TooLong) None)) (untagged (startup_body pairs))

-- the length field is past the largest
abbrev is_long : List (List ℕ × List ℕ) → Bool
is_long pairs = nat_lt 2147483647 (4 + length (startup_body pairs))

zeros_are : (view seen : List (List ℕ × List ℕ)) (b : Bool) → seen ≡ view → b ≡ list_any pair_has_zero seen →
    list_any has_zero (map (λ pair. pair.0) view ++ map (λ pair. pair.1) view) ≡ b
zeros_are view seen b same is = zero_in_pairs view ∙ ap (list_any pair_has_zero) (sym same) ∙ sym is

pub startup_zero : (view seen : List (List ℕ × List ℕ)) → seen ≡ view → true ≡ list_any pair_has_zero seen → startup_frame view ≡ Err spec.ZeroByte
startup_zero view seen same zeros = ap (λ b. by_tests b (is_long view) view) (zeros_are view seen true same zeros)

body_size : (pairs : List (List ℕ × List ℕ)) → length (startup_body pairs) ≡ length (pairs_bytes pairs) + 5
body_size pairs = omega (arith, length-append (0 ∷ 3 ∷ 0 ∷ 0 ∷ pairs_bytes pairs) (0 ∷ []))

pub startup_long : (view seen : List (List ℕ × List ℕ)) (size body : ℕ) (fault : FrameFault) → seen ≡ view → false ≡ list_any pair_has_zero seen →
    size ≡ min (length (pairs_bytes seen)) (2 ^ 64 - 1) → body ≡ min (size + 5) (2 ^ 64 - 1) → (fault ≡ frame.TooLong) × (2147483647 < 4 + body) →
    IsRefusal (startup_frame view) (faults.frame_fault fault)
startup_long view seen size body fault same no_zeros is sum long =
    let size' : length (pairs_bytes seen) ≡ length (pairs_bytes view) = ap (λ (p : List (List ℕ × List ℕ)). length (pairs_bytes p)) same in
    let past : 2147483647 < 4 + length (startup_body view) = omega (arith, body_size view, size', is, sum, long.1) in
    let refused : startup_frame view ≡ Err spec.TooLong =
    ap (λ b. by_tests b (is_long view) view) (zeros_are view seen false same no_zeros)
    ∙ ap (λ b. by_tests false b view) (lt-ltb 2147483647 (4 + length (startup_body view)) past) in
    subst (λ (f : FrameFault). IsRefusal (startup_frame view) (faults.frame_fault f)) (sym long.0) refused

-- the parts, one behind another
joined : (old a b c d : List ℕ) → (((old ++ a) ++ b) ++ c) ++ d ≡ old ++ (a ++ ((b ++ c) ++ d))
joined old a b c d = simp append_assoc

pub startup_written : (view seen : List (List ℕ × List ℕ)) (size body len : ℕ) (old n0 digits n1 n2 n3 n4 : List ℕ) → seen ≡ view →
    false ≡ list_any pair_has_zero seen → size ≡ min (length (pairs_bytes seen)) (2 ^ 64 - 1) → body ≡ min (size + 5) (2 ^ 64 - 1) →
    (len ≡ 4 + body) × (len ≤ 2147483647) → n0 ≡ old → digits ≡ to_be_bytes w32 len → n1 ≡ n0 ++ digits → n2 ≡ n1 ++ 0 ∷ 3 ∷ 0 ∷ 0 ∷ [] →
    n3 ≡ n2 ++ pairs_bytes seen → n4 ≡ n3 ++ 0 ∷ [] → (bytes : List ℕ) × (startup_frame view ≡ Ok bytes) × (n4 ≡ old ++ bytes)
startup_written view seen size body len old n0 digits n1 n2 n3 n4 same no_zeros is sum fits e0 e e1 e2 e3 e4 =
    let size' : length (pairs_bytes seen) ≡ length (pairs_bytes view) = ap (λ (p : List (List ℕ × List ℕ)). length (pairs_bytes p)) same in
    let len' : len ≡ 4 + length (startup_body view) = omega (arith, body_size view, size', is, sum, fits.0, fits.1) in
    let short : 4 + length (startup_body view) ≤ 2147483647 = omega (arith, len', fits.1) in
    let made : startup_frame view ≡ Ok (untagged (startup_body view)) =
    ap (λ b. by_tests b (is_long view) view) (zeros_are view seen false same no_zeros)
    ∙ ap (λ b. by_tests false b view) (le-ltb 2147483647 (4 + length (startup_body view)) short) in
    let digits' : digits ≡ to_be_bytes w32 (4 + length (startup_body view)) = e ∙ ap (to_be_bytes w32) len' in
    let pairs : pairs_bytes seen ≡ pairs_bytes view = ap pairs_bytes same in
    let front : n1 ≡ old ++ to_be_bytes w32 (4 + length (startup_body view)) = cc in
    let all : n4 ≡ (((old ++ to_be_bytes w32 (4 + length (startup_body view))) ++ 0 ∷ 3 ∷ 0 ∷ 0 ∷ []) ++ pairs_bytes view) ++ 0 ∷ [] =
    e4 ∙ ap (λ (x : List ℕ). x ++ 0 ∷ [])
    (e3 ∙ ap (λ (x : List ℕ). n2 ++ x) pairs ∙ ap (λ (x : List ℕ). x ++ pairs_bytes view) (e2 ∙ ap (λ (x : List ℕ). x ++ 0 ∷ 3 ∷ 0 ∷ 0 ∷ []) front)) in
    (untagged (startup_body view), made, all ∙ joined old (to_be_bytes w32 (4 + length (startup_body view))) (0 ∷ 3 ∷ 0 ∷ 0 ∷ []) (pairs_bytes view) (0 ∷ []))
