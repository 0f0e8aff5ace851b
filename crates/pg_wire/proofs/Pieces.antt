-- A whole message in front of some bytes.
use Rattle.std.proofs.Common.{◌≡◌, ℕ, suc, ◌+◌, ◌-◌, Bool, inl, inr, ◌^◌, ◌<◌, ◌≤◌, true, cond, List, [], ◌∷◌, length, take, drop, Option, Some, None, refl, sym, ap, subst, ◌∙◌, arith, if◌then◌else◌, ℤ, pos, ◌≤ℤ◌, to_z, of_z}
use Rattle.std.specs.Option.{option_and_then}
use Rattle.std.specs.Int.{w32, from_be_bytes}
use Rattle.std.proofs.lemmas.Bool.{le-leb, le-ltb, lt-ltb, cases_lt}
use Rattle.std.proofs.lemmas.List.{length-take-le}
use Rattle.std.proofs.Math.Seq.{take-length, drop-length}
use Rattle.pg_spec.specs.Bytes.{◌>>=◌, bytes_at}
use Rattle.pg_spec.specs.RawMessages.{RawMessage, is_length, message_at}
use Rattle.pg_spec.proofs.Readers.{bytes_at_front}
use Rattle.pg_wire.specs.Header.{length_field, StandsAtFront, HasBadLength, len_of}
use Rattle.pg_wire.specs.declared.header.Header.{Header}
use Rattle.pg_types.specs.declared.faults.WireFault.{WireFault}
use Rattle.pg_types.specs.declared.faults.WireFault.TheVariants.{BadLength}
use Rattle.pg_wire.specs.Fronts.{IsWhole}
use lib.IntN.{nat_abs, negsuc}
use mir.Val.{sel}
use Rattle.std.proofs.lemmas.Int.{ints, by_lt_z}
use Rattle.std.specs.Prelude.{Ok, Err, IfSome, Result, ◌↔◌}

-- what is made of a length and a body
abbrev made : ℕ → ℕ → List ℕ → List ℕ → Option (RawMessage × List ℕ)
made tag n body rest = if is_length n then Some (record { tag = tag; body = body }, rest) else None

is_length_of : (n : ℕ) → 4 ≤ n → n < 2 ^ 31 → is_length n ≡ true
is_length_of n low high = rw (le-leb 4 n low, lt-ltb n (2 ^ 31) high) refl

bytes_at_all : (n : ℕ) (r : List ℕ) → n ≤ length r → bytes_at n r ≡ Some (take n r, drop n r)
bytes_at_all n r fits = ap (λ b. cond b (Some (take n r, drop n r)) None) (le-leb n (length r) fits)

-- the header and the body
message_is : (t a b c d : ℕ) (r : List ℕ) (len : ℕ) → len ≡ from_be_bytes w32 (a ∷ b ∷ c ∷ d ∷ []) → 4 ≤ len → len < 2 ^ 31 → len - 4 ≤ length r →
    message_at (t ∷ a ∷ b ∷ c ∷ d ∷ r) ≡ Some (record { tag = t; body = take (len - 4) r }, drop (len - 4) r)
message_is t a b c d r len is low high fits =
    ap (option_and_then (λ (n : ℕ × List ℕ). bytes_at (n.0 - 4) n.1 >>= λ body. made t n.0 body.0 body.1))
    (ap (option_and_then (λ (digits : List ℕ × List ℕ). Some (from_be_bytes w32 digits.0, digits.1))) (bytes_at_front (a ∷ b ∷ c ∷ d ∷ []) r 4 refl)
    ∙ ap (λ (n : ℕ). Some (n, r)) (sym is))
    ∙ ap (option_and_then (λ (body : List ℕ × List ℕ). made t len body.0 body.1)) (bytes_at_all (len - 4) r fits)
    ∙ ap (λ x. cond x (Some (record { tag = t; body = take (len - 4) r }, drop (len - 4) r)) None) (is_length_of len low high)

-- the same message, with nothing behind it
alone_is : (t a b c d : ℕ) (r : List ℕ) (len : ℕ) → len ≡ from_be_bytes w32 (a ∷ b ∷ c ∷ d ∷ []) → 4 ≤ len → len < 2 ^ 31 → len - 4 ≤ length r →
    message_at (t ∷ a ∷ b ∷ c ∷ d ∷ take (len - 4) r) ≡ Some (record { tag = t; body = take (len - 4) r }, [])
alone_is t a b c d r len is low high fits =
    let body = take (len - 4) r in
    let size : length body ≡ len - 4 = length-take-le (len - 4) r fits in
    let all : take (len - 4) body ≡ body = ap (λ k. take k body) (sym size) ∙ take-length body in
    let none : drop (len - 4) body ≡ [] = ap (λ k. drop k body) (sym size) ∙ drop-length body in
    message_is t a b c d body len is low high (omega (arith, size))
    ∙ ap (λ (x : List ℕ). Some (record { tag = t; body = x }, drop (len - 4) body)) all
    ∙ ap (λ (x : List ℕ). Some (record { tag = t; body = body }, x)) none

whole_in_front : (s : List ℕ) (len : ℕ) → 5 ≤ length s → len ≡ from_be_bytes w32 (take 4 (drop 1 s)) →
    4 ≤ len → len < 2 ^ 31 → len + 1 ≤ length s → IsWhole s (len + 1)
whole_in_front [] len five is low high fits = absurd (omega arith)
whole_in_front (t ∷ []) len five is low high fits = absurd (omega arith)
whole_in_front (t ∷ a ∷ []) len five is low high fits = absurd (omega arith)
whole_in_front (t ∷ a ∷ b ∷ []) len five is low high fits = absurd (omega arith)
whole_in_front (t ∷ a ∷ b ∷ c ∷ []) len five is low high fits = absurd (omega arith)
whole_in_front (t ∷ a ∷ b ∷ c ∷ d ∷ r) len five is low high fits =
    let P : ℕ → Type 0 = λ n. IsWhole (t ∷ a ∷ b ∷ c ∷ d ∷ r) n in
    let e : suc (suc (suc (suc (suc (len - 4))))) ≡ len + 1 = omega arith in
    let room : len - 4 ≤ length r = omega arith in
    subst P e (record {
      some = omega arith;
      fits = omega arith;
      front = message_is t a b c d r len is low high room;
      alone = alone_is t a b c d r len is low high room;
    })

-- as the header's length says
pub whole_by_header : (s : List ℕ) (len : ℤ) → 5 ≤ length s → len ≡ length_field s → pos 4 ≤ℤ len →
    nat_abs (to_z w32 (of_z w32 len)) + 1 ≤ length s → IsWhole s (nat_abs (to_z w32 (of_z w32 len)) + 1)
whole_by_header s len five is low fits =
    let n = from_be_bytes w32 (take 4 (drop 1 s)) in
    let low_n : pos 4 ≤ℤ to_z w32 n = subst (λ (z : ℤ). pos 4 ≤ℤ z) is low in
    let as_pos : len ≡ pos n = is ∙ positive n low_n in
    let small : n < 2 ^ 31 = below n low_n in
    let same : nat_abs (to_z w32 (of_z w32 len)) ≡ n = ap (λ (z : ℤ). nat_abs (to_z w32 (of_z w32 z))) as_pos ∙ back n small in
    let low' : 4 ≤ n = omega (arith, ints, subst (λ (z : ℤ). pos 4 ≤ℤ z) as_pos low) in
    let fits' : n + 1 ≤ length s = subst (λ (k : ℕ). k + 1 ≤ length s) same fits in
    subst (λ (k : ℕ). IsWhole s (k + 1)) (sym same) (whole_in_front s n five refl low' small fits')
  where
    negative : (k : ℕ) → pos 4 ≤ℤ negsuc k → ⊥
    negative k h = omega (arith, ints)

    below : (n : ℕ) → pos 4 ≤ℤ to_z w32 n → n < 2 ^ 31
    below n low = elim (cases_lt n (2 ^ 31)) [
      | inl small ↦ small
      | inr large ↦ absurd (negative (2 ^ 32 - suc n) (subst (λ (b : Bool). pos 4 ≤ℤ sel b (pos n) (negsuc (2 ^ 32 - suc n))) (le-ltb n (2 ^ 31) large) low))
    ]

    positive : (n : ℕ) → pos 4 ≤ℤ to_z w32 n → to_z w32 n ≡ pos n
    positive n low = let small = below n low in omega (arith, ints)

    back : (n : ℕ) → n < 2 ^ 31 → nat_abs (to_z w32 (of_z w32 (pos n))) ≡ n
    back n small = omega (arith, ints)

-- a header that was read, or none
abbrev read : Option Header → Result (Option Header) WireFault
read found = Ok found

-- the header that was read says how long the message is
pub whole_by_parse : (s : List ℕ) (found : Option Header) (h : Header) (len : ℤ) → found ≡ Some h →
    ((read found ≡ read None) ↔ (length s < 5)) → IfSome found (StandsAtFront s) →
    ((read found ≡ Err BadLength) ↔ HasBadLength s) → len ≡ len_of h →
    nat_abs (to_z w32 (of_z w32 len)) + 1 ≤ length s → IsWhole s (nat_abs (to_z w32 (of_z w32 len)) + 1)
whole_by_parse s found h len e incomplete stands bad is fits =
    let five : 5 ≤ length s = elim (cases_lt (length s) 5) [ inl short ↦ absurd (none_found (incomplete.1 short)) | inr enough ↦ enough ] in
    let whole : StandsAtFront s h = subst (λ (o : Option Header). IfSome o (StandsAtFront s)) e stands in
    let low : pos 4 ≤ℤ length_field s = by_lt_z (length_field s) (pos 4) (λ less. absurd (no_err (bad.1 (five, less)))) (λ more. more) in
    whole_by_header s len five (is ∙ whole.len) (subst (λ (z : ℤ). pos 4 ≤ℤ z) (sym (is ∙ whole.len)) low) fits
  where
    none_found : read found ≡ read None → ⊥
    none_found f = cc

    no_err : read found ≡ Err BadLength → ⊥
    no_err f = cc
