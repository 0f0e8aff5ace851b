-- Numbers, texts, items and values that were written are read back.
use Rattle.std.proofs.Common.{◌≡◌, ℕ, zero, suc, ◌^◌, ◌<◌, Bool, true, false, cond, List, [], ◌∷◌, ◌++◌, length, Option, Some, None, refl, sym, ap, ◌∙◌, arith, append_assoc, append-nil, length-append, ℤ, pos, ◌==◌}
use mir.Val.{SFits}
use lib.IntN.{negsuc}
use Rattle.std.specs.Prelude.{◌||◌, nat_lt, flat_map}
use Rattle.std.specs.List.{AllByRecursion}
use Rattle.std.specs.Option.{option_and_then}
use Rattle.std.specs.Int.{w16, w32, from_be_bytes, to_be_bytes, cast_signed, cast_unsigned}
use Rattle.std.proofs.lemmas.Bool.{lt-ltb, ne_eqb}
use Rattle.std.proofs.lemmas.Int.{ints, to_z-of_z}
use Rattle.std.proofs.lemmas.Nat.{from_be_bytes-to_be_bytes_2}
use Rattle.pg_spec.specs.Bytes.{◌>>=◌, bytes_at, number_at, signed_at, text0, text0_at}
use Rattle.pg_spec.specs.Frames.{has_zero, value_bytes}
use Rattle.pg_spec.proofs.Readers.{bytes_at_front, number_at_front}
use Rattle.pg_spec.specs.ClientFrames.{items_at, counted_at, value_at}

pub or_false : (a b : Bool) → (a || b) ≡ false → (a ≡ false) × (b ≡ false)
or_false true b e = absurd cc
or_false false b e = (refl, e)

-- ---- texts

pub text0_front : (t more : List ℕ) → has_zero t ≡ false → text0_at (text0 t ++ more) ≡ Some (t, more)
text0_front [] more e = refl
text0_front (zero ∷ t) more e = absurd cc
text0_front (suc b ∷ t) more e =
    ap (option_and_then (λ (x : List ℕ × List ℕ). Some (suc b ∷ x.0, x.1))) (text0_front t more (or_false (suc b == 0) (has_zero t) e).1)

pub text0_whole : (t : List ℕ) → has_zero t ≡ false → text0_at (text0 t) ≡ Some (t, [])
text0_whole t e = ap text0_at (sym (append-nil (text0 t))) ∙ text0_front t [] e

-- ---- numbers

pub number16_front : (n : ℕ) (more : List ℕ) → n < 2 ^ 16 → number_at w16 (to_be_bytes w16 n ++ more) ≡ Some (n, more)
number16_front n more fits =
    ap (option_and_then (λ (digits : List ℕ × List ℕ). Some (from_be_bytes w16 digits.0, digits.1)))
    (bytes_at_front (to_be_bytes w16 n) more 2 refl)
    ∙ ap (λ (v : ℕ). Some (v, more)) (from_be_bytes-to_be_bytes_2 n fits)

within16 : (z : ℤ) → SFits w16 z → cast_unsigned w16 z < 2 ^ 16
within16 (pos n) fits = omega (arith, ints, fits.sfits)
within16 (negsuc n) fits = omega (arith, ints)

within32 : (z : ℤ) → SFits w32 z → cast_unsigned w32 z < 2 ^ 32
within32 (pos n) fits = omega (arith, ints, fits.sfits)
within32 (negsuc n) fits = omega (arith, ints)

pub signed16_front : (z : ℤ) (more : List ℕ) → SFits w16 z → signed_at w16 (to_be_bytes w16 (cast_unsigned w16 z) ++ more) ≡ Some (z, more)
signed16_front z more fits =
    ap (option_and_then (λ (n : ℕ × List ℕ). Some (cast_signed w16 n.0, n.1))) (number16_front (cast_unsigned w16 z) more (within16 z fits))
    ∙ ap (λ (x : ℤ). Some (x, more)) (to_z-of_z w16 z fits)

pub signed32_front : (z : ℤ) (more : List ℕ) → SFits w32 z → signed_at w32 (to_be_bytes w32 (cast_unsigned w32 z) ++ more) ≡ Some (z, more)
signed32_front z more fits =
    ap (option_and_then (λ (n : ℕ × List ℕ). Some (cast_signed w32 n.0, n.1))) (number_at_front (cast_unsigned w32 z) more (within32 z fits))
    ∙ ap (λ (x : ℤ). Some (x, more)) (to_z-of_z w32 z fits)

-- ---- items

-- the item is read back, whatever follows
abbrev pub ReadsBack : {A : Type 0} → (List ℕ → Option (A × List ℕ)) → (A → List ℕ) → A → Type 0
ReadsBack item spell x = (more : List ℕ) → item (spell x ++ more) ≡ Some (x, more)

pub items_front : {A : Type 0} (item : List ℕ → Option (A × List ℕ)) (spell : A → List ℕ) (xs : List A) (more : List ℕ) →
    AllByRecursion (ReadsBack item spell) xs → items_at (length xs) item (flat_map spell xs ++ more) ≡ Some (xs, more)
items_front item spell [] more all = refl
items_front {A = A} item spell (x ∷ xs) more all =
    ap (items_at (suc (length xs)) item) (append_assoc (spell x) (flat_map spell xs) more)
    ∙ ap (option_and_then (λ (first : A × List ℕ). items_at (length xs) item first.1 >>= λ others. Some (first.0 ∷ others.0, others.1)))
    (all.0 (flat_map spell xs ++ more))
    ∙ ap (option_and_then (λ (others : List A × List ℕ). Some (x ∷ others.0, others.1))) (items_front item spell xs more all.1)

pub counted_front : {A : Type 0} (item : List ℕ → Option (A × List ℕ)) (spell : A → List ℕ) (xs : List A) (more : List ℕ) → length xs < 2 ^ 16 →
    AllByRecursion (ReadsBack item spell) xs → counted_at item (to_be_bytes w16 (length xs) ++ (flat_map spell xs ++ more)) ≡ Some (xs, more)
counted_front item spell xs more few all =
    ap (option_and_then (λ (count : ℕ × List ℕ). items_at count.0 item count.1)) (number16_front (length xs) (flat_map spell xs ++ more) few)
    ∙ items_front item spell xs more all

-- ---- values

-- what a length makes of the bytes behind it
abbrev by_length : ℕ × List ℕ → Option (Option (List ℕ) × List ℕ)
by_length n = cond (n.0 == 4294967295) (Some (None, n.1)) (cond (nat_lt n.0 (2 ^ 31)) (bytes_at n.0 n.1 >>= λ value. Some (Some value.0, value.1)) None)

-- a value of so many bytes
abbrev by_tests : Bool → Bool → List ℕ → List ℕ → Option (Option (List ℕ) × List ℕ)
by_tests null short v more =
    cond null (Some (None, v ++ more)) (cond short (bytes_at (length v) (v ++ more) >>= λ value. Some (Some value.0, value.1)) None)

pub value_front : (value : Option (List ℕ)) → length (value_bytes value) < 2 ^ 31 → ReadsBack value_at value_bytes value
value_front None fits more = ap (option_and_then by_length) (number_at_front 4294967295 more (omega arith))
value_front (Some v) fits more =
    let small : length v < 2 ^ 31 = omega (arith, fits, length-append (to_be_bytes w32 (length v)) v) in
    ap value_at (append_assoc (to_be_bytes w32 (length v)) v more)
    ∙ ap (option_and_then by_length) (number_at_front (length v) (v ++ more) (omega (arith, small)))
    ∙ ap (λ b. by_tests b (nat_lt (length v) (2 ^ 31)) v more) (ne_eqb (length v) 4294967295 (λ is. omega (arith, small, is)))
    ∙ ap (λ b. by_tests false b v more) (lt-ltb (length v) (2 ^ 31) small)
    ∙ ap (option_and_then (λ (value : List ℕ × List ℕ). Some (Some value.0, value.1))) (bytes_at_front v more (length v) refl)

pub values_fit : (values : List (Option (List ℕ))) → length (flat_map value_bytes values) < 2 ^ 31 → AllByRecursion (ReadsBack value_at value_bytes) values
values_fit [] fits = tt
values_fit (value ∷ values) fits =
    let size = length-append (value_bytes value) (flat_map value_bytes values) in
    (value_front value (omega (arith, size, fits)), values_fit values (omega (arith, size, fits)))
