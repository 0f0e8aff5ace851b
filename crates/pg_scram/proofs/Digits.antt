-- Iteration counts, as `parse` of std reads them.
use Rattle.std.proofs.Common.{◌≡◌, ◌≢◌, ℕ, ◌<◌, ◌&&◌, nat_le, if◌then◌else◌, List, [], ◌∷◌, get_or, Bool, true, false, Option, Some, None, refl, sym, ap, ◌∙◌, arith, inl, inr}
use Rattle.std.specs.Char.{is_ascii_digit}
use Rattle.std.specs.List.{list_all}
use Rattle.std.specs.Str.{all_ascii_digits, IsUtf8}
use Rattle.std.specs.Str.Parse.{digits_value, without_leading_plus, IsNumeral}
use Rattle.std.proofs.lemmas.Bool.{cases_lt, le-ltb}
use Rattle.std.proofs.lemmas.Str.Parse.{IsNumeralModel, numerals_by_value, tells_all_ascii_digits, without_leading_plus_none}
use Rattle.std.proofs.lemmas.Fmt.{IsAscii-from_digits}
use Rattle.std.proofs.lemmas.Str.{IsUtf8-from_ascii}
use Rattle.pg_spec.specs.Passwords.{iterations_of}

digits : IsNumeralModel (λ ds. all_ascii_digits ds ≡ true) (digits_value 10)
digits = numerals_by_value (λ ds. all_ascii_digits ds ≡ true) tells_all_ascii_digits

-- the test of each byte is the test of all
pub digits-all : (ds : List ℕ) → list_all is_ascii_digit ds ≡ all_ascii_digits ds
digits-all [] = refl
digits-all (d ∷ ds) = ap (λ b. is_ascii_digit d && b) (digits-all ds)

-- digits are a text
pub digits-utf8 : (ds : List ℕ) → all_ascii_digits ds ≡ true → IsUtf8 ds
digits-utf8 ds h = IsUtf8-from_ascii ds (IsAscii-from_digits ds (digits.to ds h))

-- digits begin with no plus
no-plus : (ds : List ℕ) → all_ascii_digits ds ≡ true → get_or ds 0 0 ≢ 43
no-plus [] h e = omega arith
no-plus (d ∷ ds) h e = cc (ap (λ x. is_ascii_digit x && all_ascii_digits ds) (sym e) ∙ h)

plain : (ds : List ℕ) → all_ascii_digits ds ≡ true → without_leading_plus ds ≡ ds
plain ds h = without_leading_plus_none ds (no-plus ds h)

too_big : (n : ℕ) (a b : Bool) → b ≡ false → ◌≡◌ {A = Option ℕ} (if a && b then Some n else None) None
too_big n true b e = rw e refl
too_big n false b e = refl

-- digits that `parse` refuses are no count
pub uncounted : (ds : List ℕ) → all_ascii_digits ds ≡ true
    → (IsNumeral 10 (without_leading_plus ds) × (digits_value 10 (without_leading_plus ds) < 4294967296) → ⊥) → iterations_of ds ≡ None
uncounted [] h refused = refl
uncounted (d ∷ ds) h refused =
    let plainly = rw (plain (d ∷ ds) h) at refused in
    elim (cases_lt (digits_value 10 (d ∷ ds)) 4294967296) [
      | inl lt ↦ absurd (plainly ((omega arith, digits.to (d ∷ ds) h), lt))
      | inr ge ↦ too_big (digits_value 10 (d ∷ ds)) (nat_le 1 (digits_value 10 (d ∷ ds))) _ (le-ltb _ _ ge)
    ]
