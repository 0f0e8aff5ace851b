-- The digits of a number as a text of the protocol.
use Rattle.std.proofs.Common.{◌≡◌, ℕ, zero, suc, ◌<◌, ◌≤◌, true, false, ◌||◌, List, [], ◌∷◌, ◌++◌, length, Some, decimal, refl, sym, ap, ◌∙◌, arith, ne_eqb}
use Rattle.std.specs.Char.{digit_value}
use Rattle.std.specs.Option.{option_and_then}
use Rattle.std.specs.Str.{is_utf8}
use Rattle.std.specs.Str.Parse.{AllDigits}
use Rattle.std.proofs.lemmas.Fmt.{IsAscii-decimal, decimal_is_IsNumeral, length-decimal-le}
use Rattle.std.proofs.lemmas.Str.{IsUtf8-from_ascii, is_utf8-from_IsUtf8}
use Rattle.pg_spec.specs.Bytes.{text0_at}
use Rattle.pg_spec.specs.Frames.{has_zero}

-- another byte than zero
not_zero : (b : ℕ) (text : List ℕ) → has_zero (suc b ∷ text) ≡ has_zero text
not_zero b text = ap (λ first. first || has_zero text) (ne_eqb (suc b) 0 (λ e. omega (arith, e)))

-- no digit is a zero byte
digits-no_zero : (text : List ℕ) → AllDigits 10 text → has_zero text ≡ false
digits-no_zero [] digits = refl
digits-no_zero (zero ∷ text) digits = absurd (not_digit digits.0)
  where
    not_digit : digit_value 0 < 10 → ⊥
    not_digit lt = omega (arith, lt)
digits-no_zero (suc b ∷ text) digits = not_zero b text ∙ digits-no_zero text digits.1

pub decimal-no_zero : (n : ℕ) → n < 1000000 → has_zero (decimal n) ≡ false
decimal-no_zero n few = digits-no_zero (decimal n) (decimal_is_IsNumeral n (omega (arith, few))).0.1

pub decimal-utf8 : (n : ℕ) → n < 1000000 → is_utf8 (decimal n) ≡ true
decimal-utf8 n few = is_utf8-from_IsUtf8 (decimal n) (IsUtf8-from_ascii (decimal n) (IsAscii-decimal n (omega (arith, few))))

pub decimal-short : (n : ℕ) → n < 1000000 → length (decimal n) ≤ 6
decimal-short n few = length-decimal-le 6 n (omega arith) few (omega (arith, few))

-- a text without a zero byte is read up to the one that ends it
pub text0_at_front : (text more : List ℕ) → has_zero text ≡ false → text0_at (text ++ 0 ∷ more) ≡ Some (text, more)
text0_at_front [] more none = refl
text0_at_front (zero ∷ text) more none = absurd cc
text0_at_front (suc b ∷ text) more none =
    ap (option_and_then (λ (rest : List ℕ × List ℕ). Some (suc b ∷ rest.0, rest.1))) (text0_at_front text more (sym (not_zero b text) ∙ none))
