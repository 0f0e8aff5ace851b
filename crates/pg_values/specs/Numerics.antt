-- What bytes spell under numeric (PostgreSQL source, numeric.c, numeric_send): a count of digits, the weight of the first digit, a
-- sign, the scale, and the digits in base 10,000.
use Rattle.std.specs.Prelude.{FitsSigned, ◌≡◌, ◌≢◌, ◌≤◌, ◌<◌, ◌≤ℤ◌, ℕ, ◌+◌, ◌-◌, ◌*◌, ◌^◌, max, Bool, IsTrue, ◌⊎◌, List, [], ◌∷◌, ◌++◌, length, flat_map, ℤ, pos, negsuc, unsigned_abs, Option, Some, None}
use Rattle.std.specs.List.{AllByRecursion}
use Rattle.std.specs.Int.{w16, to_be_bytes}
use Rattle.pg_values.specs.Numbers.{i16_bytes}
use Rattle.pg_values.specs.declared.datum.Datum as d
use Rattle.pg_values.specs.declared.datum.Datum.{Datum}

-- Digit j of n stands for 10,000 to the power of weight - j. So that no power is below zero, all are raised by `shift`, and then the
-- first has the power `top`.
abbrev pub top : (weight : ℤ) → (n : ℕ) → ℕ
top (pos w) n = max w (n - 1)
top (negsuc w) n = n - 1

-- the powers by which all are raised
abbrev pub shift : (weight : ℤ) → (n : ℕ) → ℕ
shift (pos w) n = n - 1 - w
shift (negsuc w) n = n + w

-- the number of these digits, the first of this power
abbrev pub digits_value : ℕ → List ℕ → ℕ
digits_value power [] = 0
digits_value power (digit ∷ digits) = digit * 10000 ^ power + digits_value (power - 1) digits

-- the first digit, if there is one, isn't zero
abbrev pub HasFirst : List ℕ → Type 0
HasFirst [] = Unit {0}
HasFirst (x ∷ xs) = x ≢ 0

-- the last digit, if there is one, isn't zero
abbrev pub HasLast : List ℕ → Type 0
HasLast [] = Unit {0}
HasLast (x ∷ []) = x ≢ 0
HasLast (x ∷ (y ∷ xs)) = HasLast (y ∷ xs)

-- the digits that bytes spell, each in two
pub record AreDigits (digits bytes : List ℕ) : Type 0 where
  pub below : AllByRecursion (λ digit. digit < 10000) digits
  pub spelled : bytes ≡ flat_map (to_be_bytes w16) digits

-- the bytes of a numeric; `plain` asks for digits without a zero at either end
pub record IsNumericOf (plain : Bool) (sign scale : ℕ) (weight : ℤ) (digits bytes : List ℕ) : Type 0 where
  pub few : length digits < 2 ^ 15
  pub below : AllByRecursion (λ digit. digit < 10000) digits
  pub signed : sign < 2 ^ 16
  pub scaled : scale < 2 ^ 16
  pub fits : FitsSigned w16 weight
  pub spelled : bytes ≡ to_be_bytes w16 (length digits) ++ (i16_bytes weight ++ (to_be_bytes w16 sign ++ (to_be_bytes w16 scale ++ flat_map (to_be_bytes w16) digits)))
  pub first : IsTrue plain → HasFirst digits
  pub last : IsTrue plain → HasLast digits

-- the sign of a number that isn't below zero
abbrev pub plus : ℕ
plus = 0

-- of one that is
abbrev pub minus : ℕ
minus = 16384

-- of NaN
abbrev pub not_a_number : ℕ
not_a_number = 49152

-- the digits are those of unscaled, divided by ten to the power of scale
abbrev pub AreDigitsOf : (unscaled scale : ℕ) → (weight : ℤ) → (digits : List ℕ) → Type 0
AreDigitsOf unscaled scale weight digits = digits_value (top weight (length digits)) digits * 10 ^ scale ≡ unscaled * 10000 ^ shift weight (length digits)

-- a number in its digits; at most 38 decimals stand behind its point, and at most 38 in all
pub record IsNumberOf (sign scale : ℕ) (weight : ℤ) (digits : List ℕ) (v : Datum) : Type 0 where
  pub unscaled : ℤ
  pub same : v ≡ d.Numeric unscaled scale
  pub signs : (sign ≡ plus) × (pos 0 ≤ℤ unscaled) ⊎ (sign ≡ minus) × (unscaled ≤ℤ pos 0)
  pub number : AreDigitsOf (unsigned_abs unscaled) scale weight digits
  pub few : scale ≤ 38
  pub small : unsigned_abs unscaled < 10 ^ 38

-- NaN; nothing is asked of its weight, its scale and its digits
pub record IsNotANumber (sign : ℕ) (v : Datum) : Type 0 where
  pub same : v ≡ d.NotANumber
  pub sign_is : sign ≡ not_a_number

-- the value of a numeric that has this sign, scale, weight and these digits
abbrev pub IsNumeral : (sign scale : ℕ) → (weight : ℤ) → (digits : List ℕ) → Datum → Type 0
IsNumeral sign scale weight digits v = IsNumberOf sign scale weight digits v ⊎ IsNotANumber sign v

-- the value, where there is one
abbrev pub IsValueOf : (sign scale : ℕ) → (weight : ℤ) → (digits : List ℕ) → Option Datum → Type 0
IsValueOf sign scale weight digits None = (v : Datum) → IsNumeral sign scale weight digits v → ⊥
IsValueOf sign scale weight digits (Some v) = IsNumeral sign scale weight digits v

-- how zero and NaN are written: zero with plus and the weight 0, NaN without digits, with the weight 0 and the scale 0
pub record IsBare (sign scale : ℕ) (weight : ℤ) (digits : List ℕ) : Type 0 where
  pub zero : digits ≡ [] → (weight ≡ pos 0) × (sign ≢ minus)
  pub nan : sign ≡ not_a_number → (digits ≡ []) × (scale ≡ 0)

-- a numeric; `plain` asks for zero and NaN as they are written
pub record SpellsNumeric (plain : Bool) (v : Datum) (bytes : List ℕ) : Type 0 where
  pub sign : ℕ
  pub scale : ℕ
  pub weight : ℤ
  pub digits : List ℕ
  pub form : IsNumericOf plain sign scale weight digits bytes
  pub is : IsNumeral sign scale weight digits v
  pub bare : IsTrue plain → IsBare sign scale weight digits
