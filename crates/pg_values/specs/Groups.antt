-- A number in base 10,000, as it is written under numeric (PostgreSQL source, numeric.c, numeric_send).
use Rattle.std.specs.Prelude.{◌≡◌, ◌≢◌, ◌≤◌, ◌<◌, ◌≤ℤ◌, ◌⊎◌, ℕ, ◌+◌, ◌-◌, ◌*◌, ◌^◌, List, ◌++◌, length, ℤ, pos, true}
use Rattle.std.specs.Int.{w16, to_be_bytes}
use Rattle.pg_values.specs.Numbers.{i16_bytes}
use Rattle.pg_values.specs.Numerics.{digits_value, AreDigits, AreDigitsOf, IsNumericOf, plus, minus}

-- a number above zero: its last digit that isn't zero, the number of those in front of it, and how many zeros are behind it
pub record AreGroups (number front last zeros : ℕ) : Type 0 where
  pub sum : (front * 10000 + last) * 10000 ^ zeros ≡ number
  pub some : last ≢ 0
  pub below : last < 10000
  pub few : front < 10 ^ 38
  pub few_zeros : zeros ≤ 11

-- bytes that spell so many digits, which are those of the number
pub record AreDigitsIn (number len : ℕ) (bytes : List ℕ) : Type 0 where
  pub digits : List ℕ
  pub are : AreDigits digits bytes
  pub count_is : length digits ≡ len
  pub sum : digits_value (len - 1) digits ≡ number

-- what stands in front of the digits
abbrev pub head_bytes : (len : ℕ) → (weight : ℤ) → (sign scale : ℕ) → List ℕ
head_bytes len weight sign scale = to_be_bytes w16 len ++ (i16_bytes weight ++ (to_be_bytes w16 sign ++ to_be_bytes w16 scale))

-- bytes in the written form, whose digits are those of the number divided by ten to the power of scale
pub record IsWrittenNumber (number sign scale : ℕ) (bytes : List ℕ) : Type 0 where
  pub weight : ℤ
  pub digits : List ℕ
  pub form : IsNumericOf true sign scale weight digits bytes
  pub digits_are : AreDigitsOf number scale weight digits

-- a sign that the number may have
abbrev pub IsSignOf : ℤ → ℕ → Type 0
IsSignOf number sign = (sign ≡ plus) × (pos 0 ≤ℤ number) ⊎ (sign ≡ minus) × (number ≤ℤ pos 0)
