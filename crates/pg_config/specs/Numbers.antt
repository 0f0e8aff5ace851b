-- Numbers in texts: those that Rust's `parse` reads.
use Rattle.std.specs.Prelude.{◌==◌, ◌&&◌, ◌-◌, ◌^◌, ℕ, Bool, false, List, [], ◌∷◌, drop, Option, Some, None, option_map, nat_le, nat_lt, if◌then◌else◌}
use Rattle.std.specs.List.{list_all}
use Rattle.std.specs.Char.{digit_value}
use Rattle.std.specs.Str.{byte}
use Rattle.std.specs.Str.Parse.{digits_value}

-- one digit or more of this radix, and nothing else
abbrev pub is_numeral : ℕ → List ℕ → Bool
is_numeral radix [] = false
is_numeral radix (c ∷ digits) = list_all (λ d. nat_lt (digit_value d) radix) (c ∷ digits)

-- the number of at most this value that the digits write
abbrev pub numeral_of : (radix most : ℕ) → List ℕ → Option ℕ
numeral_of radix most digits =
    if is_numeral radix digits && nat_le (digits_value radix digits) most then Some (digits_value radix digits) else None

-- a text that begins with this character
abbrev pub begins_with : ℕ → List ℕ → Bool
begins_with c [] = false
begins_with c (b ∷ rest) = b == c

-- an unsigned number of at most this value, before which a plus may stand
abbrev pub unsigned_of : (most : ℕ) → List ℕ → Option ℕ
unsigned_of most text = numeral_of 10 most (if begins_with (byte "+") text then drop 1 text else text)

-- a number of seconds of 64 bits with a sign, before which a plus or a minus may stand; less than none is none
abbrev pub seconds_of : List ℕ → Option ℕ
seconds_of text =
    if begins_with (byte "-") text then option_map (λ n. 0) (numeral_of 10 (2 ^ 63) (drop 1 text)) else unsigned_of (2 ^ 63 - 1) text
