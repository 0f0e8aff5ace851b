-- Drawn numbers: a linear congruential generator with the multiplier 69069, the increment 1 and the modulus 2 ^ 32 (G. Marsaglia, "The structure of linear congruential sequences").
use Rattle.std.specs.Prelude.{ℕ, zero, suc, ◌+◌, ◌*◌, ◌/◌, ◌%◌, ◌^◌}

-- the number behind this one
abbrev pub next_number : ℕ → ℕ
next_number x = (69069 * x + 1) % 2 ^ 32

-- what is drawn at a number: its high half, since the low bits of such numbers repeat soon
abbrev pub drawn : ℕ → ℕ
drawn x = x / 2 ^ 16

-- the number behind so many draws, from the seed on
abbrev pub number_after : (seed draws : ℕ) → ℕ
number_after seed zero = seed
number_after seed (suc draws) = next_number (number_after seed draws)

-- what is drawn, the draws counted from 0
abbrev pub draw : (seed i : ℕ) → ℕ
draw seed i = drawn (next_number (number_after seed i))
