-- Bytes that are copied to the front of others.
use Rattle.std.specs.Prelude.{◌≡◌, ℕ, List, ◌++◌, length, take, min}

-- the front of `out` is as much of these bytes as fits: n of them
pub record Copied (all out : List ℕ) (n : ℕ) : Type 0 where
  pub count : n ≡ min (length all) (length out)
  pub front : take n out ≡ take n all

-- Whatever was copied before, a piece was copied behind it.
abbrev pub Lengthens : (piece old : List ℕ) → ℕ → (new : List ℕ) → ℕ → Type 0
Lengthens piece old n new m = (all : List ℕ) → Copied all old n → Copied (all ++ piece) new m
