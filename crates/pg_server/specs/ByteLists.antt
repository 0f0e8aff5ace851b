-- Bytes, and a number behind them that is none.
use Rattle.std.specs.Prelude.{ℕ, Bool, false, not, List, [], ◌∷◌, nat_lt}
use Rattle.std.specs.List.{list_all}

-- a number that a byte has
abbrev pub is_byte : ℕ → Bool
is_byte n = nat_lt n 256

-- each of them is one
abbrev pub are_bytes : List ℕ → Bool
are_bytes bytes = list_all is_byte bytes

-- the last of them is none
abbrev pub is_ended : List ℕ → Bool
is_ended [] = false
is_ended (n ∷ []) = not (is_byte n)
is_ended (n ∷ m ∷ more) = is_ended (m ∷ more)

-- all but the last
abbrev pub but_last : List ℕ → List ℕ
but_last [] = []
but_last (n ∷ []) = []
but_last (n ∷ m ∷ more) = n ∷ but_last (m ∷ more)
