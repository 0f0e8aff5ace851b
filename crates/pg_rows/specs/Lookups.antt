-- The lookup of a column by its name, in other words.
use Rattle.std.specs.Prelude.{◌≡◌, ℕ, ◌<◌, List, [], length, slice_index_or}
use Rattle.std.specs.Str.{str_to_ascii_lowercase}

-- it is exactly this name
abbrev pub IsNamed : List ℕ → List ℕ → Type 0
IsNamed name n = n ≡ name

-- it is this name, with every ASCII letter in lower case
abbrev pub IsNamedInAnyCase : List ℕ → List ℕ → Type 0
IsNamedInAnyCase name n = str_to_ascii_lowercase n ≡ str_to_ascii_lowercase name

-- it holds of none of the names
abbrev pub HasNone : (List ℕ → Type 0) → List (List ℕ) → Type 0
HasNone P names = (k : ℕ) → k < length names → P (slice_index_or names k []) → ⊥

-- it holds of the name at this place, and of none before
pub record IsFirst (P : List ℕ → Type 0) (names : List (List ℕ)) (place : ℕ) : Type 0 where
  pub there : place < length names
  pub holds : P (slice_index_or names place [])
  pub before : (k : ℕ) → k < place → P (slice_index_or names k []) → ⊥
