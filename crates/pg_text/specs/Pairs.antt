-- Types and values that stand in a line by turns, as they were read.
use Rattle.std.specs.Prelude.{◌≡◌, ℕ, List, map, Option, Some, None}
use Rattle.pg_types.specs.declared.value.Value.{Value}
use Rattle.pg_text.specs.SessionText.{IsPair}
use Rattle.pg_text.specs.Words.{AllWords}
use Rattle.pg_text.specs.declared.executing.Pairs.{Pairs}

-- these pairs were read
pub record ArePairs (pairs : List (ℕ × Value)) (read : Pairs) : Type 0 where
  pub types : read.types ≡ map (λ p. p.0) pairs
  pub values : read.values ≡ map (λ p. p.1) pairs

-- all words that stand there are pairs, and they were read; None: not all are
abbrev pub AllPairs : Option (List ℕ) → Option Pairs → Type 0
AllPairs old None = AllWords IsPair old None
AllPairs old (Some read) = (pairs : List (ℕ × Value)) × AllWords IsPair old (Some pairs) × ArePairs pairs read
