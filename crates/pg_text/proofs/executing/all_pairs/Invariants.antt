use Rattle.std.proofs.Common.{◌≡◌, ℕ, List, length}
use Rattle.pg_types.specs.declared.value.Value.{Value}
use Rattle.pg_text.specs.SessionText.{IsPair}
use Rattle.pg_text.specs.Pairs.{ArePairs}
use Rattle.pg_text.specs.Words.{left_text, TookAll}
use Rattle.pg_text.proofs.executing.all_pairs.Given as goal

-- these pairs were read
abbrev pub invariant-loop-alloc : goal.invariant-loop-alloc
invariant-loop-alloc l = (pairs : List (ℕ × Value)) × TookAll IsPair pairs l.initial.words l.words × ArePairs pairs l.pairs

abbrev pub decreases-loop-alloc : goal.decreases-loop-alloc
decreases-loop-alloc l = length (left_text l.words)
