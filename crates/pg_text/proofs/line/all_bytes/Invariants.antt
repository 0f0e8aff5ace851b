use Rattle.std.proofs.Common.{◌≡◌, ℕ, List, length}
use Rattle.std.specs.List.{concat}
use Rattle.pg_spec.specs.SessionText.{IsBytes}
use Rattle.pg_text.specs.Words.{left_text, TookAll}
use Rattle.pg_text.proofs.line.all_bytes.Given as goal

abbrev pub invariant-loop-alloc : goal.invariant-loop-alloc
invariant-loop-alloc l = (pieces : List (List ℕ)) × TookAll IsBytes pieces l.initial.words l.words × (l.entry.items ≡ concat pieces)

abbrev pub decreases-loop-alloc : goal.decreases-loop-alloc
decreases-loop-alloc l = length (left_text l.words)
