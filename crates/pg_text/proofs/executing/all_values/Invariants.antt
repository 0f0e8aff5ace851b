use Rattle.std.proofs.Common.{length}
use Rattle.pg_text.specs.SessionText.{IsValue}
use Rattle.pg_text.specs.Words.{left_text, TookAll}
use Rattle.pg_text.proofs.executing.all_values.Given as goal

abbrev pub invariant-loop-alloc : goal.invariant-loop-alloc
invariant-loop-alloc l = TookAll IsValue l.values.items l.initial.words l.words

abbrev pub decreases-loop-alloc : goal.decreases-loop-alloc
decreases-loop-alloc l = length (left_text l.words)
