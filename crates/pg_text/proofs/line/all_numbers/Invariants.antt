use Rattle.std.proofs.Common.{length}
use Rattle.pg_spec.specs.SessionText.{IsNumber}
use Rattle.pg_text.specs.Words.{left_text, TookAll}
use Rattle.pg_text.proofs.line.all_numbers.Given as goal

abbrev pub invariant-loop-words : goal.invariant-loop-words
invariant-loop-words l = TookAll (IsNumber 4294967295) l.turns.items l.initial.words l.words

abbrev pub decreases-loop-words : goal.decreases-loop-words
decreases-loop-words l = length (left_text l.words)
