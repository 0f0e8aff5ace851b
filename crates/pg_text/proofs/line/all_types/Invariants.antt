use Rattle.std.proofs.Common.{length}
use Rattle.pg_text.specs.SessionText.{IsTypeName}
use Rattle.pg_text.specs.Words.{left_text, TookAll}
use Rattle.pg_text.proofs.line.all_types.Given as goal

abbrev pub invariant-loop-words : goal.invariant-loop-words
invariant-loop-words l = TookAll IsTypeName l.types.items l.initial.words l.words

abbrev pub decreases-loop-words : goal.decreases-loop-words
decreases-loop-words l = length (left_text l.words)
