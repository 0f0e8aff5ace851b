use Rattle.pg_values.proofs.GroupLaws.{DigitsSoFar}
use Rattle.pg_values.proofs.numeric_written.put_digits.Given as goal

abbrev pub invariant-loop-place : goal.invariant-loop-place
invariant-loop-place l = DigitsSoFar l.number l.len l.place l.initial.out.items l.out.items l.rest
