use Rattle.std.proofs.Common.{◌≡◌, length}
use Rattle.pg_execute.specs.Typed.{has_ended}
use Rattle.pg_streams.proofs.rests.end.Given as goal

-- those that were looked at don't end the reply
abbrev pub invariant-loop-left : goal.invariant-loop-left
invariant-loop-left l = has_ended l.batch ≡ has_ended l.left

abbrev pub decreases-loop-left : goal.decreases-loop-left
decreases-loop-left l = length l.left
