use Rattle.std.proofs.Common.{◌-◌, false, length}
use Rattle.pg_wire.proofs.Cuts.{IsCutSoFar}
use Rattle.pg_wire.proofs.front.batch_end.Given as goal

abbrev pub invariant-loop-n : goal.invariant-loop-n
invariant-loop-n l = IsCutSoFar l.s l.at false

abbrev pub decreases-loop-n : goal.decreases-loop-n
decreases-loop-n l = length l.s - l.at
