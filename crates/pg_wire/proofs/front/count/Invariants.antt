use Rattle.std.proofs.Common.{◌-◌, length}
use Rattle.pg_wire.proofs.Counts.{IsCount}
use Rattle.pg_wire.proofs.front.count.Given as goal

abbrev pub invariant-loop-len : goal.invariant-loop-len
invariant-loop-len l = IsCount l.s l.at l.n

abbrev pub decreases-loop-len : goal.decreases-loop-len
decreases-loop-len l = length l.s - l.at
