use Rattle.std.proofs.Common.{length}
use Rattle.pg_wire.specs.Turning.{Counts, steps_of}
use Rattle.pg_wire.proofs.turning.Turning.advance.Given as goal

abbrev pub invariant-loop-next : goal.invariant-loop-next
invariant-loop-next l = Counts l.sent l.turning

abbrev pub decreases-loop-next : goal.decreases-loop-next
decreases-loop-next l = steps_of (length l.sent) l.turning
