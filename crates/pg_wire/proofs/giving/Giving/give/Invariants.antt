use Rattle.std.proofs.Common.{◌-◌, length}
use Rattle.pg_wire.specs.Giving.{due_of}
use Rattle.pg_wire.proofs.GivingLaws.{GaveSoFar}
use Rattle.pg_wire.proofs.giving.Giving.give.Given as goal

abbrev pub invariant-loop-n : goal.invariant-loop-n
invariant-loop-n l = GaveSoFar (due_of l.turns l.fn.self) l.fn.self l.self l.out l.n

abbrev pub decreases-loop-n : goal.decreases-loop-n
decreases-loop-n l = length l.initial.out - l.n
