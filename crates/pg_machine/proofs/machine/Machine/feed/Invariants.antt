use Rattle.std.proofs.Common.{◌-◌, length}
use Rattle.pg_machine.proofs.FeedLaws.{IsFedSoFar}
use Rattle.pg_machine.specs.Machines.{service_of}
use Rattle.pg_machine.specs.Steps.{serving_of}
use Rattle.pg_machine.proofs.machine.Machine.feed.Given as goal

abbrev pub invariant-loop-len : goal.invariant-loop-len
invariant-loop-len l = IsFedSoFar (service_of l.self) (serving_of l.fn.at) l.frames l.fn.out.items l.cut (serving_of l.at) l.out.items

abbrev pub decreases-loop-len : goal.decreases-loop-len
decreases-loop-len l = length l.frames - l.cut
