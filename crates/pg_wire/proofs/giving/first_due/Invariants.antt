use Rattle.std.proofs.Common.{◌-◌}
use Rattle.pg_wire.specs.Giving.{lists, PassesBy}
use Rattle.pg_wire.proofs.giving.first_due.Given as goal

abbrev pub invariant-loop-entry : goal.invariant-loop-entry
invariant-loop-entry l = PassesBy (lists l.plan) l.fn.entry l.entry

abbrev pub decreases-loop-entry : goal.decreases-loop-entry
decreases-loop-entry l = l.end - l.entry
