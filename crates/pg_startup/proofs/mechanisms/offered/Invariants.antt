use Rattle.std.proofs.Common.{◌≡◌, false, length}
use Rattle.pg_spec.specs.Bodies.{mechanisms_of}
use Rattle.pg_startup.specs.Steps.{offered_behind}
use Rattle.pg_startup.proofs.mechanisms.offered.Given as goal

-- what is left is read on
abbrev pub invariant-names : goal.invariant-names
invariant-names l = offered_behind l.plus l.plain (mechanisms_of l.names) ≡ offered_behind false false (mechanisms_of l.body.mechanisms)

abbrev pub decreases-names : goal.decreases-names
decreases-names l = length l.names
