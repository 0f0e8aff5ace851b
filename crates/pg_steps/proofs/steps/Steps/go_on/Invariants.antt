use Rattle.std.proofs.Common.{◌≡◌, ◌≤◌, length}
use Rattle.pg_steps.specs.Steps.{means}
use Rattle.pg_steps.specs.declared.steps.Phase.TheVariants as phase
use Rattle.pg_steps.proofs.steps.Steps.go_on.Given as goal

-- what is left means what all of it meant
abbrev pub invariant-loop-self : goal.invariant-loop-self
invariant-loop-self l = record {
  same : means l.self.plan.now l.self.call l.self.rolls_back ≡ means l.fn.self.plan.now l.fn.self.call l.fn.self.rolls_back;
  fewer : length l.self.plan.now ≤ length l.fn.self.plan.now;
  goes : l.self.phase ≡ phase.Goes;
}

abbrev pub decreases-loop-self : goal.decreases-loop-self
decreases-loop-self l = length l.self.plan.now
