use Rattle.std.proofs.Common.{◌≡◌, ◌≤◌, ◌+◌, ℕ}
use Rattle.pg_search.specs.Stacks.{find_at, searching_at}
use Rattle.pg_search.specs.Steps.{finding_steps, more_at, stack_steps}
use Rattle.pg_search.proofs.stack.Stack.find.Given as goal

-- what is asked and answered stays the same, and no more steps are left
abbrev pub invariant-loop-ty : goal.invariant-loop-ty
invariant-loop-ty g l = record {
  goes : searching_at l.self (find_at l.self l.oid) ≡ searching_at l.initial.self (find_at l.initial.self l.initial.oid);
  steps : (most : ℕ) → finding_steps most (more_at l.self) + stack_steps most l.self ≤ finding_steps most (more_at l.initial.self) + stack_steps most l.initial.self;
}

abbrev pub decreases-loop-ty : goal.decreases-loop-ty
decreases-loop-ty g l = stack_steps 0 l.self
