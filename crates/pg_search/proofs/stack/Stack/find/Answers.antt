use Rattle.std.proofs.Common.{◌≤◌, ◌∙◌, arith, sym, ap, subst}
use Rattle.pg_search.specs.declared.stack.Turn.{Turn}
use Rattle.pg_search.specs.Stacks.{searching_at, turn_dialogue}
use Rattle.pg_search.specs.Steps.{more_at, stack_steps, turn_steps}
use Rattle.pg_search.proofs.Stacking.{at-asks, at-known}
use Rattle.pg_search.proofs.Counting.{finding-some}
use Rattle.pg_search.proofs.stack.Stack.find.Goals as goal

pub returns-in-Ok-None-clause-goes : goal.returns-in-Ok-None-clause-goes
returns-in-Ok-None-clause-goes g c = at-asks c.loop-ty.self c.loop-ty.oid (sym c.in-Ok-None.field-0-is ∙ c.in-Ok-None.ensures) ∙ c.loop-ty.invariant.goes

pub loop-ty-smaller : goal.loop-ty-smaller
loop-ty-smaller g c =
    let low = subst (λ (x : Turn). turn_steps 0 c.found.new.self x ≤ stack_steps 0 c.loop-ty.self) c.in-Finds.is (c.in_ok-inner-in-Ok-Some.ensures.steps 0) in
    let some = finding-some 0 (more_at c.found.new.self) in
    omega (arith, low, some)

pub loop-ty-preserved : goal.loop-ty-preserved
loop-ty-preserved g c = record {
  goes =
      ap (turn_dialogue c.found.new.self) (sym c.in-Finds.is) ∙ c.in_ok-inner-in-Ok-Some.ensures.goes
      ∙ ap (searching_at c.loop-ty.self) (sym (at-known c.loop-ty.self c.loop-ty.oid c.in-Ok-Some.ty (sym c.in-Ok-Some.field-0-is ∙ c.in-Ok-Some.ensures)))
      ∙ c.loop-ty.invariant.goes;
  steps = λ most.
      let low = subst (λ (x : Turn). turn_steps most c.found.new.self x ≤ stack_steps most c.loop-ty.self) c.in-Finds.is (c.in_ok-inner-in-Ok-Some.ensures.steps most) in
      omega (arith, low, c.loop-ty.invariant.steps most);
}

pub returns-in-Goes-clause-goes : goal.returns-in-Goes-clause-goes
returns-in-Goes-clause-goes g c =
    ap (turn_dialogue c.found.new.self) (sym c.in-Goes.is) ∙ c.in_ok-inner-in-Ok-Some.ensures.goes
    ∙ ap (searching_at c.loop-ty.self) (sym (at-known c.loop-ty.self c.loop-ty.oid c.in-Ok-Some.ty (sym c.in-Ok-Some.field-0-is ∙ c.in-Ok-Some.ensures)))
    ∙ c.loop-ty.invariant.goes

pub returns-in-Goes-clause-steps : goal.returns-in-Goes-clause-steps
returns-in-Goes-clause-steps g c = λ most.
    let low = subst (λ (x : Turn). turn_steps most c.found.new.self x ≤ stack_steps most c.loop-ty.self) c.in-Goes.is (c.in_ok-inner-in-Ok-Some.ensures.steps most) in
    omega (arith, low, c.loop-ty.invariant.steps most)
