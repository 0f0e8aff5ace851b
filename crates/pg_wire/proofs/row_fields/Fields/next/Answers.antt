use Rattle.std.proofs.Common.{refl}
use Rattle.pg_spec.specs.Bodies.{field_at}
use Rattle.pg_spec.specs.Faults.{Layout}
use Rattle.pg_wire.proofs.Items.{step_ends, step_goes_on, step_reads, step_refuses}
use Rattle.pg_wire.proofs.row_fields.Fields.next.Goals as goal

pub returns-then-is_empty-clause-step : goal.returns-then-is_empty-clause-step
returns-then-is_empty-clause-step c = (step_ends field_at _ _ _ c.self.view_is c.if-self-eq0.true c.if-is_empty.ensures, refl)

pub returns-then-self-eq0-clause-step : goal.returns-then-self-eq0-clause-step
returns-then-self-eq0-clause-step c = (Layout, refl, step_goes_on field_at _ _ _ c.self.view_is c.if-self-eq0.true c.if-is_empty.ensures, refl)

pub returns-in-Ok-clause-step : goal.returns-in-Ok-clause-step
returns-in-Ok-clause-step c = step_reads field_at _ _ _ _ _ c.self.view_is c.if-self-eq0.false c.in-Ok.ensures

pub returns-in-Err-clause-step : goal.returns-in-Err-clause-step
returns-in-Err-clause-step c =
    let refused = c.in-Err.ensures in
    (refused.0, refused.1, step_refuses field_at _ _ _ refused.0 c.self.view_is c.if-self-eq0.false refused.2, refl)
