use Rattle.pg_spec.specs.Bodies.{field_at, cell_at}
use Rattle.pg_wire.specs.Steps.{oid_at}
use Rattle.pg_wire.proofs.Items.{exactly-step}
use Rattle.pg_wire.proofs.ErrorSteps.{error_fields-step}
use Rattle.pg_wire.proofs.SaslNames.{mechanisms-step}
use Rattle.pg_wire.proofs.laws.steps_of_a_body.Goals as goal

pub returns : goal.returns
returns c = record {
  columns = exactly-step field_at;
  cells = exactly-step cell_at;
  parameters = exactly-step oid_at;
  error_fields = error_fields-step;
  mechanisms = mechanisms-step;
}
