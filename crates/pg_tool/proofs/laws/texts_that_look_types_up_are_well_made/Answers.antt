use Rattle.pg_tool.proofs.SharedType.{shared_well_made}
use Rattle.pg_tool.proofs.laws.texts_that_look_types_up_are_well_made.Goals as goal

pub returns : goal.returns
returns c = shared_well_made
