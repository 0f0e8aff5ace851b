use Rattle.pg_core.proofs.Upright.{upright-begins}
use Rattle.pg_core.proofs.laws.a_command_begins_upright.Goals as goal

pub returns : goal.returns
returns g c d s p h is reached = upright-begins d s p h is reached
