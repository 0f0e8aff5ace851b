use Rattle.pg_core.proofs.Copying.{copy-so}
use Rattle.pg_core.proofs.laws.a_copy_is_a_command.Goals as goal

pub returns : goal.returns
returns g c opening failing ending parts opened reading exact closed decides = copy-so failing ending parts reading decides opening opened exact closed
