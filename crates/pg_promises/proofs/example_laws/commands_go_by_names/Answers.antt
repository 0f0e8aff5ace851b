use Rattle.pg_promises.proofs.Naming.{by-names}
use Rattle.pg_promises.proofs.example_laws.commands_go_by_names.Goals as goal

pub returns : goal.returns
returns c = by-names
