use Rattle.pg_table.proofs.ByNames.{by-names}
use Rattle.pg_table.proofs.isolation_laws.commands_go_by_names.Goals as goal

pub returns : goal.returns
returns c = by-names
