use Rattle.pg_table.proofs.Isolated.{each-answers}
use Rattle.pg_table.proofs.isolation_laws.what_each_command_answered.Goals as goal

pub returns : goal.returns
returns g c meaning scripts turns answers course run = each-answers meaning scripts turns answers course run
