use Rattle.pg_execute.specs.Executes.{close_request}
use Rattle.pg_core.specs.Composing.{or_encode}
use Rattle.pg_states.proofs.Beginning.{sends-clean}
use Rattle.pg_states.proofs.close.close_state.Goals as goal

pub new-requires : goal.new-requires
new-requires c = sends-clean (or_encode (close_request c.args.statement.now.name))
