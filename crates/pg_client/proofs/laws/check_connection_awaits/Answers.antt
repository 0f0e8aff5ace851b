use Rattle.pg_client.proofs.Done.{check-awaits}
use Rattle.pg_client.proofs.laws.check_connection_awaits.Goals as goal

pub returns : goal.returns
returns c = check-awaits
