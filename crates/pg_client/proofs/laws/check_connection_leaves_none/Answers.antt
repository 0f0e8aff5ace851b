use Rattle.pg_client.proofs.Done.{check-lets-go}
use Rattle.pg_client.proofs.laws.check_connection_leaves_none.Goals as goal

pub returns : goal.returns
returns c = check-lets-go
