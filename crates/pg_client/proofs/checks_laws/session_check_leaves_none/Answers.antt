use Rattle.pg_client.proofs.ChecksLife.{check-lets-go}
use Rattle.pg_client.proofs.checks_laws.session_check_leaves_none.Goals as goal

pub returns : goal.returns
returns c = check-lets-go
