use Rattle.pg_client.proofs.ChecksLife.{check-awaits}
use Rattle.pg_client.proofs.checks_laws.session_check_awaits.Goals as goal

pub returns : goal.returns
returns c = check-awaits
