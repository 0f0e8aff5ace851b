use Rattle.pg_client.proofs.ChecksLife.{check-answers}
use Rattle.pg_client.proofs.checks_laws.session_check_answers.Goals as goal

pub returns : goal.returns
returns c = check-answers
