use Rattle.pg_client.proofs.Done.{check-answers}
use Rattle.pg_client.proofs.laws.check_connection_answers.Goals as goal

pub returns : goal.returns
returns c = check-answers
