use Rattle.pg_client.proofs.Done.{batch-answers}
use Rattle.pg_client.proofs.laws.batch_execute_answers.Goals as goal

pub returns : goal.returns
returns c = batch-answers
