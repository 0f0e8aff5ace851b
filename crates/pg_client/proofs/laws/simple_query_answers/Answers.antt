use Rattle.pg_client.proofs.Life.{query-answers}
use Rattle.pg_client.proofs.laws.simple_query_answers.Goals as goal

pub returns : goal.returns
returns c = query-answers
