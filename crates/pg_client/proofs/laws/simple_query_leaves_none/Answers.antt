use Rattle.pg_client.proofs.Leaving.{query-lets-go}
use Rattle.pg_client.proofs.laws.simple_query_leaves_none.Goals as goal

pub returns : goal.returns
returns c = query-lets-go
