use Rattle.pg_client.proofs.Life.{query-awaits}
use Rattle.pg_client.proofs.laws.simple_query_awaits.Goals as goal

pub returns : goal.returns
returns c = query-awaits
