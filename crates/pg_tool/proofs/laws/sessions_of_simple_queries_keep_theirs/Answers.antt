use Rattle.pg_tool.proofs.Simply.{keeps_simply}
use Rattle.pg_tool.proofs.laws.sessions_of_simple_queries_keep_theirs.Goals as goal

pub returns : goal.returns
returns c call scripts result are contract = keeps_simply call scripts are result contract
