use Rattle.pg_promises.proofs.Simple.{are-simple}
use Rattle.pg_promises.proofs.example_laws.simple_queries_are_simple.Goals as goal

pub returns : goal.returns
returns c = are-simple
