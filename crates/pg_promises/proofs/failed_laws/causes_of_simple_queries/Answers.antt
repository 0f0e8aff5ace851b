use Rattle.pg_promises.proofs.NoFlush.{caused}
use Rattle.pg_promises.proofs.failed_laws.causes_of_simple_queries.Goals as goal

pub returns : goal.returns
returns c call failure none h = caused call failure none h
