use Rattle.pg_query_laws.proofs.Found.{all-found, found}
use Rattle.pg_query_laws.proofs.kept_laws.types_are_found.Goals as goal

pub returns-clause-finds : goal.returns-clause-finds
returns-clause-finds c = found

pub returns-clause-finds_all : goal.returns-clause-finds_all
returns-clause-finds_all c = all-found
