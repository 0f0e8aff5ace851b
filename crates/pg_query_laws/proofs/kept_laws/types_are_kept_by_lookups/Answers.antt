use Rattle.pg_query_laws.proofs.Nesting.{find-all-nests, find-nests, prepare-nests, typed-nests}
use Rattle.pg_query_laws.proofs.kept_laws.types_are_kept_by_lookups.Goals as goal

pub returns-clause-finds : goal.returns-clause-finds
returns-clause-finds c = find-nests

pub returns-clause-finds_all : goal.returns-clause-finds_all
returns-clause-finds_all c = find-all-nests

pub returns-clause-prepares : goal.returns-clause-prepares
returns-clause-prepares c = prepare-nests

pub returns-clause-typed_queries : goal.returns-clause-typed_queries
returns-clause-typed_queries c = typed-nests
