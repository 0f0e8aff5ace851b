use Rattle.std.proofs.Common.{false, true}
use Rattle.pg_execute.specs.Counts.{count_read, nothing_counted}
use Rattle.pg_execute.specs.Executes.{execute, first_queried, queried, query, query_raw, query_scalar, scalars, whole_rows}
use Rattle.pg_execute.specs.Values.{value_of}
use Rattle.pg_query_laws.proofs.Keeping.{clear-asks, close-keeps, execute-keeps, find-all-keeps, find-keeps, prepare-keeps, text-keeps, typed-execute-keeps, typed-query-keeps}
use Rattle.pg_query_laws.proofs.kept_laws.types_are_kept_by_their_oids.Goals as goal

pub returns-clause-finds : goal.returns-clause-finds
returns-clause-finds c = find-keeps

pub returns-clause-finds_all : goal.returns-clause-finds_all
returns-clause-finds_all c = find-all-keeps

pub returns-clause-prepares : goal.returns-clause-prepares
returns-clause-prepares c = prepare-keeps

pub returns-clause-queries : goal.returns-clause-queries
returns-clause-queries c = λ how s vs. execute-keeps false (queried how whole_rows s) s vs

pub returns-clause-raw_queries : goal.returns-clause-raw_queries
returns-clause-raw_queries c = λ take s vs. execute-keeps true (first_queried take whole_rows s) s vs

pub returns-clause-scalars : goal.returns-clause-scalars
returns-clause-scalars c = λ how s vs. execute-keeps false (queried how (scalars value_of) s) s vs

pub returns-clause-executes : goal.returns-clause-executes
returns-clause-executes c = λ s vs. execute-keeps false (count_read nothing_counted) s vs

pub returns-clause-text_queries : goal.returns-clause-text_queries
returns-clause-text_queries c = λ how text vs. text-keeps text (λ s. query how s vs) (λ s. execute-keeps false (queried how whole_rows s) s vs)

pub returns-clause-text_raw_queries : goal.returns-clause-text_raw_queries
returns-clause-text_raw_queries c = λ take text vs. text-keeps text (λ s. query_raw take s vs) (λ s. execute-keeps true (first_queried take whole_rows s) s vs)

pub returns-clause-text_scalars : goal.returns-clause-text_scalars
returns-clause-text_scalars c = λ how text vs. text-keeps text (λ s. query_scalar how s vs) (λ s. execute-keeps false (queried how (scalars value_of) s) s vs)

pub returns-clause-text_executes : goal.returns-clause-text_executes
returns-clause-text_executes c = λ text vs. text-keeps text (λ s. execute s vs) (λ s. execute-keeps false (count_read nothing_counted) s vs)

pub returns-clause-closes : goal.returns-clause-closes
returns-clause-closes c = close-keeps

pub returns-clause-typed_queries : goal.returns-clause-typed_queries
returns-clause-typed_queries c = typed-query-keeps

pub returns-clause-typed_executes : goal.returns-clause-typed_executes
returns-clause-typed_executes c = typed-execute-keeps

pub returns-clause-clears : goal.returns-clause-clears
returns-clause-clears c = clear-asks
