use Rattle.pg_execute.specs.Executes.{execute, query, query_raw, query_scalar}
use Rattle.pg_query_laws.proofs.ExecutionCommands.{closes-taken, executes-taken, on-text, queries-taken, raw-queries-taken, scalars-taken}
use Rattle.pg_query_laws.proofs.execution_laws.executions_are_commands.Goals as goal

pub returns-clause-queries : goal.returns-clause-queries
returns-clause-queries c = queries-taken

pub returns-clause-raw_queries : goal.returns-clause-raw_queries
returns-clause-raw_queries c = raw-queries-taken

pub returns-clause-scalars : goal.returns-clause-scalars
returns-clause-scalars c = scalars-taken

pub returns-clause-executes : goal.returns-clause-executes
returns-clause-executes c = executes-taken

pub returns-clause-text_queries : goal.returns-clause-text_queries
returns-clause-text_queries c = λ how text vs. on-text text (λ s. query how s vs) (λ s. queries-taken how s vs)

pub returns-clause-text_raw_queries : goal.returns-clause-text_raw_queries
returns-clause-text_raw_queries c = λ take text vs. on-text text (λ s. query_raw take s vs) (λ s. raw-queries-taken take s vs)

pub returns-clause-text_scalars : goal.returns-clause-text_scalars
returns-clause-text_scalars c = λ how text vs. on-text text (λ s. query_scalar how s vs) (λ s. scalars-taken how s vs)

pub returns-clause-text_executes : goal.returns-clause-text_executes
returns-clause-text_executes c = λ text vs. on-text text (λ s. execute s vs) (λ s. executes-taken s vs)

pub returns-clause-closes : goal.returns-clause-closes
returns-clause-closes c = closes-taken
