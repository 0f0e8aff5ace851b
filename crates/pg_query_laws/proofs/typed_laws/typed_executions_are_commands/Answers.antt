use Rattle.pg_query_laws.proofs.TypedCommands.{typed-executes-taken, typed-queries-taken}
use Rattle.pg_query_laws.proofs.typed_laws.typed_executions_are_commands.Goals as goal

pub returns-clause-queries : goal.returns-clause-queries
returns-clause-queries c = typed-queries-taken

pub returns-clause-executes : goal.returns-clause-executes
returns-clause-executes c = typed-executes-taken
