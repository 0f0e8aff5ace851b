-- The commands that execute something with values.
use Rattle.std.specs.Prelude.{◌≢◌, ◌≡◌, ℕ, List, Option, Some, None, codes}
use Rattle.pg_types.specs.declared.value.Value.{Value}
use Rattle.pg_text.specs.declared.command.Command.{Command}
use Rattle.pg_text.specs.declared.command.Command.TheVariants as command
use Rattle.pg_text.specs.declared.command.CommandTarget.{CommandTarget}
use Rattle.pg_text.specs.declared.command.TypedText.{TypedText}
use Rattle.pg_text.specs.declared.execution.Execution.{Execution}
use Rattle.pg_text.specs.declared.execution.Execution.TheVariants.{Execute, Query, QueryOne, QueryOneScalar, QueryOpt, QueryOptScalar, QueryScalar}
use Rattle.pg_text.specs.declared.execution.TypedExecution.{TypedExecution}
use Rattle.pg_text.specs.declared.execution.TypedExecution.TheVariants as typed

-- the command with this target and these values
abbrev pub command_of : Execution → CommandTarget → List Value → Command
command_of Query to values = command.Query to values
command_of QueryOne to values = command.QueryOne to values
command_of QueryOpt to values = command.QueryOpt to values
command_of QueryScalar to values = command.QueryScalar to values
command_of QueryOneScalar to values = command.QueryOneScalar to values
command_of QueryOptScalar to values = command.QueryOptScalar to values
command_of Execute to values = command.Execute to values

-- the first word of its line
abbrev pub execution_word : Execution → List ℕ
execution_word Query = codes "query"
execution_word QueryOne = codes "query_one"
execution_word QueryOpt = codes "query_opt"
execution_word QueryScalar = codes "query_scalar"
execution_word QueryOneScalar = codes "query_one_scalar"
execution_word QueryOptScalar = codes "query_opt_scalar"
execution_word Execute = codes "execute"

-- the command with this text, and values with their types
abbrev pub typed_command_of : TypedExecution → TypedText → Command
typed_command_of typed.Query asked = command.QueryTyped asked
typed_command_of typed.QueryOne asked = command.QueryTypedOne asked
typed_command_of typed.QueryOpt asked = command.QueryTypedOpt asked
typed_command_of typed.Execute asked = command.ExecuteTyped asked

-- the first word of its line
abbrev pub typed_word : TypedExecution → List ℕ
typed_word typed.Query = codes "query_typed"
typed_word typed.QueryOne = codes "query_typed_one"
typed_word typed.QueryOpt = codes "query_typed_opt"
typed_word typed.Execute = codes "execute_typed"

-- the word begins the line of this form, whose first word this is, or of none
abbrev pub FirstWordOf : {F : Type 0} → (F → List ℕ) → List ℕ → Option F → Type 0
FirstWordOf {F} first word None = (form : F) → word ≢ first form
FirstWordOf first word (Some form) = word ≡ first form
