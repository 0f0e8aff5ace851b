-- The commands of a script: what each asks, and what is kept of its answer.
use Rattle.std.specs.Prelude.{ℕ, List, [], ◌∷◌, ◌++◌, length, Option, Some, None, Result, Ok, Err}
use Rattle.pg_types.specs.declared.error.Error.{Error}
use Rattle.pg_client.specs.Done.{batch_execute, check_connection}
use Rattle.pg_client.specs.Simple.{answer_from, simple_query}
use Rattle.pg_spec.specs.Simples.{Simply}
use Rattle.pg_execute.specs.Executes as execution
use Rattle.pg_execute.specs.Parameters.{given_of}
use Rattle.pg_execute.specs.Typed.{execute_typed, query_typed}
use Rattle.pg_execute.specs.declared.how_many.HowMany.{HowMany}
use Rattle.pg_execute.specs.declared.how_many.HowMany.TheVariants.{Any, AtMostOne, One}
use Rattle.pg_execute.specs.declared.result_set.ResultSet.{ResultSet}
use Rattle.pg_core.specs.Lookups.{clear, find_all, prepare}
use Rattle.pg_query.specs.Dialogue.{Dialogue}
use Rattle.pg_query.specs.declared.simple_message.SimpleMessage.{SimpleMessage}
use Rattle.pg_desk.specs.declared.statement.Described.{Described}
use Rattle.pg_text.specs.declared.command.Answer.{Answer}
use Rattle.pg_text.specs.declared.command.Answer.TheVariants as answer
use Rattle.pg_text.specs.declared.command.Command.{Command}
use Rattle.pg_text.specs.declared.command.Command.TheVariants as command
use Rattle.pg_text.specs.declared.command.CommandTarget.{CommandTarget}
use Rattle.pg_text.specs.declared.command.TypedText.{TypedText}
use Rattle.pg_execute.specs.Types.{built_in_types}
use Rattle.pg_states.specs.Paired.{paired}
use Rattle.pg_types.specs.declared.value.Value.{Value}
use Rattle.pg_session.specs.Handles.{HandleState}
use Rattle.pg_session.specs.Speeches.{Speech}
use Rattle.pg_session.specs.States.{SessionState}
use Rattle.pg_table.specs.Mapped.{mapped, mapped_answer}
use Rattle.pg_steps.specs.Dialogues.{begin}
use Rattle.pg_steps.specs.Transactions.{commits_by, opens_by, rolls_back_by}
use Rattle.pg_table.specs.Abandons.{abandons_by}
use Rattle.pg_table.specs.Levels.{Levels, innermost, level_name, new_level, new_name, outer}
use Rattle.pg_table.specs.Own.{nothing_kept}
use Rattle.pg_table.specs.declared.levels.Level.TheVariants.{Transaction}
use Rattle.pg_table.specs.declared.own.Own.{Own}
use Rattle.pg_table.specs.Slots.{Slots, statement_in, with_statement, without}
use Rattle.pg_table.specs.Targets.{on_target, or_missing}
use Rattle.pg_table.specs.declared.state.AnyAnswer.{AnyAnswer}
use Rattle.pg_table.specs.declared.state.AnyAnswer.TheVariants.{Count, Done, Messages, Rows, Scalars, Statement}

-- the messages of a simple query as an answer
abbrev pub in_messages : List SimpleMessage → AnyAnswer
in_messages messages = Messages messages

-- that a command is done as an answer
abbrev pub in_done : Unit {0} → AnyAnswer
in_done x = Done

-- a statement that was prepared as an answer
abbrev pub in_statement : Described → AnyAnswer
in_statement statement = Statement statement

-- the rows of a query as an answer
abbrev pub in_rows : ResultSet → AnyAnswer
in_rows set = Rows set

-- the values of one column as an answer
abbrev pub in_scalars : List Value → AnyAnswer
in_scalars values = Scalars values

-- how many rows were affected as an answer
abbrev pub in_count : ℕ → AnyAnswer
in_count n = Count n

-- ---- what a command executes

-- query, query_one, query_opt
abbrev pub says_query : HowMany → Slots → CommandTarget → List Value → Dialogue AnyAnswer
says_query how slots to values = mapped in_rows (on_target slots to (λ s. execution.query how s (given_of values)))

-- query_raw
abbrev pub says_query_raw : (take : ℕ) → Slots → CommandTarget → List Value → Dialogue AnyAnswer
says_query_raw take slots to values = mapped in_rows (on_target slots to (λ s. execution.query_raw take s (given_of values)))

-- query_typed, query_typed_one, query_typed_opt: the types are built-in
abbrev pub says_query_typed : HowMany → TypedText → Dialogue AnyAnswer
says_query_typed how asked = mapped in_rows (paired (length asked.types) (given_of asked.values) (query_typed find_all how asked.text (built_in_types asked.types) (given_of asked.values)))

-- execute_typed
abbrev pub says_execute_typed : TypedText → Dialogue AnyAnswer
says_execute_typed asked = mapped in_count (paired (length asked.types) (given_of asked.values) (execute_typed asked.text (built_in_types asked.types) (given_of asked.values)))

-- query_scalar, query_one_scalar, query_opt_scalar
abbrev pub says_query_scalar : HowMany → Slots → CommandTarget → List Value → Dialogue AnyAnswer
says_query_scalar how slots to values = mapped in_scalars (on_target slots to (λ s. execution.query_scalar how s (given_of values)))

-- execute
abbrev pub says_execute : Slots → CommandTarget → List Value → Dialogue AnyAnswer
says_execute slots to values = mapped in_count (on_target slots to (λ s. execution.execute s (given_of values)))

-- close
abbrev pub says_close : Slots → ℕ → Dialogue AnyAnswer
says_close slots slot = mapped in_done (or_missing execution.close (statement_in slots slot))

-- ---- the levels of a transaction, each within the one before it; Missing where none is open

-- savepoint
abbrev pub says_savepoint : Levels → (name : Option (List ℕ)) → Dialogue AnyAnswer
says_savepoint levels name = mapped in_done (or_missing (λ level. batch_execute (opens_by (new_name levels name))) (innermost levels))

-- commit
abbrev pub says_commit : Levels → Dialogue AnyAnswer
says_commit levels = mapped in_done (or_missing (λ level. batch_execute (commits_by (level_name level))) (innermost levels))

-- rollback
abbrev pub says_rollback : Levels → Dialogue AnyAnswer
says_rollback levels = mapped in_done (or_missing (λ level. batch_execute (rolls_back_by (level_name level))) (innermost levels))

-- abandon: nobody reads the reply
abbrev pub says_abandon : Levels → Dialogue AnyAnswer
says_abandon levels = mapped in_done (or_missing (λ level. abandons_by (rolls_back_by (level_name level))) (innermost levels))

-- ---- the table

-- what a command asks and answers, by what its script keeps: a line for each
abbrev pub says_of : Own → Command → Dialogue AnyAnswer
says_of own (command.Simple text take) = mapped in_messages (simple_query text take)
says_of own (command.Batch text) = mapped in_done (batch_execute text)
says_of own command.Check = mapped in_done check_connection
says_of own (command.Prepare slot text types) = mapped in_statement (prepare text types)
says_of own command.Clear = mapped in_done clear
says_of own (command.Query to values) = says_query Any own.slots to values
says_of own (command.QueryOne to values) = says_query One own.slots to values
says_of own (command.QueryOpt to values) = says_query AtMostOne own.slots to values
says_of own (command.QueryRaw to take values) = says_query_raw take own.slots to values
says_of own (command.QueryScalar to values) = says_query_scalar Any own.slots to values
says_of own (command.QueryOneScalar to values) = says_query_scalar One own.slots to values
says_of own (command.QueryOptScalar to values) = says_query_scalar AtMostOne own.slots to values
says_of own (command.Execute to values) = says_execute own.slots to values
says_of own (command.QueryTyped asked) = says_query_typed Any asked
says_of own (command.QueryTypedOne asked) = says_query_typed One asked
says_of own (command.QueryTypedOpt asked) = says_query_typed AtMostOne asked
says_of own (command.ExecuteTyped asked) = says_execute_typed asked
says_of own (command.Close slot) = says_close own.slots slot
says_of own (command.Begin modes) = mapped in_done (begin modes)
says_of own (command.Savepoint name) = says_savepoint own.levels name
says_of own command.Commit = says_commit own.levels
says_of own command.Rollback = says_rollback own.levels
says_of own command.Abandon = says_abandon own.levels

-- the answer that is kept of a command
abbrev pub kept_answer : Result AnyAnswer Error → Answer
kept_answer (Ok (Messages messages)) = answer.Messages messages
kept_answer (Ok Done) = answer.Done
kept_answer (Ok (Statement statement)) = answer.Statement statement
kept_answer (Ok (Rows set)) = answer.Rows set.statement set.rows set.affected
kept_answer (Ok (Scalars values)) = answer.Scalars values
kept_answer (Ok (Count n)) = answer.Count n
kept_answer (Err e) = answer.Failed e

-- the slots behind a prepare that answered so: the statement stands in its slot
abbrev pub slots_behind_prepare : Slots → ℕ → Result AnyAnswer Error → Slots
slots_behind_prepare slots slot (Ok (Statement statement)) = with_statement slots slot statement
slots_behind_prepare slots slot r = slots

-- the slots of its script behind a command that answered so: a line for each
abbrev pub slots_behind : Slots → Command → Result AnyAnswer Error → Slots
slots_behind slots (command.Simple text take) r = slots
slots_behind slots (command.Batch text) r = slots
slots_behind slots command.Check r = slots
slots_behind slots (command.Prepare slot text types) r = slots_behind_prepare slots slot r
slots_behind slots command.Clear r = slots
slots_behind slots (command.Query to values) r = slots
slots_behind slots (command.QueryOne to values) r = slots
slots_behind slots (command.QueryOpt to values) r = slots
slots_behind slots (command.QueryRaw to take values) r = slots
slots_behind slots (command.QueryScalar to values) r = slots
slots_behind slots (command.QueryOneScalar to values) r = slots
slots_behind slots (command.QueryOptScalar to values) r = slots
slots_behind slots (command.Execute to values) r = slots
slots_behind slots (command.QueryTyped asked) r = slots
slots_behind slots (command.QueryTypedOne asked) r = slots
slots_behind slots (command.QueryTypedOpt asked) r = slots
slots_behind slots (command.ExecuteTyped asked) r = slots
slots_behind slots (command.Close slot) r = without slots slot
slots_behind slots (command.Begin modes) r = slots
slots_behind slots (command.Savepoint name) r = slots
slots_behind slots command.Commit r = slots
slots_behind slots command.Rollback r = slots
slots_behind slots command.Abandon r = slots

-- the levels behind a begin that answered so: where it was refused, nothing was begun
abbrev pub levels_behind_begin : Levels → Result AnyAnswer Error → Levels
levels_behind_begin levels (Ok x) = Transaction ∷ []
levels_behind_begin levels (Err e) = levels

-- the same behind a savepoint, which is open within the others
abbrev pub levels_behind_savepoint : Levels → (name : Option (List ℕ)) → Result AnyAnswer Error → Levels
levels_behind_savepoint levels name (Ok x) = levels ++ new_level levels name ∷ []
levels_behind_savepoint levels name (Err e) = levels

-- The levels that are open in its script behind a command that answered so. Whatever is answered to one that ends a level, that is ended.
abbrev pub levels_behind : Levels → Command → Result AnyAnswer Error → Levels
levels_behind levels (command.Begin modes) r = levels_behind_begin levels r
levels_behind levels (command.Savepoint name) r = levels_behind_savepoint levels name r
levels_behind levels command.Commit r = outer levels
levels_behind levels command.Rollback r = outer levels
levels_behind levels command.Abandon r = outer levels
levels_behind levels other r = levels

-- what its script keeps behind a command that answered so
abbrev pub own_behind : Own → Command → Result AnyAnswer Error → Own
own_behind own c r = record { slots = slots_behind own.slots c r; levels = levels_behind own.levels c r }

-- the table of commands: a script keeps its statements and its levels between them, and none before the first
abbrev pub table : Speech Command AnyAnswer Answer Own
table = record { begins = nothing_kept; says = says_of; ends = λ own c r. record { answer = kept_answer r; own = own_behind own c r } }

-- which commands are simple queries
abbrev pub query_of : Command → Option (List ℕ × Option ℕ)
query_of (command.Simple text take) = Some (text, take)
query_of other = None

-- and so their answers are told
abbrev pub simply : Simply Command Answer
simply = record { simple = query_of; said = λ a. kept_answer (mapped_answer in_messages (answer_from a)) }

-- a handle of such scripts
abbrev pub TableHandle : Type 0
TableHandle = HandleState AnyAnswer Answer Own

-- a session of such scripts
abbrev pub TableSession : Type 0
TableSession = SessionState AnyAnswer Answer Own
