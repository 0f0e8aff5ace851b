-- What the commands of the table mean.
use Rattle.std.proofs.Common.{◌≡◌, ℕ, List, [], Bool, true, false, Option, Some, None, option_map, length, Result, Ok, Err, refl, sym, ap, ◌∙◌, subst}
use Rattle.std.specs.Prelude.{is_some}
use Rattle.pg_spec.specs.Faults.{FrameFault}
use Rattle.pg_spec.specs.Frames.{query_frame, sync_frame}
use Rattle.pg_spec.specs.RawMessages.{RawMessage, is_ready, ends_in}
use Rattle.pg_spec.specs.SimpleQuery.{SimpleAnswer, simple_reading}
use Rattle.pg_client.specs.Done.{batch_by, batch_execute, batch_reading, check_connection, check_reading}
use Rattle.pg_client.specs.Simple.{answer_from, asks_by as asks_of, simple_query, told}
use Rattle.pg_client.proofs.Done.{batch-free, done-free}
use Rattle.pg_client.proofs.Leaving.{query-free}
use Rattle.pg_types.specs.declared.error.Error.{Error}
use Rattle.pg_core.specs.Lookups.{clear, find_all, prepare}
use Rattle.pg_query_laws.specs.Taken.{IsTaken}
use Rattle.pg_query_laws.proofs.Commands.{clearing, preparing-text}
use Rattle.pg_query_laws.proofs.Taken.{answers}
use Rattle.pg_execute.specs.Parameters.{given_of}
use Rattle.pg_execute.specs.Executes as execution
use Rattle.pg_execute.specs.declared.how_many.HowMany.{HowMany}
use Rattle.pg_execute.specs.declared.how_many.HowMany.TheVariants.{Any, AtMostOne, One}
use Rattle.pg_query_laws.proofs.ExecutionCommands.{closes-taken, executes-taken, on-text, queries-taken, raw-queries-taken, scalars-taken}
use Rattle.pg_execute.specs.Typed.{execute_typed, query_typed}
use Rattle.pg_execute.specs.Types.{built_in_types}
use Rattle.pg_query_laws.proofs.TypedCommands.{typed-executes-taken, typed-queries-taken}
use Rattle.pg_states.specs.Paired.{paired}
use Rattle.pg_desk.specs.declared.statement.Described.{Described}
use Rattle.pg_types.specs.declared.value.Value.{Value}
use Rattle.pg_text.specs.declared.command.CommandTarget.{CommandTarget}
use Rattle.pg_text.specs.declared.command.CommandTarget.TheVariants as target
use Rattle.pg_text.specs.declared.command.TypedText.{TypedText}
use Rattle.pg_query.specs.Dialogue.{Dialogue as Code}
use Rattle.pg_query.specs.Leaving.{Nothing}
use Rattle.pg_query.specs.Reading.{ends}
use Rattle.pg_query.specs.Requests.{asks, reads_unless}
use Rattle.pg_query.specs.declared.desk_call.DeskCall.{DeskCall}
use Rattle.pg_query.specs.declared.desk_call.Reply.{Reply}
use Rattle.pg_query.specs.declared.simple_message.SimpleMessage.{SimpleMessage}
use Rattle.pg_text.specs.declared.command.Answer.{Answer}
use Rattle.pg_text.specs.declared.command.Command.TheVariants as command
use Rattle.pg_spec.specs.Dialogues.{Answers, Asks, Dialogue, Reads, behind}
use Rattle.pg_spec.specs.Meanings.{Ending}
use Rattle.pg_spec.specs.Simples.{AreSimple, asks_by, told_or}
use Rattle.pg_spec.specs.Simples as simples
use Rattle.pg_core.specs.Outcomes.{asked}
use Rattle.pg_core.specs.Times.{IsCommand}
use Rattle.pg_core.proofs.Requests.{request-so}
use Rattle.pg_session.specs.Speeches.{AreCommands, BookWhole, BooksWhole, IsWholeRequest, LetGo, meaning_of}
use Rattle.pg_table.specs.Mapped.{mapped, mapped_answer}
use Rattle.pg_steps.specs.Dialogues.{begin}
use Rattle.pg_steps.specs.Transactions.{commits_by, opens_by, rolls_back_by}
use Rattle.pg_steps.specs.declared.modes.Modes.{Modes}
use Rattle.pg_table.specs.Abandons.{abandons_by}
use Rattle.pg_table.specs.Levels.{Levels, innermost, level_name, new_name}
use Rattle.pg_table.specs.declared.levels.Level.{Level}
use Rattle.pg_table.specs.declared.own.Own.{Own}
use Rattle.pg_table.specs.Slots.{Slots, statement_in}
use Rattle.pg_table.specs.Table.{in_count, in_done, in_messages, in_rows, in_scalars, in_statement, kept_answer, says_abandon, says_close, says_commit, says_execute, says_execute_typed, says_query, says_query_raw, says_query_scalar, says_query_typed, says_rollback, says_savepoint, table, simply}
use Rattle.pg_table.specs.Targets.{on_target, or_missing}
use Rattle.pg_table.specs.declared.state.AnyAnswer.{AnyAnswer}
use Rattle.pg_table.proofs.Decided.{whole-decides}
use Rattle.pg_table.proofs.DoneDecides.{done-decides, whole-sync}
use Rattle.pg_table.proofs.LevelMeans.{abandons-taken, batch-taken, begin-taken, whole-ends, whole-unless}
use Rattle.pg_table.proofs.Mapped.{asked-mapped, asks-mapped, decides-mapped, lets-mapped, reading_in}
use Rattle.pg_table.proofs.MappedCommands.{books-mapped, command-mapped}
use Rattle.pg_table.proofs.Pairs.{paired-taken}
use Rattle.pg_table.proofs.Queries.{whole-query}

-- ---- what is done with a statement in a slot, or with a text

-- where there is none, nothing is asked
or-missing : {A T : Type 0} (body : A → Code T) → ((x : A) → IsTaken (body x)) → (o : Option A) → IsTaken (or_missing body o)
or-missing body h (Some x) = h x
or-missing body h None = answers _

on-target : {T : Type 0} (own : Slots) (to : CommandTarget) (body : Described → Code T) → ((s : Described) → IsTaken (body s)) → IsTaken (on_target own to body)
on-target own (target.Slot slot) body h = or-missing body h (statement_in own slot)
on-target own (target.Text text) body h = on-text text body h

-- so are its answers in other words
taken-mapped : {T : Type 0} (f : T → AnyAnswer) (d : Code T) → IsTaken d → IsTaken (mapped f d)
taken-mapped f d h = record { command = command-mapped f d h.command; lets_go = lets-mapped f Nothing d h.lets_go; whole = books-mapped f d h.whole }

says-query : (how : HowMany) (own : Slots) (to : CommandTarget) (values : List Value) → IsTaken (says_query how own to values)
says-query how own to values = taken-mapped in_rows (on_target own to (λ s. execution.query how s (given_of values))) (on-target own to (λ s. execution.query how s (given_of values)) (λ s. queries-taken how s (given_of values)))

says-raw : (take : ℕ) (own : Slots) (to : CommandTarget) (values : List Value) → IsTaken (says_query_raw take own to values)
says-raw take own to values =
    taken-mapped in_rows (on_target own to (λ s. execution.query_raw take s (given_of values))) (on-target own to (λ s. execution.query_raw take s (given_of values)) (λ s. raw-queries-taken take s (given_of values)))

says-scalar : (how : HowMany) (own : Slots) (to : CommandTarget) (values : List Value) → IsTaken (says_query_scalar how own to values)
says-scalar how own to values =
    taken-mapped in_scalars (on_target own to (λ s. execution.query_scalar how s (given_of values))) (on-target own to (λ s. execution.query_scalar how s (given_of values)) (λ s. scalars-taken how s (given_of values)))

says-execute : (own : Slots) (to : CommandTarget) (values : List Value) → IsTaken (says_execute own to values)
says-execute own to values = taken-mapped in_count (on_target own to (λ s. execution.execute s (given_of values))) (on-target own to (λ s. execution.execute s (given_of values)) (λ s. executes-taken s (given_of values)))

-- and so is a text in one request
says-typed : (how : HowMany) (asked : TypedText) → IsTaken (says_query_typed how asked)
says-typed how asked =
    let says = query_typed find_all how asked.text (built_in_types asked.types) (given_of asked.values) in
    taken-mapped in_rows (paired (length asked.types) (given_of asked.values) says) (paired-taken (length asked.types) (given_of asked.values) says (typed-queries-taken how asked.text (built_in_types asked.types) (given_of asked.values)))

says-execute-typed : (asked : TypedText) → IsTaken (says_execute_typed asked)
says-execute-typed asked =
    let says = execute_typed asked.text (built_in_types asked.types) (given_of asked.values) in
    taken-mapped in_count (paired (length asked.types) (given_of asked.values) says) (paired-taken (length asked.types) (given_of asked.values) says (typed-executes-taken asked.text (built_in_types asked.types) (given_of asked.values)))

says-close : (own : Slots) (slot : ℕ) → IsTaken (says_close own slot)
says-close own slot = taken-mapped in_done (or_missing execution.close (statement_in own slot)) (or-missing execution.close closes-taken (statement_in own slot))

-- ---- the levels of a transaction

says-begin : (modes : Modes) → IsTaken (mapped in_done (begin modes))
says-begin modes = taken-mapped in_done (begin modes) (begin-taken modes)

-- a batch, where a level is open
in-level : (text : Level → List ℕ) (levels : Levels) → IsTaken (mapped in_done (or_missing (λ level. batch_execute (text level)) (innermost levels)))
in-level text levels = taken-mapped in_done (or_missing (λ level. batch_execute (text level)) (innermost levels)) (or-missing (λ level. batch_execute (text level)) (λ level. batch-taken (text level)) (innermost levels))

says-savepoint : (levels : Levels) (name : Option (List ℕ)) → IsTaken (says_savepoint levels name)
says-savepoint levels name = in-level (λ level. opens_by (new_name levels name)) levels

says-commit : (levels : Levels) → IsTaken (says_commit levels)
says-commit levels = in-level (λ level. commits_by (level_name level)) levels

says-rollback : (levels : Levels) → IsTaken (says_rollback levels)
says-rollback levels = in-level (λ level. rolls_back_by (level_name level)) levels

says-abandon : (levels : Levels) → IsTaken (says_abandon levels)
says-abandon levels =
    let body = λ (level : Level). abandons_by (rolls_back_by (level_name level)) in
    taken-mapped in_done (or_missing body (innermost levels)) (or-missing body (λ level. abandons-taken (rolls_back_by (level_name level))) (innermost levels))

-- ---- they decide in time

some-told : (o : Option SimpleAnswer) → (o ≡ None → ⊥) → is_some (option_map answer_from o) ≡ true
some-told None h = absurd (h refl)
some-told (Some x) h = refl

-- a command of one request whose reading decides by the ReadyForQuery, in other words
request-mapped : {T : Type 0} (f : T → AnyAnswer) (stops : Bool) (frame : List ℕ) (reading : List RawMessage → Option (Result T Error)) →
    ((ms : List RawMessage) → ends_in is_ready ms ≡ true → is_some (reading ms) ≡ true) → IsCommand (mapped f (asks stops frame reading))
request-mapped f stops frame reading decides =
    subst (λ (d : Code AnyAnswer). IsCommand d) (sym (asks-mapped f stops frame reading))
    (request-so stops frame (reading_in f reading) (λ ms e. sym (decides-mapped f (reading ms)) ∙ decides ms e))

command-by : (take : Option ℕ) (o : Result (List ℕ) FrameFault) → IsCommand (mapped in_messages (asks_of take o))
command-by take (Err fault) = record { tidy = tt; nothing = tt; sane = tt; in_time = tt; faithful = tt }
command-by take (Ok frame) = request-mapped in_messages (is_some take) frame (told take) (λ ms e. some-told (simple_reading take ms) (whole-decides take ms e))

batch-command : (o : Result (List ℕ) FrameFault) → IsCommand (mapped in_done (batch_by o))
batch-command (Err fault) = record { tidy = tt; nothing = tt; sane = tt; in_time = tt; faithful = tt }
batch-command (Ok frame) = request-mapped in_done false frame batch_reading (done-decides true)

pub are-commands : AreCommands table
are-commands own (command.Simple text take) = command-by take (query_frame text)
are-commands own (command.Batch text) = batch-command (query_frame text)
are-commands own command.Check = request-mapped in_done false sync_frame check_reading (done-decides false)
are-commands own (command.Prepare slot text types) = command-mapped in_statement (prepare text types) (preparing-text text types).command
are-commands own command.Clear = command-mapped in_done clear clearing.command
are-commands own (command.Query to values) = (says-query Any own.slots to values).command
are-commands own (command.QueryOne to values) = (says-query One own.slots to values).command
are-commands own (command.QueryOpt to values) = (says-query AtMostOne own.slots to values).command
are-commands own (command.QueryRaw to take values) = (says-raw take own.slots to values).command
are-commands own (command.QueryScalar to values) = (says-scalar Any own.slots to values).command
are-commands own (command.QueryOneScalar to values) = (says-scalar One own.slots to values).command
are-commands own (command.QueryOptScalar to values) = (says-scalar AtMostOne own.slots to values).command
are-commands own (command.Execute to values) = (says-execute own.slots to values).command
are-commands own (command.QueryTyped asked) = (says-typed Any asked).command
are-commands own (command.QueryTypedOne asked) = (says-typed One asked).command
are-commands own (command.QueryTypedOpt asked) = (says-typed AtMostOne asked).command
are-commands own (command.ExecuteTyped asked) = (says-execute-typed asked).command
are-commands own (command.Close slot) = (says-close own.slots slot).command
are-commands own (command.Begin modes) = (says-begin modes).command
are-commands own (command.Savepoint name) = (says-savepoint own.levels name).command
are-commands own command.Commit = (says-commit own.levels).command
are-commands own command.Rollback = (says-rollback own.levels).command
are-commands own command.Abandon = (says-abandon own.levels).command

-- ---- and book whole requests

whole-mapped : {T : Type 0} (f : T → AnyAnswer) (stops : Bool) (frame : List ℕ) (reading : List RawMessage → Option (Result T Error)) → IsWholeRequest frame →
    BooksWhole (mapped f (asks stops frame reading))
whole-mapped f stops frame reading whole =
    subst (λ (d : Code AnyAnswer). BooksWhole d) (sym (asks-mapped f stops frame reading))
    (whole, refl, whole-unless stops (reading_in f reading) (reading_in f reading []))

whole-by : (take : Option ℕ) (text : List ℕ) (r : Result (List ℕ) FrameFault) → query_frame text ≡ r → BooksWhole (mapped in_messages (asks_of take r))
whole-by take text (Err fault) e = tt
whole-by take text (Ok frame) e = whole-mapped in_messages (is_some take) frame (told take) (whole-query text frame e)

batch-whole : (text : List ℕ) (r : Result (List ℕ) FrameFault) → query_frame text ≡ r → BooksWhole (mapped in_done (batch_by r))
batch-whole text (Err fault) e = tt
batch-whole text (Ok frame) e = whole-mapped in_done false frame batch_reading (whole-query text frame e)

pub book-whole : BookWhole table
book-whole own (command.Simple text take) = whole-by take text (query_frame text) refl
book-whole own (command.Batch text) = batch-whole text (query_frame text) refl
book-whole own command.Check = whole-mapped in_done false sync_frame check_reading whole-sync
book-whole own (command.Prepare slot text types) = books-mapped in_statement (prepare text types) (preparing-text text types).whole
book-whole own command.Clear = books-mapped in_done clear clearing.whole
book-whole own (command.Query to values) = (says-query Any own.slots to values).whole
book-whole own (command.QueryOne to values) = (says-query One own.slots to values).whole
book-whole own (command.QueryOpt to values) = (says-query AtMostOne own.slots to values).whole
book-whole own (command.QueryRaw to take values) = (says-raw take own.slots to values).whole
book-whole own (command.QueryScalar to values) = (says-scalar Any own.slots to values).whole
book-whole own (command.QueryOneScalar to values) = (says-scalar One own.slots to values).whole
book-whole own (command.QueryOptScalar to values) = (says-scalar AtMostOne own.slots to values).whole
book-whole own (command.Execute to values) = (says-execute own.slots to values).whole
book-whole own (command.QueryTyped asked) = (says-typed Any asked).whole
book-whole own (command.QueryTypedOne asked) = (says-typed One asked).whole
book-whole own (command.QueryTypedOpt asked) = (says-typed AtMostOne asked).whole
book-whole own (command.ExecuteTyped asked) = (says-execute-typed asked).whole
book-whole own (command.Close slot) = (says-close own.slots slot).whole
book-whole own (command.Begin modes) = (says-begin modes).whole
book-whole own (command.Savepoint name) = (says-savepoint own.levels name).whole
book-whole own command.Commit = (says-commit own.levels).whole
book-whole own command.Rollback = (says-rollback own.levels).whole
book-whole own command.Abandon = (says-abandon own.levels).whole

-- ---- and let them go

pub let-go : LetGo table
let-go own (command.Simple text take) = lets-mapped in_messages Nothing (simple_query text take) (query-free text take)
let-go own (command.Batch text) = lets-mapped in_done Nothing (batch_execute text) (batch-free (query_frame text))
let-go own command.Check = lets-mapped in_done Nothing check_connection (done-free false sync_frame)
let-go own (command.Prepare slot text types) = lets-mapped in_statement Nothing (prepare text types) (preparing-text text types).lets_go
let-go own command.Clear = lets-mapped in_done Nothing clear clearing.lets_go
let-go own (command.Query to values) = (says-query Any own.slots to values).lets_go
let-go own (command.QueryOne to values) = (says-query One own.slots to values).lets_go
let-go own (command.QueryOpt to values) = (says-query AtMostOne own.slots to values).lets_go
let-go own (command.QueryRaw to take values) = (says-raw take own.slots to values).lets_go
let-go own (command.QueryScalar to values) = (says-scalar Any own.slots to values).lets_go
let-go own (command.QueryOneScalar to values) = (says-scalar One own.slots to values).lets_go
let-go own (command.QueryOptScalar to values) = (says-scalar AtMostOne own.slots to values).lets_go
let-go own (command.Execute to values) = (says-execute own.slots to values).lets_go
let-go own (command.QueryTyped asked) = (says-typed Any asked).lets_go
let-go own (command.QueryTypedOne asked) = (says-typed One asked).lets_go
let-go own (command.QueryTypedOpt asked) = (says-typed AtMostOne asked).lets_go
let-go own (command.ExecuteTyped asked) = (says-execute-typed asked).lets_go
let-go own (command.Close slot) = (says-close own.slots slot).lets_go
let-go own (command.Begin modes) = (says-begin modes).lets_go
let-go own (command.Savepoint name) = (says-savepoint own.levels name).lets_go
let-go own command.Commit = (says-commit own.levels).lets_go
let-go own command.Rollback = (says-rollback own.levels).lets_go
let-go own command.Abandon = (says-abandon own.levels).lets_go

-- ---- and mean what the headline says

abbrev Said : Type 0
Said = Dialogue DeskCall Reply (Ending Answer Own)

-- what is kept of an answer
abbrev ending : Own → Result (List SimpleMessage) Error → Said
ending own r = Answers (record { answer = kept_answer (mapped_answer in_messages r); own = own })

decides-same : (o : Option SimpleAnswer) → is_some (option_map answer_from o) ≡ is_some o
decides-same None = refl
decides-same (Some x) = refl

ends-same : (own : Own) (stops : Bool) (o : Option SimpleAnswer) → behind (asked (ends stops (option_map answer_from o))) (ending own) ≡ ending own (answer_from (told_or o))
ends-same own stops None = refl
ends-same own true (Some (Ok x)) = refl
ends-same own false (Some (Ok x)) = refl
ends-same own stops (Some (Err e)) = refl

reads-same : (own : Own) (take : Option ℕ) (o : Option SimpleAnswer) →
    behind (asked (reads_unless (is_some take) (told take) (option_map answer_from o))) (ending own) ≡ behind (simples.reads_unless take o) (λ a. ending own (answer_from a))
reads-same own take (Some r) = refl
reads-same own take None = λ i. Reads (λ ms. decides-same (simple_reading take ms) i) (λ ms. ends-same own (is_some take) (simple_reading take ms) i)

asks-same : (own : Own) (take : Option ℕ) (o : Result (List ℕ) FrameFault) → behind (asked (asks_of take o)) (ending own) ≡ behind (asks_by take o) (λ a. ending own (answer_from a))
asks-same own take (Err fault) = refl
asks-same own take (Ok frame) = ap (λ (d : Said). Asks false frame d) (reads-same own take (simple_reading take []))

pub are-simple : AreSimple (meaning_of table) simply
are-simple own (command.Simple text take) text' take' e =
    let same : (text, take) ≡ (text', take') = cc in
    asked-mapped in_messages (λ r. Answers (record { answer = kept_answer r; own = own })) (asks_of take (query_frame text))
    ∙ asks-same own take (query_frame text)
    ∙ ap (λ (t : List ℕ × Option ℕ). behind (asks_by t.1 (query_frame t.0)) (λ a. ending own (answer_from a))) same
are-simple own (command.Batch text) text' take' e = absurd cc
are-simple own command.Check text' take' e = absurd cc
are-simple own (command.Prepare slot text types) text' take' e = absurd cc
are-simple own command.Clear text' take' e = absurd cc
are-simple own (command.Query to values) text' take' e = absurd cc
are-simple own (command.QueryOne to values) text' take' e = absurd cc
are-simple own (command.QueryOpt to values) text' take' e = absurd cc
are-simple own (command.QueryRaw to take values) text' take' e = absurd cc
are-simple own (command.QueryScalar to values) text' take' e = absurd cc
are-simple own (command.QueryOneScalar to values) text' take' e = absurd cc
are-simple own (command.QueryOptScalar to values) text' take' e = absurd cc
are-simple own (command.Execute to values) text' take' e = absurd cc
are-simple own (command.QueryTyped asked) text' take' e = absurd cc
are-simple own (command.QueryTypedOne asked) text' take' e = absurd cc
are-simple own (command.QueryTypedOpt asked) text' take' e = absurd cc
are-simple own (command.ExecuteTyped asked) text' take' e = absurd cc
are-simple own (command.Close slot) text' take' e = absurd cc
are-simple own (command.Begin modes) text' take' e = absurd cc
are-simple own (command.Savepoint name) text' take' e = absurd cc
are-simple own command.Commit text' take' e = absurd cc
are-simple own command.Rollback text' take' e = absurd cc
are-simple own command.Abandon text' take' e = absurd cc
