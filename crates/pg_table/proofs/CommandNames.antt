-- The commands of the table use each number that they were told once, as the name of a statement.
use Rattle.std.proofs.Common.{◌≡◌, ℕ, List, [], ◌∷◌, ◌++◌, length, map, Bool, true, false, if◌then◌else◌, Option, Some, None, Result, Ok, Err, codes, refl, sym, ap, ◌==◌}
use Rattle.std.specs.Prelude.{is_some}
use Rattle.pg_spec.specs.Bodies.{Field}
use Rattle.pg_spec.specs.Faults.{FrameFault, Parameters}
use Rattle.pg_spec.specs.Frames.{query_frame, sync_frame}
use Rattle.pg_spec.specs.RawMessages.{RawMessage}
use Rattle.pg_types.specs.BuiltIns.{built_in_type}
use Rattle.pg_types.specs.declared.pg_type.PgType.{PgType}
use Rattle.pg_types.specs.declared.value.Value.{Value}
use Rattle.pg_types.specs.declared.error.Error.{Error}
use Rattle.pg_desk.specs.declared.statement.Described.{Described as Statement}
use Rattle.pg_query.specs.Dialogue.{Dialogue, Answer}
use Rattle.pg_query.specs.Reading.{reads}
use Rattle.pg_query.specs.Requests.{asks, reads_unless}
use Rattle.pg_query.specs.declared.desk_call.Reply.{Reply}
use Rattle.pg_query.specs.declared.desk_call.Reply.TheVariants as reply
use Rattle.pg_core.specs.Composing.{or_encode}
use Rattle.pg_core.specs.Lookups.{clear, find_all, prepare}
use Rattle.pg_core.specs.QueryReplies.{told_by}
use Rattle.pg_core.specs.Sequences.{then_do}
use Rattle.pg_client.specs.Done.{batch_by, batch_execute, batch_reading, check_connection, check_reading}
use Rattle.pg_client.specs.Simple.{asks_by, simple_query, told}
use Rattle.pg_execute.specs.Counts.{count_read, nothing_counted}
use Rattle.pg_execute.specs.Executes as execution
use Rattle.pg_execute.specs.Executes.{close, close_part, close_request, closed_by, executes, first_queried, on_text, posts, posts_before, queried, scalars, sends, whole_rows}
use Rattle.pg_execute.specs.Parameters.{Params, execute_request, given_of}
use Rattle.pg_execute.specs.Typed as typed
use Rattle.pg_execute.specs.Typed.{all_known, behind_head, execute_typed, head, or_else, query_typed, takes_rest, told_or, typed_count_next, typed_request, typed_rows}
use Rattle.pg_execute.specs.Types.{built_in_types}
use Rattle.pg_execute.specs.Values.{value_of}
use Rattle.pg_execute.specs.declared.how_many.HowMany.{HowMany}
use Rattle.pg_execute.specs.declared.how_many.HowMany.TheVariants.{Any, AtMostOne, One}
use Rattle.pg_states.specs.Paired.{paired}
use Rattle.pg_text.specs.declared.command.Command.{Command}
use Rattle.pg_text.specs.declared.command.Command.TheVariants as command
use Rattle.pg_text.specs.declared.command.CommandTarget.{CommandTarget}
use Rattle.pg_text.specs.declared.command.CommandTarget.TheVariants as target
use Rattle.pg_text.specs.declared.command.TypedText.{TypedText}
use Rattle.pg_table.specs.FreshNames.{statement_names}
use Rattle.pg_table.specs.Mapped.{mapped}
use Rattle.pg_query.specs.declared.desk_call.Cleanup.TheVariants.{Post}
use Rattle.pg_core.specs.Behind.{behind}
use Rattle.pg_steps.specs.Dialogues.{begin, rolled_back_at_error}
use Rattle.pg_steps.specs.Requests.{rollback_frame}
use Rattle.pg_steps.specs.Transactions.{commits_by, opens_by, rolls_back_by, start_text}
use Rattle.pg_steps.specs.declared.modes.Modes.{Modes}
use Rattle.pg_table.specs.Abandons.{abandons_by}
use Rattle.pg_table.specs.Levels.{Levels, innermost, level_name, new_name}
use Rattle.pg_table.specs.declared.levels.Level.{Level}
use Rattle.pg_table.specs.declared.own.Own.{Own}
use Rattle.pg_table.specs.Slots.{Slots, statement_in}
use Rattle.pg_table.specs.Table.{in_count, in_done, in_messages, in_rows, in_scalars, in_statement, says_of, says_query_typed}
use Rattle.pg_table.specs.Targets.{on_target, or_missing}
use Rattle.pg_table.specs.declared.state.AnyAnswer.{AnyAnswer}
use Rattle.pg_table.proofs.FrameNames.{made-ok, query-names, sync-names}
use Rattle.pg_table.proofs.LookupNames.{clearing, finding-all, preparing-text}
use Rattle.pg_table.proofs.NamesTold.{IsFresh, behinds, booked, names_told, reading, thens}
use Rattle.pg_table.proofs.NamesUsed.{uses-mapped}
use Rattle.pg_table.proofs.RequestNames.{close-names, closing-names, execute-names, typed-names}

-- ---- executions

executing : {A : Type 0} (stops : Bool) (told : List RawMessage → Option (Result A Error)) (s : Statement) (vs : Params) → IsFresh (executes stops told s vs)
executing stops told s vs = booked (execute_request s vs) (reads stops told) (execute-names s vs) (reading stops told)

posting : {T : Type 0} (part : Option (List ℕ)) (r : Result T Error) → ((x : List ℕ) → part ≡ Some x → statement_names x ≡ []) → IsFresh (posts_before part r)
posting None r none = tt
posting (Some part) r none = ([], [], sym (ap (λ (l : List (List ℕ)). l ++ []) (none part refl)), tt)

sending : (request : Result (List ℕ) Error) → ((x : List ℕ) → request ≡ Ok x → statement_names x ≡ []) → IsFresh (sends request)
sending (Err e) none = tt
sending (Ok part) none = ([], [], sym (ap (λ (l : List (List ℕ)). l ++ []) (none part refl)), tt)

closing : (s : Statement) → IsFresh (close s)
closing s = sending (or_encode (close_request s.name)) (λ part e. closing-names s.name part (made-ok (close_request s.name) part e))

closing-behind : {T : Type 0} (name : List ℕ) (d : Dialogue T) → IsFresh d → IsFresh (closed_by (close_part name) d)
closing-behind name d h = behinds (posts (close_part name)) (posts_before (close_part name)) (λ r. posting (close_part name) r (close-names name)) [] d h

on-text : {T : Type 0} (text : List ℕ) (body : Statement → Dialogue T) → ((s : Statement) → IsFresh (body s)) → IsFresh (on_text (prepare text []) body)
on-text text body h = thens (prepare text []) (λ s. closed_by (close_part s.name) (body s)) (preparing-text text []) (λ s. closing-behind s.name (body s) (h s))

or-missing : {A T : Type 0} (body : A → Dialogue T) → ((x : A) → IsFresh (body x)) → (o : Option A) → IsFresh (or_missing body o)
or-missing body h (Some x) = h x
or-missing body h None = tt

on-target : {T : Type 0} (own : Slots) (to : CommandTarget) (body : Statement → Dialogue T) → ((s : Statement) → IsFresh (body s)) → IsFresh (on_target own to body)
on-target own (target.Slot slot) body h = or-missing body h (statement_in own slot)
on-target own (target.Text text) body h = on-text text body h

-- ---- a text in one request, without a name

typed-told : {T : Type 0} (n : Option PgType → Dialogue T) → ((o : Option PgType) → IsFresh (n o)) → (r : Reply) → IsFresh (typed.type_told n r)
typed-told n h (reply.Type found) = h found
typed-told n h other = tt

typed-known : {T : Type 0} (oid : ℕ) (o : Option PgType) (n : Option PgType → Dialogue T) → ((o : Option PgType) → IsFresh (n o)) → IsFresh (typed.known_or oid o n)
typed-known oid (Some ty) n h = h (Some ty)
typed-known oid None n h = λ r. typed-told n h r

all-typed : {T : Type 0} (later : Dialogue T) (next : List PgType → Dialogue T) → IsFresh later → ((types : List PgType) → IsFresh (next types)) → (oids : List ℕ) (found : List PgType) → IsFresh (all_known later next oids found)
all-typed later next l h [] found = h found
all-typed {T} later next l h (oid ∷ oids) found =
    typed-known oid (built_in_type oid) (or_else later (λ ty. all_known later next oids (found ++ ty ∷ []))) (each (λ ty. all-typed later next l h oids (found ++ ty ∷ [])))
  where
    each : ((ty : PgType) → IsFresh (all_known later next oids (found ++ ty ∷ []))) → (o : Option PgType) → IsFresh (or_else later (λ ty. all_known later next oids (found ++ ty ∷ [])) o)
    each k (Some ty) = k ty
    each k None = l

rest-taken : (how : HowMany) (fields : List Field) → IsFresh (takes_rest find_all how fields)
rest-taken how fields = λ ms. thens (find_all (map (λ f. f.type_oid) fields)) (λ types. Answer (told_or (typed_rows how fields types ms))) (finding-all (map (λ f. f.type_oid) fields)) (λ types. tt)

head-read : (how : HowMany) (fields : List Field) → IsFresh (behind_head find_all how fields)
head-read how fields = all-typed (takes_rest find_all how fields) (λ types. reads false (typed_rows how fields types)) (rest-taken how fields) (λ types. reading false (typed_rows how fields types)) (map (λ f. f.type_oid) fields) []

typed-queries : (how : HowMany) (text : List ℕ) (types : List PgType) (vs : Params) → IsFresh (query_typed find_all how text types vs)
typed-queries how text types vs = booked (typed_request text types vs) (then_do (reads false head) (behind_head find_all how)) (typed-names text types vs) (thens (reads false head) (behind_head find_all how) (reading false head) (head-read how))

typed-executes : (text : List ℕ) (types : List PgType) (vs : Params) → IsFresh (execute_typed text types vs)
typed-executes text types vs = booked (typed_request text types vs) (reads false (told_by typed_count_next 0)) (typed-names text types vs) (reading false (told_by typed_count_next 0))

paired-fresh : {T : Type 0} (types : ℕ) (values : Params) (d : Dialogue T) → IsFresh d → IsFresh (paired types values d)
paired-fresh types values d h = by (values.count == types)
  where
    by : (b : Bool) → IsFresh (if b then d else Answer (Err (Parameters (values.count) types)))
    by true = h
    by false = tt

-- ---- a request of one Query, or of Sync alone

unless : {T : Type 0} (stops : Bool) (told : List RawMessage → Option (Result T Error)) (o : Option (Result T Error)) → IsFresh (reads_unless stops told o)
unless stops told (Some r) = tt
unless stops told None = reading stops told

asking : {T : Type 0} (stops : Bool) (frame : List ℕ) (told : List RawMessage → Option (Result T Error)) → statement_names frame ≡ [] → IsFresh (asks stops frame told)
asking stops frame told none = ([], [], sym (ap (λ (l : List (List ℕ)). l ++ []) none), unless stops told (told []))

simple-by : (take : Option ℕ) (text : List ℕ) (r : Result (List ℕ) FrameFault) → query_frame text ≡ r → IsFresh (asks_by take r)
simple-by take text (Err fault) e = tt
simple-by take text (Ok frame) e = asking (is_some take) frame (told take) (query-names text frame e)

batch-fresh : (text : List ℕ) (r : Result (List ℕ) FrameFault) → query_frame text ≡ r → IsFresh (batch_by r)
batch-fresh text (Err fault) e = tt
batch-fresh text (Ok frame) e = asking false frame batch_reading (query-names text frame e)

-- ---- the table

in-words : {T : Type 0} (f : T → AnyAnswer) (d : Dialogue T) → IsFresh d → IsFresh (mapped f d)
in-words f d h = uses-mapped statement_names names_told f [] d h

queries : (how : HowMany) (own : Slots) (to : CommandTarget) (values : List Value) → IsFresh (on_target own to (λ s. execution.query how s (given_of values)))
queries how own to values = on-target own to (λ s. execution.query how s (given_of values)) (λ s. executing false (queried how whole_rows s) s (given_of values))

scalar-queries : (how : HowMany) (own : Slots) (to : CommandTarget) (values : List Value) → IsFresh (on_target own to (λ s. execution.query_scalar how s (given_of values)))
scalar-queries how own to values = on-target own to (λ s. execution.query_scalar how s (given_of values)) (λ s. executing false (queried how (scalars value_of) s) s (given_of values))

typed-says : (how : HowMany) (asked : TypedText) → IsFresh (says_query_typed how asked)
typed-says how asked =
    let says = query_typed find_all how asked.text (built_in_types asked.types) (given_of asked.values) in
    in-words in_rows (paired (length asked.types) (given_of asked.values) says) (paired-fresh (length asked.types) (given_of asked.values) says (typed-queries how asked.text (built_in_types asked.types) (given_of asked.values)))

-- ---- the levels of a transaction

back-fresh : (r : Result (Unit {0}) Error) → IsFresh (rolled_back_at_error r)
back-fresh (Ok x) = tt
back-fresh (Err e) = ([], [], sym (ap (λ (l : List (List ℕ)). l ++ []) (query-names (codes "ROLLBACK") rollback_frame refl)), tt)

begins : (modes : Modes) → IsFresh (begin modes)
begins modes =
    booked (or_encode (query_frame (start_text modes))) (behind (Post rollback_frame ∷ []) (reads false batch_reading) rolled_back_at_error)
    (λ part e. query-names (start_text modes) part (made-ok (query_frame (start_text modes)) part e))
    (behinds (Post rollback_frame ∷ []) rolled_back_at_error back-fresh [] (reads false batch_reading) (reading false batch_reading))

abandons : (text : List ℕ) → IsFresh (abandons_by text)
abandons text = sending (or_encode (query_frame text)) (λ part e. query-names text part (made-ok (query_frame text) part e))

in-level : (text : Level → List ℕ) (levels : Levels) → IsFresh (mapped in_done (or_missing (λ level. batch_execute (text level)) (innermost levels)))
in-level text levels =
    in-words in_done (or_missing (λ level. batch_execute (text level)) (innermost levels))
    (or-missing (λ level. batch_execute (text level)) (λ level. batch-fresh (text level) (query_frame (text level)) refl) (innermost levels))

pub fresh-says : (own : Own) (c : Command) → IsFresh (says_of own c)
fresh-says own (command.Simple text take) = in-words in_messages (simple_query text take) (simple-by take text (query_frame text) refl)
fresh-says own (command.Batch text) = in-words in_done (batch_execute text) (batch-fresh text (query_frame text) refl)
fresh-says own command.Check = in-words in_done check_connection (asking false sync_frame check_reading sync-names)
fresh-says own (command.Prepare slot text types) = in-words in_statement (prepare text types) (preparing-text text types)
fresh-says own command.Clear = in-words in_done clear clearing
fresh-says own (command.Query to values) = in-words in_rows (on_target own.slots to (λ s. execution.query Any s (given_of values))) (queries Any own.slots to values)
fresh-says own (command.QueryOne to values) = in-words in_rows (on_target own.slots to (λ s. execution.query One s (given_of values))) (queries One own.slots to values)
fresh-says own (command.QueryOpt to values) = in-words in_rows (on_target own.slots to (λ s. execution.query AtMostOne s (given_of values))) (queries AtMostOne own.slots to values)
fresh-says own (command.QueryRaw to take values) =
    in-words in_rows (on_target own.slots to (λ s. execution.query_raw take s (given_of values))) (on-target own.slots to (λ s. execution.query_raw take s (given_of values)) (λ s. executing true (first_queried take whole_rows s) s (given_of values)))
fresh-says own (command.QueryScalar to values) = in-words in_scalars (on_target own.slots to (λ s. execution.query_scalar Any s (given_of values))) (scalar-queries Any own.slots to values)
fresh-says own (command.QueryOneScalar to values) = in-words in_scalars (on_target own.slots to (λ s. execution.query_scalar One s (given_of values))) (scalar-queries One own.slots to values)
fresh-says own (command.QueryOptScalar to values) = in-words in_scalars (on_target own.slots to (λ s. execution.query_scalar AtMostOne s (given_of values))) (scalar-queries AtMostOne own.slots to values)
fresh-says own (command.Execute to values) =
    in-words in_count (on_target own.slots to (λ s. execution.execute s (given_of values))) (on-target own.slots to (λ s. execution.execute s (given_of values)) (λ s. executing false (count_read nothing_counted) s (given_of values)))
fresh-says own (command.QueryTyped asked) = typed-says Any asked
fresh-says own (command.QueryTypedOne asked) = typed-says One asked
fresh-says own (command.QueryTypedOpt asked) = typed-says AtMostOne asked
fresh-says own (command.ExecuteTyped asked) =
    let says = execute_typed asked.text (built_in_types asked.types) (given_of asked.values) in
    in-words in_count (paired (length asked.types) (given_of asked.values) says) (paired-fresh (length asked.types) (given_of asked.values) says (typed-executes asked.text (built_in_types asked.types) (given_of asked.values)))
fresh-says own (command.Close slot) = in-words in_done (or_missing close (statement_in own.slots slot)) (or-missing close closing (statement_in own.slots slot))
fresh-says own (command.Begin modes) = in-words in_done (begin modes) (begins modes)
fresh-says own (command.Savepoint name) = in-level (λ level. opens_by (new_name own.levels name)) own.levels
fresh-says own command.Commit = in-level (λ level. commits_by (level_name level)) own.levels
fresh-says own command.Rollback = in-level (λ level. rolls_back_by (level_name level)) own.levels
fresh-says own command.Abandon =
    let body = λ (level : Level). abandons_by (rolls_back_by (level_name level)) in
    in-words in_done (or_missing body (innermost own.levels)) (or-missing body (λ level. abandons (rolls_back_by (level_name level))) (innermost own.levels))
