-- What is asked and answered where a statement is executed, and where a text is (PostgreSQL documentation, "Extended Query").
use Rattle.std.specs.Prelude.{ℕ, List, [], ◌∷◌, ◌++◌, length, Bool, true, false, Option, Some, None, Result, Ok, Err}
use Rattle.std.specs.Str.{byte}
use Rattle.pg_spec.specs.Faults.{◌>>=◌, FrameFault}
use Rattle.pg_spec.specs.Frames.{close_frame, sync_frame}
use Rattle.pg_spec.specs.RawMessages.{RawMessage}
use Rattle.pg_types.specs.declared.fault.ValueFault.{ValueFault}
use Rattle.pg_types.specs.declared.pg_type.PgType.{PgType}
use Rattle.pg_types.specs.declared.value.Value.{Value}
use Rattle.pg_types.specs.declared.error.Error.{Error}
use Rattle.pg_desk.specs.declared.statement.Described.{Described as Statement}
use Rattle.pg_query.specs.declared.desk_call.Cleanup.{Cleanup}
use Rattle.pg_query.specs.declared.desk_call.Cleanup.TheVariants.{Post}
use Rattle.pg_query.specs.Dialogue.{Dialogue, Answer, Send}
use Rattle.pg_query.specs.Reading.{reads}
use Rattle.pg_core.specs.Behind.{behind}
use Rattle.pg_core.specs.Sequences.{then_do}
use Rattle.pg_core.specs.Composing.{asks_for, or_encode}
use Rattle.pg_execute.specs.Counts.{count_read, nothing_counted}
use Rattle.pg_execute.specs.Parameters.{Params, execute_request}
use Rattle.pg_execute.specs.Rows.{first_rows_read, nothing_got, rows_read}
use Rattle.pg_execute.specs.Values.{column_values, value_of}
use Rattle.pg_execute.specs.declared.got.Got.{Got}
use Rattle.pg_execute.specs.declared.how_many.HowMany.{HowMany}
use Rattle.pg_execute.specs.declared.how_many.HowMany.TheVariants.{Any}
use Rattle.pg_execute.specs.declared.result_set.ResultSet.{ResultSet}

-- ---- a statement

-- the rows themselves
abbrev pub whole_rows : Statement → Got → Result ResultSet Error
whole_rows s g = Ok (record { statement = s; rows = g.rows; affected = g.affected })

-- the values of their one column, read in this way
abbrev pub scalars : {A : Type 0} → (PgType → Option (List ℕ) → Result A ValueFault) → Statement → Got → Result (List A) Error
scalars read s g = column_values read s.columns g.rows

-- A statement is executed with these values, and its reply is read so. At an error the request is hung up, and at a value too where it stops
-- there.
abbrev pub executes : {A : Type 0} → (stops : Bool) → (List RawMessage → Option (Result A Error)) → Statement → Params → Dialogue A
executes stops reading s vs = asks_for (execute_request s vs) (reads stops reading)

-- the reply of a statement, of which something is made of its rows, of which there may be so many
abbrev pub queried : {A : Type 0} → HowMany → (Statement → Got → Result A Error) → Statement → List RawMessage → Option (Result A Error)
queried how makes s = rows_read how (length s.columns) (makes s) nothing_got

-- its first rows, so many of them at most
abbrev pub first_queried : {A : Type 0} → (take : ℕ) → (Statement → Got → Result A Error) → Statement → List RawMessage → Option (Result A Error)
first_queried take makes s = first_rows_read take Any (length s.columns) (makes s) nothing_got

-- query, query_opt, query_one: rows
abbrev pub query : HowMany → Statement → Params → Dialogue ResultSet
query how s vs = executes false (queried how whole_rows s) s vs

-- query_raw: the first rows, so many of them at most; then the request is hung up
abbrev pub query_raw : (take : ℕ) → Statement → Params → Dialogue ResultSet
query_raw take s vs = executes true (first_queried take whole_rows s) s vs

-- query_scalar, query_opt_scalar, query_one_scalar: the values of one column, read in this way
abbrev pub query_scalar_as : {A : Type 0} → (PgType → Option (List ℕ) → Result A ValueFault) → HowMany → Statement → Params → Dialogue (List A)
query_scalar_as read how s vs = executes false (queried how (scalars read) s) s vs

-- the same, each as a value of its own type
abbrev pub query_scalar : HowMany → Statement → Params → Dialogue (List Value)
query_scalar how s vs = query_scalar_as value_of how s vs

-- execute: how many rows its last command affected
abbrev pub execute : Statement → Params → Dialogue ℕ
execute s vs = executes false (count_read nothing_counted) s vs

-- ---- a text

-- Close of a statement, and Sync
abbrev pub close_request : (name : List ℕ) → Result (List ℕ) FrameFault
close_request name = close_frame (byte "S") name >>= λ close. Ok (close ++ sync_frame)

-- a request, where it can be written
abbrev pub written : Result (List ℕ) FrameFault → Option (List ℕ)
written (Ok part) = Some part
written (Err f) = None

-- what closes the statement of this name, as the name of each that was prepared can be written
abbrev pub close_part : (name : List ℕ) → Option (List ℕ)
close_part name = written (close_request name)

-- it is left to do
abbrev pub posts : Option (List ℕ) → List Cleanup
posts (Some part) = Post part ∷ []
posts None = []

-- It is sent before an answer is given, Ok or not, and nobody reads its reply. Where the desk refuses it, that error is the answer.
abbrev pub posts_before : {T : Type 0} → Option (List ℕ) → Result T Error → Dialogue T
posts_before (Some part) r = Send part (λ e. Answer (Err e)) (Answer r)
posts_before None r = Answer r

-- A request is sent, and nobody reads its reply. Where it can't be written, or the desk refuses it, that error is the answer.
abbrev pub sends : Result (List ℕ) Error → Dialogue (Unit {0})
sends (Ok part) = Send part (λ e. Answer (Err e)) (Answer (Ok tt))
sends (Err e) = Answer (Err e)

-- close: Close and Sync are sent for a statement
abbrev pub close : Statement → Dialogue (Unit {0})
close s = sends (or_encode (close_request s.name))

-- a dialogue, and this request behind it, also where it is given up
abbrev pub closed_by : {T : Type 0} → Option (List ℕ) → Dialogue T → Dialogue T
closed_by part d = behind (posts part) d (posts_before part)

-- A text is prepared, then this is done with its statement, and then the statement is closed. Where the text couldn't be prepared, or its
-- types couldn't be found, nothing is closed.
abbrev pub on_text : {T : Type 0} → (prepares : Dialogue Statement) → (Statement → Dialogue T) → Dialogue T
on_text prepares body = then_do prepares (λ s. closed_by (close_part s.name) (body s))
