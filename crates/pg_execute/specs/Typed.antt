-- A text that is executed with values of these types, in one request (PostgreSQL documentation, "Extended Query"): Parse and Bind without
-- names, Describe, Execute, Sync.
use Rattle.std.specs.Prelude.{ℕ, List, [], ◌∷◌, ◌++◌, length, map, Bool, true, false, ◌||◌, Option, Some, None, Result, Ok, Err, if◌then◌else◌, pos}
use Rattle.std.specs.Str.{byte, is_utf8}
use Rattle.pg_spec.specs.Bodies.{Field, fields_of}
use Rattle.pg_spec.specs.Faults.{◌>>=◌, Closed, FrameFault, Frame, NotText, Parse, UnexpectedMessage, Wire, WireFault}
use Rattle.pg_spec.specs.Frames.{bind_frame, describe_frame, execute_frame, parse_frame, sync_frame}
use Rattle.pg_spec.specs.Messages as message
use Rattle.pg_spec.specs.Messages.{message_of}
use Rattle.pg_spec.specs.RawMessages.{RawMessage}
use Rattle.pg_spec.specs.Readings.{Next, GoesOn, Answers}
use Rattle.pg_spec.specs.SimpleQuery.{affected, server_error, unreadable}
use Rattle.pg_types.specs.BuiltIns.{built_in_type}
use Rattle.pg_types.specs.declared.pg_type.PgType.{PgType}
use Rattle.pg_types.specs.declared.error.Error.{Error}
use Rattle.pg_desk.specs.declared.statement.Described.{Described as Statement}
use Rattle.pg_query.specs.declared.desk_call.Cleanup.TheVariants.{Release}
use Rattle.pg_query.specs.declared.desk_call.DeskCall.TheVariants as desk_call
use Rattle.pg_query.specs.declared.desk_call.Reply.{Reply}
use Rattle.pg_query.specs.declared.desk_call.Reply.TheVariants as reply
use Rattle.pg_query.specs.Dialogue.{Dialogue, Answer, Call, HangUp, Read}
use Rattle.pg_query.specs.Reading.{reads}
use Rattle.pg_core.specs.Sequences.{then_do}
use Rattle.pg_core.specs.Composing.{asks_for, or_encode}
use Rattle.pg_core.specs.Prepares.{columns_of}
use Rattle.pg_core.specs.QueryReplies.{told_by}
use Rattle.pg_execute.specs.Executes.{whole_rows}
use Rattle.pg_execute.specs.Parameters.{Params, given_behind}
use Rattle.pg_execute.specs.Rows.{rows_read}
use Rattle.pg_execute.specs.declared.got.Got.{Got}
use Rattle.pg_execute.specs.declared.how_many.HowMany.{HowMany}
use Rattle.pg_execute.specs.declared.result_set.ResultSet.{ResultSet}

-- ---- the request

-- Parse, or the error of one that can't be written
abbrev pub or_parse : Result (List ℕ) FrameFault → Result (List ℕ) Error
or_parse (Ok frame) = Ok frame
or_parse (Err f) = Err (Parse (Frame f))

-- the frames behind it
abbrev pub typed_frames : List (Option (List ℕ)) → Result (List ℕ) FrameFault
typed_frames given =
    bind_frame [] [] (map (λ v. pos 1) given) given (pos 1) >>= λ bind.
    describe_frame (byte "S") [] >>= λ describe.
    execute_frame [] (pos 0) >>= λ execute.
    Ok (bind ++ describe ++ execute ++ sync_frame)

-- The request. The text is looked at first, then each value, and then the other frames. There are as many values as types.
abbrev pub typed_request : (text : List ℕ) → List PgType → Params → Result (List ℕ) Error
typed_request text types vs =
    or_parse (parse_frame [] text (map (λ ty. ty.oid) types)) >>= λ parse.
    given_behind [] types vs >>= λ given.
    or_encode (typed_frames given) >>= λ rest.
    Ok (parse ++ rest)

-- ---- the columns, which come before the rows

-- the columns of a RowDescription, which end this part of the reply
abbrev pub head_columns : Result (List Field) WireFault → Next (Unit {0}) (Result (List Field) Error)
head_columns (Ok fields) = Answers (Ok fields)
head_columns (Err fault) = Answers (Err (unreadable fault))

-- what a message does
abbrev pub head_message : message.Message → Next (Unit {0}) (Result (List Field) Error)
head_message (message.ErrorResponse fields) = Answers (Err (server_error fields))
head_message message.ParseComplete = GoesOn tt
head_message message.BindComplete = GoesOn tt
head_message (message.ParameterDescription count oids) = GoesOn tt
head_message message.NoData = Answers (Ok [])
head_message (message.RowDescription count fields) = head_columns (fields_of count fields)
head_message other = Answers (Err UnexpectedMessage)

-- the same of a message that may be malformed
abbrev pub head_next : Unit {0} → RawMessage → Next (Unit {0}) (Result (List Field) Error)
head_next u raw = elim (message_of raw) [
  | Ok m ↦ head_message m
  | Err fault ↦ Answers (Err (Parse (Wire fault)))
]

-- the columns of the rows that follow
abbrev pub head : List RawMessage → Option (Result (List Field) Error)
head = told_by head_next tt

-- ---- their types

-- the type that the desk keeps
abbrev pub type_told : {T : Type 0} → (Option PgType → Dialogue T) → Reply → Dialogue T
type_told next (reply.Type found) = next found
type_told next other = HangUp (Answer (Err Closed))

-- The type of an oid that is built-in or kept, while a request is read; where the desk refuses the question, the request is hung up.
abbrev pub known_or : {T : Type 0} → ℕ → Option PgType → (Option PgType → Dialogue T) → Dialogue T
known_or oid (Some ty) next = next (Some ty)
known_or oid None next = Call (desk_call.TypeOf oid) (λ e. HangUp (Answer (Err e))) (type_told next)

-- it is known, or more is to be done
abbrev pub or_else : {T : Type 0} → Dialogue T → (PgType → Dialogue T) → Option PgType → Dialogue T
or_else later next (Some ty) = next ty
or_else later next None = later

-- The types of these oids in order, up to the first that isn't known: then this is done in place of the rest.
abbrev pub all_known : {T : Type 0} → Dialogue T → (List PgType → Dialogue T) → List ℕ → (found : List PgType) → Dialogue T
all_known later next [] found = next found
all_known later next (oid ∷ oids) found = known_or oid (built_in_type oid) (or_else later (λ ty. all_known later next oids (found ++ ty ∷ [])))

-- ---- the rows

-- BindComplete came before the columns
abbrev pub columns_came : Got
columns_came = record { bound = true; rows = []; affected = None }

-- what the rows are rows of: a statement without a name
abbrev pub unnamed : List Field → List PgType → Statement
unnamed fields types = record { name = []; params = []; columns = columns_of fields types }

-- the rows, where their columns have these types
abbrev pub typed_rows : HowMany → List Field → List PgType → List RawMessage → Option (Result ResultSet Error)
typed_rows how fields types = rows_read how (length fields) (whole_rows (unnamed fields types)) columns_came

-- the end of a reply: ReadyForQuery, an error of the server, or what is malformed
abbrev pub ends_reply : message.Message → Bool
ends_reply (message.ErrorResponse fields) = true
ends_reply (message.ReadyForQuery status) = true
ends_reply other = false

-- the same of a message that may be malformed
abbrev pub is_end : RawMessage → Bool
is_end raw = elim (message_of raw) [ Ok m ↦ ends_reply m | Err fault ↦ true ]

-- all came up to that
abbrev pub has_ended : List RawMessage → Bool
has_ended [] = false
has_ended (m ∷ ms) = is_end m || has_ended ms

-- what messages told
abbrev pub told_or : {A : Type 0} → Option (Result A Error) → Result A Error
told_or (Some r) = r
told_or None = Err UnexpectedMessage

-- The rest of the reply is taken, unread, and the request is hung up. Then the types of all columns are found, and what was taken is read.
abbrev pub takes_rest : (List ℕ → Dialogue (List PgType)) → HowMany → List Field → Dialogue ResultSet
takes_rest find how fields = Read (Release ∷ []) has_ended (λ taken.
    HangUp (then_do (find (map (λ f. f.type_oid) fields)) (λ types. Answer (told_or (typed_rows how fields types taken)))))

-- the columns came: where the type of each is known the rows are read on, and otherwise they wait
abbrev pub behind_head : (List ℕ → Dialogue (List PgType)) → HowMany → List Field → Dialogue ResultSet
behind_head find how fields = all_known (takes_rest find how fields) (λ types. reads false (typed_rows how fields types)) (map (λ f. f.type_oid) fields) []

-- query_typed, query_typed_opt, query_typed_one
abbrev pub query_typed : (List ℕ → Dialogue (List PgType)) → HowMany → (text : List ℕ) → List PgType → Params → Dialogue ResultSet
query_typed find how text types vs = asks_for (typed_request text types vs) (then_do (reads false head) (behind_head find how))

-- ---- a count

-- what a message does to the count
abbrev pub typed_count_message : (count : ℕ) → message.Message → Next ℕ (Result ℕ Error)
typed_count_message n (message.ErrorResponse fields) = Answers (Err (server_error fields))
typed_count_message n message.ParseComplete = GoesOn n
typed_count_message n message.BindComplete = GoesOn n
typed_count_message n (message.ParameterDescription count oids) = GoesOn n
typed_count_message n (message.RowDescription count fields) = GoesOn n
typed_count_message n (message.DataRow count cells) = GoesOn n
typed_count_message n message.NoData = GoesOn 0
typed_count_message n (message.CommandComplete tag) = if is_utf8 tag then GoesOn (affected tag) else Answers (Err (Parse NotText))
typed_count_message n message.EmptyQueryResponse = GoesOn 0
typed_count_message n (message.ReadyForQuery status) = Answers (Ok n)
typed_count_message n other = Answers (Err UnexpectedMessage)

-- the same of a message that may be malformed
abbrev pub typed_count_next : (count : ℕ) → RawMessage → Next ℕ (Result ℕ Error)
typed_count_next n raw = elim (message_of raw) [
  | Ok m ↦ typed_count_message n m
  | Err fault ↦ Answers (Err (Parse (Wire fault)))
]

-- execute_typed: how many rows its last command affected; nothing but the end of the reply is read
abbrev pub execute_typed : (text : List ℕ) → List PgType → Params → Dialogue ℕ
execute_typed text types vs = asks_for (typed_request text types vs) (reads false (told_by typed_count_next 0))
