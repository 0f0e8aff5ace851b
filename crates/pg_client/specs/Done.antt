-- Replies that are read for their end alone: what a batch of statements and a Sync ask, and what they answer.
use Rattle.std.specs.Prelude.{◌≡◌, ◌&&◌, ℕ, Bool, true, false, List, [], ◌∷◌, Option, Some, None, Result, Ok, Err, if◌then◌else◌}
use Rattle.pg_spec.specs.Faults as spec
use Rattle.pg_spec.specs.Frames.{query_frame, sync_frame}
use Rattle.pg_spec.specs.Messages.{Message, CommandComplete, DataRow, EmptyQueryResponse, ErrorResponse, ReadyForQuery, RowDescription, message_of}
use Rattle.pg_spec.specs.RawMessages.{RawMessage}
use Rattle.pg_spec.specs.SimpleQuery.{server_error}
use Rattle.pg_types.specs.declared.error.Error.{Error}
use Rattle.pg_types.specs.declared.error.Error.TheVariants.{UnexpectedMessage}
use Rattle.pg_query.specs.Dialogue.{Dialogue, Answer}
use Rattle.pg_query.specs.Lives.{Deed}
use Rattle.pg_query.specs.Requests.{Answers, Awaits, asks}
use Rattle.pg_client.specs.declared.done_reading.DoneReading.{DoneReading}

-- ---- what each message tells

-- a message of what a statement gives: its columns, a row, its end (PostgreSQL documentation, "Simple Query")
abbrev pub is_of_result : Message → Bool
is_of_result (CommandComplete tag) = true
is_of_result (DataRow count cells) = true
is_of_result EmptyQueryResponse = true
is_of_result (RowDescription count fields) = true
is_of_result other = false

-- what any other message tells: the end, an error of the server, or that it has no place in the reply
abbrev pub told_by : Message → Result (Unit {0}) Error
told_by (ReadyForQuery status) = Ok tt
told_by (ErrorResponse fields) = Err (server_error fields)
told_by other = Err UnexpectedMessage

-- what a message tells, where results are passed over with their bodies unread, or have no place
abbrev pub done_message : (results : Bool) → Message → Option (Result (Unit {0}) Error)
done_message results message = if results && is_of_result message then None else Some (told_by message)

-- a malformed message is the answer
abbrev pub done_next : (results : Bool) → RawMessage → Option (Result (Unit {0}) Error)
done_next results raw = elim (message_of raw) [
  | Ok message ↦ done_message results message
  | Err fault ↦ Some (Err (spec.Parse (spec.Wire fault)))
]

-- the first answer that a message tells
abbrev pub done_reading : (results : Bool) → List RawMessage → Option (Result (Unit {0}) Error)
done_reading results [] = None
done_reading results (m ∷ ms) = elim (done_next results m) [ None ↦ done_reading results ms | Some r ↦ Some r ]

-- ---- the commands

-- the reply to a batch of statements: what each gives isn't read (PostgreSQL documentation, "Simple Query")
abbrev pub batch_reading : List RawMessage → Option (Result (Unit {0}) Error)
batch_reading ms = done_reading true ms

-- the reply to a Sync alone: nothing stands before its end (PostgreSQL documentation, "Extended Query")
abbrev pub check_reading : List RawMessage → Option (Result (Unit {0}) Error)
check_reading ms = done_reading false ms

-- a frame that can't be written is the answer
abbrev pub batch_by : Result (List ℕ) spec.FrameFault → Dialogue (Unit {0})
batch_by (Err fault) = Answer (Err (spec.Encode (spec.Frame fault)))
batch_by (Ok frame) = asks false frame batch_reading

-- Books one request, the Query of the text, and reads its reply to its answer.
abbrev pub batch_execute : (text : List ℕ) → Dialogue (Unit {0})
batch_execute text = batch_by (query_frame text)

-- Books one request, Sync alone, and reads its reply to its answer.
abbrev pub check_connection : Dialogue (Unit {0})
check_connection = asks false sync_frame check_reading

-- what it tells from here on
abbrev pub reading_of : DoneReading → List RawMessage → Option (Result (Unit {0}) Error)
reading_of r ms = done_reading r.results ms

-- ---- the whole life of a batch

-- what was done up to an answer, by the frame of the text
abbrev pub AnswersBatch : Result (List ℕ) spec.FrameFault → List Deed → Result (Unit {0}) Error → Type 0
AnswersBatch (Err fault) done r = (done ≡ []) × (r ≡ Err (spec.Encode (spec.Frame fault)))
AnswersBatch (Ok frame) done r = Answers batch_reading frame done r

-- what was done up to where a message is awaited
abbrev pub AwaitsBatch : Result (List ℕ) spec.FrameFault → List Deed → Type 0
AwaitsBatch (Err fault) done = ⊥
AwaitsBatch (Ok frame) done = Awaits batch_reading frame done
