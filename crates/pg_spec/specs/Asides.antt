-- Messages that no request asked for, or that come where none is open (PostgreSQL documentation, "Asynchronous Operations").
use Rattle.std.specs.Prelude.{◌≡◌, Bool, not, ◌&&◌, ◌||◌, IsTrue, List, Option, Some, None, is_some, is_none, if◌then◌else◌, Ok, Err, Contains}
use Rattle.std.specs.Str.{is_utf8}
use Rattle.pg_spec.specs.DbErrors.{db_error_of}
use Rattle.pg_spec.specs.Faults.{WireFault, Cause, Wire, Fields, NotText, Failure, UnexpectedMessage, Parse}
use Rattle.pg_spec.specs.Messages.{Message, ErrorResponse, NoticeResponse, NotificationResponse, ParameterStatus, message_of}
use Rattle.pg_spec.specs.RawMessages.{RawMessage, is_async, is_parameter}
use Rattle.pg_spec.specs.SimpleQuery.{server_error}

-- what a message means that comes where no request is open
abbrev pub unasked : Message → Failure
unasked (ErrorResponse fields) = server_error fields
unasked other = UnexpectedMessage

-- the same of a raw message: a malformed one is Parse
abbrev pub out_of_turn : RawMessage → Failure
out_of_turn raw = elim (message_of raw) [ Err fault ↦ Parse (Wire fault) | Ok message ↦ unasked message ]

-- a notice, a notification or a parameter report, which no request asks for, breaks its layout
abbrev pub AsideBreaks : WireFault → List RawMessage → Type 0
AsideBreaks fault later = (m : RawMessage) × Contains later m × IsTrue (is_async m || is_parameter m) × (message_of m ≡ Err fault)

-- why such a message can't be read: the fields of a notice, or a text that isn't UTF-8
abbrev pub aside_fault : Message → Option Cause
aside_fault (NoticeResponse fields) = if is_some (db_error_of fields) then None else Some Fields
aside_fault (NotificationResponse process_id channel payload) = if is_utf8 channel && is_utf8 payload then None else Some NotText
aside_fault (ParameterStatus name value) = if is_utf8 name && is_utf8 value then None else Some NotText
aside_fault other = None

-- a notice, a notification or a parameter report keeps its layout and can be read
abbrev pub is_readable : RawMessage → Bool
is_readable raw = elim (message_of raw) [
  | Ok message ↦ is_none (aside_fault message)
  | Err fault ↦ not (is_async raw || is_parameter raw)
]

-- one that was received can't be read, for this cause
abbrev pub AsideUnreadable : Cause → List RawMessage → Type 0
AsideUnreadable cause ms = (m : RawMessage) × (message : Message) × Contains ms m × (message_of m ≡ Ok message) × (aside_fault message ≡ Some cause)
