-- A simple query: what it asks and answers (PostgreSQL documentation, "Simple Query").
use Rattle.std.specs.Prelude.{◌≡◌, ◌⊎◌, ℕ, List, map, Option, is_some, option_map, Result, Ok, Err}
use Rattle.pg_spec.specs.Faults as spec
use Rattle.pg_spec.specs.Frames.{query_frame}
use Rattle.pg_spec.specs.RawMessages.{RawMessage}
use Rattle.pg_spec.specs.Readings.{GoesOn, Answers, decision}
use Rattle.pg_spec.specs.SimpleQuery.{Item, Columns, Row, Complete, SimpleAnswer, SimpleState, SimpleNext, has_enough, simple_next, simple_message, simple_reading}
use Rattle.pg_spec.specs.Messages.{CommandComplete, DataRow}
use Rattle.pg_types.specs.declared.error.Error.{Error}
use Rattle.pg_types.specs.declared.error.Error.TheVariants.{OutOfMemory}
use Rattle.pg_query.specs.Dialogue.{Dialogue, Answer}
use Rattle.pg_query.specs.Requests.{asks}
use Rattle.pg_query.specs.declared.simple_message.SimpleMessage.{SimpleMessage}
use Rattle.pg_query.specs.declared.simple_message.SimpleMessage.TheVariants as simple
use Rattle.pg_client.specs.declared.simple_reading.SimpleReading.{SimpleReading}
use Rattle.pg_client.specs.declared.simple_reading.Seen.{Seen}
use Rattle.pg_client.specs.declared.simple_reading.Seen.TheVariants.{More, Ends, Fails}

-- what a part of an answer stands for
abbrev pub item_of : SimpleMessage → Item
item_of (simple.Columns names) = Columns names
item_of (simple.Row cells) = Row cells
item_of (simple.Complete n) = Complete n

-- the part of an answer that stands for an item
abbrev pub message_from : Item → SimpleMessage
message_from (Columns names) = simple.Columns names
message_from (Row cells) = simple.Row cells
message_from (Complete n) = simple.Complete n

-- what an answer stands for
abbrev pub answer_view : Result (List SimpleMessage) Error → SimpleAnswer
answer_view (Ok parts) = Ok (map item_of parts)
answer_view (Err e) = Err e

-- the answer that stands for it
abbrev pub answer_from : SimpleAnswer → Result (List SimpleMessage) Error
answer_from (Ok items) = Ok (map message_from items)
answer_from (Err failure) = Err failure

-- what the messages tell, from this state on
abbrev pub told_from : (take : Option ℕ) → SimpleState → List RawMessage → Option (Result (List SimpleMessage) Error)
told_from take state ms = option_map answer_from (option_map (λ d. d.answer) (decision (has_enough take) simple_next state ms))

-- what the whole reply tells
abbrev pub told : (take : Option ℕ) → List RawMessage → Option (Result (List SimpleMessage) Error)
told take group = option_map answer_from (simple_reading take group)

-- the state of a reading
abbrev pub state_of : SimpleReading → SimpleState
state_of r = record { columns = r.columns; items = map item_of r.items }

-- what it tells from here on
abbrev pub reading_of : SimpleReading → List RawMessage → Option (Result (List SimpleMessage) Error)
reading_of r = told_from r.take (state_of r)

-- it is the answer, by this error
abbrev pub FailsBy : SimpleNext → Error → Type 0
FailsBy (Answers (Err failure)) e = e ≡ failure
FailsBy _ e = ⊥

-- what was seen of a message, by what it does to the reading
abbrev pub IsSeen : SimpleNext → Seen → SimpleState → Type 0
IsSeen next More new = next ≡ GoesOn new
IsSeen next Ends new = next ≡ Answers (Ok new.items)
IsSeen next (Fails e) new = FailsBy next e

-- what a CommandComplete does
abbrev pub next_of_complete : SimpleState → List ℕ → SimpleNext
next_of_complete state tag = simple_message state (CommandComplete tag)

-- what a DataRow does
abbrev pub next_of_row : SimpleState → ℕ → List ℕ → SimpleNext
next_of_row state count cells = simple_message state (DataRow count cells)

-- a frame that can't be written is the answer
abbrev pub asks_by : (take : Option ℕ) → Result (List ℕ) spec.FrameFault → Dialogue (List SimpleMessage)
asks_by take (Err fault) = Answer (Err (spec.Encode (spec.Frame fault)))
asks_by take (Ok frame) = asks (is_some take) frame (told take)

-- Books one request, of the text, and reads its reply to the answer. Where only so many parts are wanted,
-- the request is hung up once they are there.
abbrev pub simple_query : (text : List ℕ) → (take : Option ℕ) → Dialogue (List SimpleMessage)
simple_query text take = asks_by take (query_frame text)

-- the frame of a text, or the error of one that can't be sent; want of memory may come anywhere
abbrev pub FramesQuery : List ℕ → Result (List ℕ) Error → Type 0
FramesQuery text (Ok frame) = query_frame text ≡ Ok frame
FramesQuery text (Err e) = (e ≡ OutOfMemory) ⊎ ((fault : spec.FrameFault) × (query_frame text ≡ Err fault) × (e ≡ spec.Encode (spec.Frame fault)))
