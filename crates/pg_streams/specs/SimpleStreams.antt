-- The parts of the reply to a simple query, which are given one by one (PostgreSQL documentation, "Simple Query").
use Rattle.std.specs.Prelude.{◌≡◌, ◌⊎◌, ℕ, false, List, [], ◌∷◌, map, Option, Some, None, Result, Ok, Err, if◌then◌else◌}
use Rattle.std.specs.Str.{is_utf8}
use Rattle.pg_spec.specs.Bodies.{Field, cells_of, fields_of}
use Rattle.pg_spec.specs.Faults.{FrameFault, WireFault, Encode, Frame, Parse, Wire, NotText, UnexpectedMessage}
use Rattle.pg_spec.specs.Frames.{query_frame}
use Rattle.pg_spec.specs.Messages as message
use Rattle.pg_spec.specs.Messages.{message_of}
use Rattle.pg_spec.specs.RawMessages.{RawMessage}
use Rattle.pg_spec.specs.SimpleQuery.{affected, server_error, unreadable}
use Rattle.pg_types.specs.declared.error.Error.{Error}
use Rattle.pg_types.specs.declared.error.Error.TheVariants.{OutOfMemory}
use Rattle.pg_query.specs.Dialogue.{Dialogue, Answer, Ask}
use Rattle.pg_query.specs.Reading.{reads}
use Rattle.pg_rows.specs.Rows.{RowOf, row_of}
use Rattle.pg_rows.specs.declared.simple_column.SimpleColumn.{SimpleColumn}
use Rattle.pg_streams.specs.Telling.{told_behind}
use Rattle.pg_streams.specs.declared.simple_query_message.SimpleQueryMessage.{SimpleQueryMessage}
use Rattle.pg_streams.specs.declared.simple_query_message.SimpleQueryMessage.TheVariants.{Row, CommandComplete, RowDescription}

-- What a message says: a part of the reply, and the columns of the rows behind it; that the reply ends; or the first thing that isn't right.
pub data Said : Type 0 where
  Part : Option (List SimpleColumn) → SimpleQueryMessage → Said
  Ready : Said
  Wrong : Error → Said

-- columns, by their names
abbrev pub named : List Field → List SimpleColumn
named fields = map (λ f. record { name = f.name }) fields

-- the columns of the rows behind it
abbrev pub columns_said : Result (List Field) WireFault → Said
columns_said (Ok fields) = Part (Some (named fields)) (RowDescription (named fields))
columns_said (Err fault) = Wrong (unreadable fault)

-- a row of these columns
abbrev pub row_said : List SimpleColumn → Result (RowOf SimpleColumn) Error → Said
row_said columns (Ok row) = Part (Some columns) (Row row)
row_said columns (Err e) = Wrong e

-- what a message says, where these are the columns
abbrev pub simple_said : Option (List SimpleColumn) → message.Message → Said
simple_said columns (message.CommandComplete tag) = if is_utf8 tag then Part columns (CommandComplete (affected tag)) else Wrong (Parse NotText)
simple_said columns message.EmptyQueryResponse = Part columns (CommandComplete 0)
simple_said columns (message.RowDescription count fields) = columns_said (fields_of count fields)
simple_said (Some columns) (message.DataRow count cells) = row_said columns (row_of columns (cells_of count cells))
simple_said columns (message.ReadyForQuery status) = Ready
simple_said columns (message.ErrorResponse fields) = Wrong (server_error fields)
simple_said columns other = Wrong UnexpectedMessage

-- the same of a message that may be malformed
abbrev pub said_by : Option (List SimpleColumn) → RawMessage → Said
said_by columns raw = elim (message_of raw) [
  | Ok m ↦ simple_said columns m
  | Err fault ↦ Wrong (Parse (Wire fault))
]

-- what a message tells by what it says, and what comes behind it, by the columns
abbrev pub told_by : Said → (Option (List SimpleColumn) → Option (Result (List SimpleQueryMessage) Error)) → Option (Result (List SimpleQueryMessage) Error)
told_by (Part columns part) later = told_behind (λ parts. part ∷ parts) (later columns)
told_by Ready later = Some (Ok [])
told_by (Wrong e) later = Some (Err e)

-- what the messages from here on tell, where these are the columns
abbrev pub parts_from : Option (List SimpleColumn) → List RawMessage → Option (Result (List SimpleQueryMessage) Error)
parts_from columns [] = None
parts_from columns (raw ∷ raws) = told_by (said_by columns raw) (λ later. parts_from later raws)

-- a frame that can't be written is the answer
abbrev pub asks_by : Result (List ℕ) FrameFault → Dialogue (List SimpleQueryMessage)
asks_by (Ok frame) = Ask false frame (reads false (parts_from None))
asks_by (Err fault) = Answer (Err (Encode (Frame fault)))

-- simple_query_raw: what one asks and answers who collects the parts
abbrev pub simple_query_raw : (text : List ℕ) → Dialogue (List SimpleQueryMessage)
simple_query_raw text = asks_by (query_frame text)

-- the frame of a text, or the error of one that can't be sent; want of memory may come anywhere
abbrev pub IsFrameOf : (text : List ℕ) → Result (List ℕ) Error → Type 0
IsFrameOf text (Ok frame) = query_frame text ≡ Ok frame
IsFrameOf text (Err e) = (e ≡ OutOfMemory) ⊎ ((fault : FrameFault) × (query_frame text ≡ Err fault) × (e ≡ Encode (Frame fault)))
