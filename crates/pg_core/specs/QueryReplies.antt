-- The reply to a query whose columns are known (PostgreSQL documentation, "Extended Query"): BindComplete, then rows and the ends of
-- commands in any order, up to ReadyForQuery.
use Rattle.std.specs.Prelude.{ℕ, List, [], ◌∷◌, ◌++◌, length, ◌==◌, Bool, true, false, Option, None, option_map, Result, Ok, Err, if◌then◌else◌}
use Rattle.std.specs.Str.{is_utf8}
use Rattle.pg_spec.specs.Bodies.{cells_of}
use Rattle.pg_spec.specs.Faults.{WireFault, Parse, Wire, FieldCount, NotText, UnexpectedMessage}
use Rattle.pg_spec.specs.Messages as message
use Rattle.pg_spec.specs.Messages.{message_of}
use Rattle.pg_spec.specs.RawMessages.{RawMessage}
use Rattle.pg_spec.specs.Readings.{Next, GoesOn, Answers, decision}
use Rattle.pg_spec.specs.SimpleQuery.{affected, unreadable, server_error}
use Rattle.pg_types.specs.declared.error.Error.{Error}
use Rattle.pg_core.specs.Cells.{Cells}

-- what a message says
pub data Said : Type 0 where
  Bound : Said
  Row : Cells → Said
  -- a command ended, and affected so many rows
  Complete : ℕ → Said
  -- an empty command, or a portal with rows left
  Empty : Said
  Suspended : Said
  -- the end of the reply
  Ready : Said
  -- the first thing that isn't right
  Fails : Error → Said

-- a row has as many cells as there are columns
abbrev pub row_said : (columns : ℕ) → Result Cells WireFault → Said
row_said columns (Ok cells) = if length cells == columns then Row cells else Fails (Parse FieldCount)
row_said columns (Err fault) = Fails (unreadable fault)

-- what a message says, before BindComplete and behind it
abbrev pub query_said : (bound : Bool) → (columns : ℕ) → message.Message → Said
query_said bound columns (message.ErrorResponse fields) = Fails (server_error fields)
query_said false columns message.BindComplete = Bound
query_said true columns (message.DataRow count cells) = row_said columns (cells_of count cells)
query_said true columns (message.CommandComplete tag) = if is_utf8 tag then Complete (affected tag) else Fails (Parse NotText)
query_said true columns message.EmptyQueryResponse = Empty
query_said true columns message.PortalSuspended = Suspended
query_said true columns (message.ReadyForQuery status) = Ready
query_said bound columns other = Fails UnexpectedMessage

-- the same of a message that may be malformed
abbrev pub said_by : (bound : Bool) → (columns : ℕ) → RawMessage → Said
said_by bound columns raw = elim (message_of raw) [
  | Ok m ↦ query_said bound columns m
  | Err fault ↦ Fails (Parse (Wire fault))
]

-- what the messages tell by these steps, once they tell it
abbrev pub told_by : {S T : Type 0} → (S → RawMessage → Next S (Result T Error)) → S → List RawMessage → Option (Result T Error)
told_by next state ms = option_map (λ d. d.answer) (decision (λ s. None) next state ms)

-- the first row is the answer, and an end without one is refused
abbrev pub first_row_by : {A : Type 0} → (Cells → Result A Error) → (bound : Bool) → Said → Next Bool (Result A Error)
first_row_by read bound Bound = GoesOn true
first_row_by read bound (Row cells) = Answers (read cells)
first_row_by read bound (Complete n) = GoesOn bound
first_row_by read bound Empty = GoesOn bound
first_row_by read bound Suspended = GoesOn bound
first_row_by read bound Ready = Answers (Err UnexpectedMessage)
first_row_by read bound (Fails e) = Answers (Err e)

-- the first row of a reply, read in this way
abbrev pub first_row : {A : Type 0} → (Cells → Result A Error) → (columns : ℕ) → List RawMessage → Option (Result A Error)
first_row read columns = told_by (λ bound raw. first_row_by read bound (said_by bound columns raw)) false

-- what was read so far
pub record Collected (A : Type 0) : Type 0 where
  pub bound : Bool
  pub items : List A

-- one item more, or why it can't be had
abbrev pub collects : {A : Type 0} → Collected A → Result A Error → Next (Collected A) (Result (List A) Error)
collects c (Ok item) = GoesOn (record c { items = c.items ++ item ∷ [] })
collects c (Err e) = Answers (Err e)

-- each row is read as it comes
abbrev pub all_rows_by : {A : Type 0} → (Cells → Result A Error) → Collected A → Said → Next (Collected A) (Result (List A) Error)
all_rows_by read c Bound = GoesOn (record c { bound = true })
all_rows_by read c (Row cells) = collects c (read cells)
all_rows_by read c (Complete n) = GoesOn c
all_rows_by read c Empty = GoesOn c
all_rows_by read c Suspended = GoesOn c
all_rows_by read c Ready = Answers (Ok c.items)
all_rows_by read c (Fails e) = Answers (Err e)

-- all rows of a reply, each read in this way
abbrev pub all_rows : {A : Type 0} → (Cells → Result A Error) → (columns : ℕ) → List RawMessage → Option (Result (List A) Error)
all_rows read columns = told_by (λ c raw. all_rows_by read c (said_by c.bound columns raw)) (record { bound = false; items = [] })
