-- A check of what a session may do: what it asks and answers (PostgreSQL documentation, "Parameter Key Words", under
-- target_session_attrs; "SHOW"; "Simple Query").
use Rattle.std.specs.Prelude.{◌≡◌, ℕ, true, List, [], ◌∷◌, Option, Some, None, Result, Ok, Err, codes, if◌then◌else◌, slice_get}
use Rattle.std.specs.Str.{byte, bytes_eq, is_utf8}
use Rattle.pg_config.specs.declared.modes.TargetSessionAttrs.{TargetSessionAttrs}
use Rattle.pg_config.specs.declared.modes.TargetSessionAttrs.TheVariants.{Any, ReadWrite, ReadOnly}
use Rattle.pg_spec.specs.Bytes.{text0}
use Rattle.pg_spec.specs.Faults as fault
use Rattle.pg_spec.specs.Frames.{tagged}
use Rattle.pg_spec.specs.Messages.{Message}
use Rattle.pg_spec.specs.RawMessages.{RawMessage}
use Rattle.pg_spec.specs.Readings.{Next, GoesOn, Answers as Tells}
use Rattle.pg_spec.specs.SimpleQuery.{Item, Row, SimpleNext, SimpleState, simple_message, simple_next}
use Rattle.pg_types.specs.declared.error.Error.{Error}
use Rattle.pg_types.specs.declared.fault.ValueFault.TheVariants.{BadValue}
use Rattle.pg_query.specs.Dialogue.{Dialogue, Answer}
use Rattle.pg_query.specs.Lives.{Deed}
use Rattle.pg_query.specs.Requests.{Answers, Awaits, asks}
use Rattle.pg_client.specs.declared.show_reading.ShowReading.{ShowReading}

-- ---- what the setting tells

-- that the session is as it should be, or why that isn't told
abbrev pub Told : Type 0
Told = Result (Unit {0}) Error

-- `on` says that the session can't write, `off` that it can; the error holds the value
abbrev pub told_by_value : TargetSessionAttrs → List ℕ → Told
told_by_value Any value = Ok tt
told_by_value ReadWrite value = if bytes_eq value (codes "on") then Err (fault.Connect (fault.ReadOnly value)) else Ok tt
told_by_value ReadOnly value = if bytes_eq value (codes "off") then Err (fault.Connect (fault.NotReadOnly value)) else Ok tt

-- null tells nothing, and a value is a text
abbrev pub told_by_cell : TargetSessionAttrs → Option (List ℕ) → Told
told_by_cell attrs None = Ok tt
told_by_cell attrs (Some bytes) = if is_utf8 bytes then told_by_value attrs bytes else Err (fault.FromSql 0 (fault.Value BadValue))

-- the first cell of a row tells it; the name of a column that isn't there is its place
abbrev pub told_by_row : TargetSessionAttrs → List (Option (List ℕ)) → Told
told_by_row attrs cells = elim (slice_get cells 0) [ None ↦ Err (fault.Column (codes "0")) | Some cell ↦ told_by_cell attrs cell ]

-- ---- what each message tells

-- what goes on of the reply to a simple query: how many columns were described
abbrev pub described : Option ℕ → SimpleState
described columns = record { columns = columns; items = [] }

-- a row tells the answer, another part of the reply nothing
abbrev pub shown_in : TargetSessionAttrs → Option ℕ → List Item → Next (Option ℕ) Told
shown_in attrs columns (Row cells ∷ items) = Tells (told_by_row attrs cells)
shown_in attrs columns other = GoesOn columns

-- what a message makes of the reply to a simple query, up to its first row; at its end no row has come
abbrev pub shown_by : TargetSessionAttrs → SimpleNext → Next (Option ℕ) Told
shown_by attrs (GoesOn state) = shown_in attrs state.columns state.items
shown_by attrs (Tells (Ok items)) = Tells (Err fault.UnexpectedMessage)
shown_by attrs (Tells (Err failure)) = Tells (Err failure)

-- what a message tells
abbrev pub show_message : TargetSessionAttrs → Option ℕ → Message → Next (Option ℕ) Told
show_message attrs columns message = shown_by attrs (simple_message (described columns) message)

-- the same of one that may be malformed
abbrev pub show_next : TargetSessionAttrs → Option ℕ → RawMessage → Next (Option ℕ) Told
show_next attrs columns raw = shown_by attrs (simple_next (described columns) raw)

-- the first answer that a message tells
abbrev pub show_from : TargetSessionAttrs → Option ℕ → List RawMessage → Option Told
show_from attrs columns [] = None
show_from attrs columns (m ∷ ms) = elim (show_next attrs columns m) [ GoesOn later ↦ show_from attrs later ms | Tells r ↦ Some r ]

-- what the whole reply tells
abbrev pub show_reading : TargetSessionAttrs → List RawMessage → Option Told
show_reading attrs ms = show_from attrs None ms

-- what it tells from here on
abbrev pub reading_of : ShowReading → List RawMessage → Option Told
reading_of r ms = show_from r.attrs r.columns ms

-- what was made of a message
abbrev pub IsShown : Next (Option ℕ) Told → Option Told → Option ℕ → Type 0
IsShown next None new = next ≡ GoesOn new
IsShown next (Some r) new = next ≡ Tells r

-- ---- the command

-- the text that asks for the setting
abbrev pub show_text : List ℕ
show_text = codes "SHOW transaction_read_only"

-- its Query
abbrev pub show_frame : List ℕ
show_frame = tagged (byte "Q") (text0 show_text)

-- Books one request, the Query for the setting, and reads its reply to its answer. The request is hung up there.
abbrev pub asks_setting : TargetSessionAttrs → Dialogue (Unit {0})
asks_setting attrs = asks true show_frame (show_reading attrs)

-- Any session will do, or it is asked for the setting.
abbrev pub session_check : TargetSessionAttrs → Dialogue (Unit {0})
session_check Any = Answer (Ok tt)
session_check ReadWrite = asks_setting ReadWrite
session_check ReadOnly = asks_setting ReadOnly

-- ---- its whole life

-- one request was booked, for the setting, and a front of its messages tells the answer; for Any nothing was done
abbrev pub AnswersCheck : TargetSessionAttrs → List Deed → Told → Type 0
AnswersCheck Any done r = (done ≡ []) × (r ≡ Ok tt)
AnswersCheck ReadWrite done r = Answers (show_reading ReadWrite) show_frame done r
AnswersCheck ReadOnly done r = Answers (show_reading ReadOnly) show_frame done r

-- what was done up to where a message is awaited; for Any none is
abbrev pub AwaitsCheck : TargetSessionAttrs → List Deed → Type 0
AwaitsCheck Any done = ⊥
AwaitsCheck ReadWrite done = Awaits (show_reading ReadWrite) show_frame done
AwaitsCheck ReadOnly done = Awaits (show_reading ReadOnly) show_frame done
