-- A server as a finite table of replies.
use Rattle.std.specs.Prelude.{◌≡◌, ℕ, ◌<◌, Bool, true, false, ◌&&◌, List, [], ◌∷◌, Option, Some, None, option_map, is_some, find, ◌==◌, IsFalse, Result, Ok, Err, length, take, slice_get, IfSome}
use Rattle.std.specs.List.{list_all}
use Rattle.std.specs.Str.{bytes_eq}
use Rattle.pg_spec.specs.Batches.{is_nothing}
use Rattle.pg_spec.specs.DbErrors.{db_error_of}
use Rattle.pg_spec.specs.RawMessages.{RawMessage, messages, message_bytes, bytes_left}
use Rattle.pg_machine.specs.declared.machine.MachineRow.{MachineRow}
use Rattle.pg_machine.specs.declared.machine.Said.{Said}
use Rattle.pg_machine.specs.declared.serving.Turn.{Turn}
use Rattle.pg_machine.specs.declared.serving.Turn.TheVariants.{Silent, Ready, AnswersReady, Answers, TakesData, EndsCopy, Refuses}
use Rattle.pg_machine.specs.declared.machine.MachineFault.{MachineFault}
use Rattle.pg_machine.specs.declared.machine.MachineFault.TheVariants.{BadRow, BadRefusal, OutOfMemory}
use Rattle.pg_machine.specs.Serving.{Effect, Service, is_error}
use Rattle.pg_machine.specs.Requests.{is_sound}

-- the rows, and what a frame is answered that has none
pub record Table : Type 0 where
  pub rows : List MachineRow
  pub refusal : List ℕ

-- the first row of a state and a frame
abbrev pub row_of : List MachineRow → ℕ → List ℕ → Option MachineRow
row_of rows state frame = find (λ row. row.state == state && bytes_eq row.frame frame) rows

-- what a row answers
abbrev pub effect_of : MachineRow → Effect
effect_of row = record { reply = messages row.reply; opens = row.opens }

-- the refusal, which opens nothing
abbrev pub refusal_of : List ℕ → Effect
refusal_of refusal = record { reply = messages refusal; opens = false }

-- the answer of the row of a frame, by the frame's bytes
abbrev pub own_answer : Table → ℕ → List ℕ → Option (Effect × ℕ)
own_answer table state frame = option_map (λ row. (effect_of row, row.next)) (row_of table.rows state frame)

-- the same, or else the refusal
abbrev pub answer_or_refusal : Table → ℕ → List ℕ → Effect × ℕ
answer_or_refusal table state frame = elim (own_answer table state frame) [ None ↦ (refusal_of table.refusal, state) | Some answer ↦ answer ]

-- what is said to a frame in this turn
abbrev pub asked_of : Table → Turn → ℕ → List ℕ → Option (Effect × ℕ)
asked_of table Silent state frame = None
asked_of table Ready state frame = None
asked_of table TakesData state frame = own_answer table state frame
asked_of table Refuses state frame = Some (refusal_of table.refusal, state)
asked_of table AnswersReady state frame = Some (answer_or_refusal table state frame)
asked_of table Answers state frame = Some (answer_or_refusal table state frame)
asked_of table EndsCopy state frame = Some (answer_or_refusal table state frame)

-- this is the answer, in whole messages
pub record IsSaid (answer : Effect × ℕ) (said : Said) : Type 0 where
  pub whole : bytes_left said.reply.now ≡ []
  pub reply : messages said.reply.now ≡ answer.0.reply
  pub state : said.state ≡ answer.1
  pub opens : said.opens ≡ answer.0.opens

abbrev pub Says : Option (Effect × ℕ) → Option Said → Type 0
Says None None = Unit {0}
Says (Some answer) (Some said) = IsSaid answer said
Says answer said = ⊥

-- The table as a server, which begins in state 0. A frame without a row leaves the state as it is.
abbrev pub service_of : Table → Service ℕ
service_of table = record {
  answers = λ state frame. own_answer table state (message_bytes frame);
  refuses = λ state frame. (refusal_of table.refusal, state);
}

-- a frame by its first byte
abbrev pub tagged_as : List ℕ → RawMessage
tagged_as [] = record { tag = 0; body = [] }
tagged_as (tag ∷ rest) = record { tag = tag; body = [] }

-- A row keeps to the rules: its reply is whole messages, and what a frame of its tag may be answered.
abbrev pub is_row : MachineRow → Bool
is_row row = is_nothing (bytes_left row.reply) && is_sound (tagged_as row.frame) (effect_of row)

-- a message is an error that can be read
abbrev pub is_readable_error : RawMessage → Bool
is_readable_error m = is_error m && is_some (db_error_of m.body)

-- the refusal is one ErrorResponse that can be read
abbrev pub is_refusal : List ℕ → Bool
is_refusal refusal = is_nothing (bytes_left refusal) && (elim (messages refusal) [ [] ↦ false | m ∷ ms ↦ is_nothing ms && is_readable_error m ])

-- the bytes are one ErrorResponse
abbrev pub is_one_error : List ℕ → Bool
is_one_error refusal = is_nothing (bytes_left refusal) && (elim (messages refusal) [ [] ↦ false | m ∷ ms ↦ is_nothing ms && is_error m ])

-- what a machine is: a table that keeps to the rules
pub record IsMachine (table : Table) : Type 0 where
  pub rows : list_all is_row table.rows ≡ true
  pub refusal : is_refusal table.refusal ≡ true

-- a row breaks the rules, and none before it does
abbrev pub FirstBad : List MachineRow → Option ℕ → Type 0
FirstBad rows None = list_all is_row rows ≡ true
FirstBad rows (Some i) = (i < length rows) × (list_all is_row (take i rows) ≡ true) × IfSome (slice_get rows i) (λ row. IsFalse (is_row row))

-- what makes a machine of a table, or why it is none: the first row that breaks the rules, then the refusal
abbrev pub MachineOr : Table → Result Table MachineFault → Type 0
MachineOr table (Ok machine) = (machine ≡ table) × IsMachine table
MachineOr table (Err (BadRow i)) = FirstBad table.rows (Some i)
MachineOr table (Err BadRefusal) = (list_all is_row table.rows ≡ true) × (is_refusal table.refusal ≡ false)
MachineOr table (Err OutOfMemory) = Unit {0}
