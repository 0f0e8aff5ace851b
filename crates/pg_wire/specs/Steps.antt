-- The readers of bodies, one item at a time (PostgreSQL documentation, "Message Formats" and "Error
-- and Notice Message Fields").
use Rattle.std.specs.Prelude.{◌≡◌, ℕ, zero, suc, ◌≤◌, List, [], ◌∷◌, length, drop, slice_range, Option, Some, None, IfSome, option_map, Result, Ok, Err, if◌then◌else◌}
use Rattle.std.specs.Int.{w32}
use Rattle.std.specs.declared.ops.Range.{Range}
use Rattle.std.specs.Str.{bytes_eq, is_utf8}
use Rattle.pg_spec.specs.Faults as spec
use Rattle.pg_spec.specs.Faults.{◌>>=◌}
use Rattle.pg_spec.specs.DbErrors.{ErrorField, error_field_at, error_fields}
use Rattle.pg_spec.specs.Bytes.{number_at}
use Rattle.pg_spec.specs.Bodies.{Field, or_layout, field_at, cell_at, exactly, name_at, mechanisms_of}
use Rattle.pg_types.specs.declared.faults.WireFault.{WireFault}
use Rattle.pg_wire.specs.Faults.{wire_fault}

-- what a step of a reader gives: an item and what is left, or none at the end
abbrev pub Step : Type 0 → Type 0 → Type 0
Step A Left = Result (Option (A × Left)) spec.WireFault

-- `next` made this step; what is left changes only where an item came
abbrev pub Steps : {A Left : Type 0} → Step A Left → Left → Left → Result (Option A) WireFault → Type 0
Steps step old new (Ok None) = (step ≡ Ok None) × (new ≡ old)
Steps step old new (Ok (Some item)) = step ≡ Ok (Some (item, new))
Steps step old new (Err fault) = (cause : spec.WireFault) × (wire_fault fault ≡ Some cause) × (step ≡ Err cause) × (new ≡ old)

-- the next field of an error, or the zero byte that ends them
abbrev pub error_step : List ℕ → Step ErrorField (List ℕ)
error_step bytes = elim (error_field_at bytes) [
  | Some read ↦ Ok (Some read)
  | None ↦ if bytes_eq bytes (0 ∷ []) then Ok None else Err spec.Layout
]

-- items that are counted: how many are left, and the bytes that hold them
pub record ItemsLeft : Type 0 where
  pub count : ℕ
  pub bytes : List ℕ

-- the next of n items, behind the last of which nothing is left
abbrev pub counted_step : {A : Type 0} → (List ℕ → Result (A × List ℕ) spec.WireFault) → ℕ → List ℕ → Step A ItemsLeft
counted_step item zero [] = Ok None
counted_step item zero (b ∷ rest) = Err spec.Layout
counted_step item (suc n) bytes = item bytes >>= λ read. Ok (Some (read.0, record { count = n; bytes = read.1 }))

-- the next column of a RowDescription
abbrev pub field_step : ItemsLeft → Step Field ItemsLeft
field_step left = counted_step field_at left.count left.bytes

-- a read of an item and of what is left behind it
abbrev pub Reads : {A Left : Type 0} → Result (A × Left) spec.WireFault → A → Left → Type 0
Reads read item rest = read ≡ Ok (item, rest)

-- the read is refused by this fault
abbrev pub Refuses : {A : Type 0} → Result A spec.WireFault → WireFault → Type 0
Refuses read fault = (cause : spec.WireFault) × (wire_fault fault ≡ Some cause) × (read ≡ Err cause)

-- cells not yet read: how many, and the place in the buffer where the next begins
pub record CellsLeft : Type 0 where
  pub count : ℕ
  pub at : ℕ
  pub buffer : List ℕ

-- the items of which they are
abbrev pub cells_left : CellsLeft → ItemsLeft
cells_left left = record { count = left.count; bytes = drop left.at left.buffer }

-- the bytes of a cell, by its range in the buffer; None for null
abbrev pub cell_in : List ℕ → Option (Range ℕ) → Option (List ℕ)
cell_in buffer range = option_map (λ r. slice_range buffer r.start r.end) range

-- the range lies in the buffer
abbrev pub IsWithin : List ℕ → Option (Range ℕ) → Type 0
IsWithin buffer range = IfSome range (λ r. (r.start ≤ r.end) × (r.end ≤ length buffer))

-- the next cell of a DataRow
abbrev pub cell_step : CellsLeft → Step (Option (List ℕ)) ItemsLeft
cell_step left = counted_step cell_at left.count (drop left.at left.buffer)

-- A cell was read, and lies there.
pub record ReadsCell (old new : CellsLeft) (range : Option (Range ℕ)) : Type 0 where
  pub buffer : new.buffer ≡ old.buffer
  pub within : IsWithin old.buffer range
  pub step : cell_step old ≡ Ok (Some (cell_in old.buffer range, cells_left new))

-- `next` made this step; what is left changes only where a cell came
abbrev pub CellSteps : CellsLeft → CellsLeft → Result (Option (Option (Range ℕ))) WireFault → Type 0
CellSteps old new (Ok None) = (cell_step old ≡ Ok None) × (new ≡ old)
CellSteps old new (Ok (Some range)) = ReadsCell old new range
CellSteps old new (Err fault) = (cause : spec.WireFault) × (wire_fault fault ≡ Some cause) × (cell_step old ≡ Err cause) × (new ≡ old)

-- the oid of a parameter's type
abbrev pub oid_at : List ℕ → Result (ℕ × List ℕ) spec.WireFault
oid_at bytes = or_layout (number_at w32 bytes)

-- the next type of a ParameterDescription
abbrev pub parameter_step : ItemsLeft → Step ℕ ItemsLeft
parameter_step left = counted_step oid_at left.count left.bytes

-- the next mechanism of an AuthenticationSASL, or the zero byte that ends them
abbrev pub mechanism_step : List ℕ → Step (List ℕ) (List ℕ)
mechanism_step bytes = elim (name_at bytes) [
  | Some read ↦ if is_utf8 read.0 then Ok (Some read) else Err spec.NotUtf8
  | None ↦ if bytes_eq bytes (0 ∷ []) then Ok None else Err spec.Layout
]

-- the items of a body whose first step is this
abbrev pub items_by_step : {A : Type 0} → (List ℕ → Result (A × List ℕ) spec.WireFault) → Step A ItemsLeft → Result (List A) spec.WireFault
items_by_step item (Ok (Some read)) = exactly read.1.count item read.1.bytes >>= λ others. Ok (read.0 ∷ others)
items_by_step item (Ok None) = Ok []
items_by_step item (Err cause) = Err cause

-- the fields of an error whose first step is this; None where they break their layout
abbrev pub fields_by_step : Step ErrorField (List ℕ) → Option (List ErrorField)
fields_by_step (Ok (Some read)) = option_map (λ fields. read.0 ∷ fields) (error_fields read.1)
fields_by_step (Ok None) = Some []
fields_by_step (Err cause) = None

-- the mechanisms of a body whose first step is this
abbrev pub mechanisms_by_step : Step (List ℕ) (List ℕ) → Result (List (List ℕ)) spec.WireFault
mechanisms_by_step (Ok (Some read)) = mechanisms_of read.1 >>= λ others. Ok (read.0 ∷ others)
mechanisms_by_step (Ok None) = Ok []
mechanisms_by_step (Err cause) = Err cause
