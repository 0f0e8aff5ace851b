-- What a row is: its columns, and the cells that its DataRow holds (PostgreSQL documentation, "Message Formats", under DataRow).
use Rattle.std.specs.Prelude.{◌≡◌, ℕ, ◌+◌, ◌==◌, List, [], length, drop, map, sum, Option, Some, None, Result, Ok, Err, slice_get, unwrap_or, if◌then◌else◌}
use Rattle.pg_spec.specs.Bodies.{cells_of}
use Rattle.pg_spec.specs.Faults.{WireFault, Parse, FieldCount}
use Rattle.pg_spec.specs.SimpleQuery.{unreadable}
use Rattle.pg_types.specs.declared.error.Error.{Error}
use Rattle.pg_wire.specs.Steps.{CellsLeft}

-- the cells of a row; null is None
abbrev pub Cells : Type 0
Cells = List (Option (List ℕ))

-- the columns of a row, and its cells
pub record RowOf (C : Type 0) : Type 0 where
  pub columns : List C
  pub cells : Cells

-- the cells that were read, none where they can't be
abbrev pub cells_read : Result Cells WireFault → Cells
cells_read (Ok cells) = cells
cells_read (Err fault) = []

-- why a body is no row of so many columns: its cells can't be read, or are of another number
abbrev pub row_refusal : (columns : ℕ) → Result Cells WireFault → Option Error
row_refusal columns (Ok cells) = if length cells == columns then None else Some (Parse FieldCount)
row_refusal columns (Err fault) = Some (unreadable fault)

-- the row of these columns that a body's cells make
abbrev pub row_of : {C : Type 0} → List C → Result Cells WireFault → Result (RowOf C) Error
row_of columns cells = elim (row_refusal (length columns) cells) [
  | None ↦ Ok (record { columns = columns; cells = cells_read cells })
  | Some e ↦ Err e
]

-- the body holds so many cells
pub record HoldsCells (columns count : ℕ) (bytes : List ℕ) : Type 0 where
  pub readable : cells_of count bytes ≡ Ok (cells_read (cells_of count bytes))
  pub width : length (cells_read (cells_of count bytes)) ≡ columns

-- the cells can't be read, and this is the error
abbrev pub IsUnreadable : Result Cells WireFault → Error → Type 0
IsUnreadable read e = (fault : WireFault) × (read ≡ Err fault) × (e ≡ unreadable fault)

-- what the cells that are left are read as
abbrev pub left_cells : CellsLeft → Result Cells WireFault
left_cells left = cells_of left.count (drop left.at left.buffer)

-- the cells that are left lie in these bytes, and can be read
pub record AreLeft (left : CellsLeft) (bytes : List ℕ) : Type 0 where
  pub buffer : left.buffer ≡ bytes
  pub readable : left_cells left ≡ Ok (cells_read (left_cells left))

-- the cell at a place, null where there is none
abbrev pub cell_at : Cells → ℕ → Option (List ℕ)
cell_at cells place = unwrap_or (slice_get cells place) None

-- how many bytes a cell takes in a DataRow: four for its length, and its own
abbrev pub cell_size : Option (List ℕ) → ℕ
cell_size None = 4
cell_size (Some bytes) = 4 + length bytes

-- how many bytes cells take
abbrev pub cells_size : Cells → ℕ
cells_size cells = sum (map cell_size cells)
