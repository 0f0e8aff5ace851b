-- What a value read from a row answers. Want of memory stands apart from every cause.
use Rattle.std.specs.Prelude.{◌≡◌, ◌⊎◌, ℕ, Bool, true, List, map, Option, Some, None, option_map, Result, Ok, Err, slice_get, if◌then◌else◌}
use Rattle.std.specs.Bool.{MatchBool}
use Rattle.std.specs.Str.{is_utf8}
use denote.Bor.{Bor}
use Rattle.pg_types.specs.Values.{Reads, may_lack, wrong_type}
use Rattle.pg_types.specs.declared.pg_type.PgType.{PgType}
use Rattle.pg_types.specs.declared.fault.ValueFault.{ValueFault}
use Rattle.pg_types.specs.declared.fault.ValueFault.TheVariants as fault
use Rattle.pg_types.specs.declared.fault.RustType.TheVariants as rust
use Rattle.pg_types.specs.declared.memory.OutOfMemory.{OutOfMemory as Lack}
use Rattle.pg_types.specs.declared.cause.Cause.TheVariants.{Value}
use Rattle.pg_types.specs.declared.error.Error.{Error}
use Rattle.pg_types.specs.declared.error.Error.TheVariants.{Column as NoColumn, FromSql, OutOfMemory}
use Rattle.pg_desk.specs.declared.column.Column.{Column}
use Rattle.pg_rows.specs.declared.row_index.RowIndex.{RowIndex}
use Rattle.pg_rows.specs.declared.simple_column.SimpleColumn.{SimpleColumn}
use Rattle.pg_rows.specs.Places.{place_of, index_text}
use Rattle.pg_rows.specs.Rows.{RowOf, cell_at}

-- what reading a cell under a type may answer, where the Rust type stands for so many types and reads so: another type is WrongType, whatever
-- the bytes
abbrev pub ReadsUnder : {T : Type 0} → (owns : Bool) → (PgType → Bool) → (PgType → Option (List ℕ) → T → Type 0) → (PgType → Option (List ℕ) → Option ValueFault → Type 0) → PgType → Option (List ℕ) → Result T ValueFault → Type 0
ReadsUnder owns stands spelled refused ty raw r = MatchBool (stands ty) (Reads owns (spelled ty) (refused ty) raw r) (r ≡ Err (fault.WrongType (wrong_type ty.oid rust.Other)))

-- the error of the column at a place whose cell is refused
abbrev pub error_at : (place : ℕ) → ValueFault → Error
error_at place fault.OutOfMemory = OutOfMemory
error_at place f = FromSql place (Value f)

-- what is read of the cell at a place is the answer
abbrev pub AnswersAt : {T : Type 0} → (place : ℕ) → (Result T ValueFault → Type 0) → Result T Error → Type 0
AnswersAt place reads (Ok value) = reads (Ok value)
AnswersAt place reads (Err e) = (f : ValueFault) × reads (Err f) × (e ≡ error_at place f)

-- no column is meant: the answer is Column, or want of memory for its text
abbrev pub AnswersNoColumn : {T : Type 0} → RowIndex → Result T Error → Type 0
AnswersNoColumn index (Ok value) = ⊥
AnswersNoColumn index (Err e) = (e ≡ OutOfMemory) ⊎ (e ≡ NoColumn (index_text index))

-- what is answered at a place, where a cell is read by its column so; None where there is no such column
abbrev pub AnswersBy : {C T : Type 0} → (C → Option (List ℕ) → Result T ValueFault → Type 0) → RowOf C → RowIndex → Option ℕ → Result T Error → Type 0
AnswersBy reads row index None r = AnswersNoColumn index r
AnswersBy {C} reads row index (Some place) r = (column : C) × (slice_get row.columns place ≡ Some column) × AnswersAt place (reads column (cell_at row.cells place)) r

-- the place of the column of a row that is meant
abbrev pub place_in : RowOf Column → RowIndex → Option ℕ
place_in row index = place_of index (map (λ c. c.name) row.columns)

-- the same of the row of a simple query
abbrev pub simple_place_in : RowOf SimpleColumn → RowIndex → Option ℕ
simple_place_in row index = place_of index (map (λ c. c.name) row.columns)

-- what reading the value of a column answers, where a cell is read under the type of its column so
abbrev pub Gets : {T : Type 0} → (PgType → Option (List ℕ) → Result T ValueFault → Type 0) → RowOf Column → RowIndex → Result T Error → Type 0
Gets reads row index r = AnswersBy (λ c. reads c.type_) row index (place_in row index) r

-- the value of the column that is meant can be read: the Rust type stands for its type, and for no fault is its cell refused
pub record CanGet (stands : PgType → Bool) (refused : PgType → Option (List ℕ) → Option ValueFault → Type 0) (row : RowOf Column) (index : RowIndex) : Type 0 where
  pub place : ℕ
  pub column : Column
  pub meant : place_in row index ≡ Some place
  pub there : slice_get row.columns place ≡ Some column
  pub stands_for : stands column.type_ ≡ true
  pub kept : (f : ValueFault) → refused column.type_ (cell_at row.cells place) (Some f) → ⊥

-- the value is what the cell of the column that is meant spells; or memory lacks, where reading it may lack it
abbrev pub GetsValue : {T : Type 0} → (owns : Bool) → (PgType → Option (List ℕ) → T → Type 0) → RowOf Column → RowIndex → Result T Lack → Type 0
GetsValue owns spelled row index (Ok value) = (place : ℕ) × (column : Column) × (place_in row index ≡ Some place) × (slice_get row.columns place ≡ Some column) × spelled column.type_ (cell_at row.cells place) value
GetsValue owns spelled row index (Err lack) = (place : ℕ) × (place_in row index ≡ Some place) × (may_lack owns (cell_at row.cells place) ≡ true)

-- a cell as a text, null as none; bytes that aren't UTF-8 are refused
abbrev pub text_in : Option (List ℕ) → Result (Option (List ℕ)) ValueFault
text_in None = Ok None
text_in (Some bytes) = if is_utf8 bytes then Ok (Some bytes) else Err fault.BadValue

-- a text was read of a cell, or why none was
abbrev pub ReadsText : Option (List ℕ) → Result (Option (Bor (List ℕ))) ValueFault → Type 0
ReadsText raw (Ok text) = text_in raw ≡ Ok (option_map (λ t. t.now) text)
ReadsText raw (Err f) = text_in raw ≡ Err f

-- what reading the text of a column answers
abbrev pub GetsText : RowOf SimpleColumn → RowIndex → Result (Option (Bor (List ℕ))) Error → Type 0
GetsText row index r = AnswersBy (λ c. ReadsText) row index (simple_place_in row index) r

-- the cell of the column that is meant; None where no column is
abbrev pub text_meant : RowOf SimpleColumn → RowIndex → Option (Option (List ℕ))
text_meant row index = option_map (λ place. cell_at row.cells place) (simple_place_in row index)

-- a column is meant, and its cell is null or UTF-8
abbrev pub CanGetText : RowOf SimpleColumn → RowIndex → Type 0
CanGetText row index = (place : ℕ) × (simple_place_in row index ≡ Some place) × (text_in (cell_at row.cells place) ≡ Ok (cell_at row.cells place))
