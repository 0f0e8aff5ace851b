-- The values of one column.
use Rattle.std.specs.Prelude.{ℕ, Bool, List, [], ◌∷◌, ◌++◌, Option, Some, None, unwrap_or, slice_get, Result, Ok, Err, if◌then◌else◌}
use Rattle.pg_spec.specs.Faults.{◌>>=◌, ColumnCount}
use Rattle.pg_types.specs.declared.pg_type.PgType.{PgType}
use Rattle.pg_types.specs.declared.value.Value.{Value}
use Rattle.pg_types.specs.declared.value.Value.TheVariants.{Null}
use Rattle.pg_types.specs.declared.fault.ValueFault.{ValueFault}
use Rattle.pg_types.specs.declared.fault.ValueFault.TheVariants.{WrongType}
use Rattle.pg_types.specs.declared.fault.RustType.TheVariants as rust
use Rattle.pg_types.specs.AnyValues.{is_read, value_in}
use Rattle.pg_types.specs.Values.{wrong_type}
use Rattle.pg_types.specs.declared.error.Error.{Error}
use Rattle.pg_desk.specs.declared.column.Column.{Column}
use Rattle.pg_core.specs.Cells.{Cells, as_some, or_from_sql}

-- a value of a type that values are read from; null is Null
abbrev pub value_or_null : PgType → Option (List ℕ) → Result Value ValueFault
value_or_null ty None = Ok Null
value_or_null ty (Some bytes) = value_in ty.oid bytes

-- The type is judged first, then the bytes.
abbrev pub value_of : PgType → Option (List ℕ) → Result Value ValueFault
value_of ty raw = if is_read ty.oid then value_or_null ty raw else Err (WrongType (wrong_type ty.oid rust.Value))

-- null is None, where the Rust type stands for the type
abbrev pub or_null : {A : Type 0} → (stands : Bool) → (Option (List ℕ) → Result A ValueFault) → Option (List ℕ) → Result (Option A) ValueFault
or_null stands read None = if stands then Ok None else as_some (read None)
or_null stands read (Some bytes) = as_some (read (Some bytes))

-- the first values of rows, read in this way under this type, behind those that were read; the first that can't be read decides
abbrev pub first_values : {A : Type 0} → (PgType → Option (List ℕ) → Result A ValueFault) → PgType → (found : List A) → List Cells → Result (List A) Error
first_values read ty found [] = Ok found
first_values read ty found (cells ∷ rows) = or_from_sql 0 (read ty (unwrap_or (slice_get cells 0) None)) >>= λ v. first_values read ty (found ++ v ∷ []) rows

-- the values of rows of one column, read in this way; where there are rows of another number of columns, these are refused
abbrev pub column_values : {A : Type 0} → (PgType → Option (List ℕ) → Result A ValueFault) → List Column → List Cells → Result (List A) Error
column_values read columns [] = Ok []
column_values read (c ∷ []) (cells ∷ rows) = first_values read c.type_ [] (cells ∷ rows)
column_values read columns (cells ∷ rows) = Err ColumnCount
