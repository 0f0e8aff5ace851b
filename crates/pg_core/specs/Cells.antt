-- The cells of a row as Rust types, under the types of its columns.
use Rattle.std.specs.Prelude.{ℕ, List, ◌==◌, Bool, Option, Some, None, unwrap_or, Result, Ok, Err, if◌then◌else◌, slice_get, decimal, ℤ}
use Rattle.std.specs.Int.{w8}
use Rattle.std.specs.Str.{is_utf8}
use Rattle.pg_spec.specs.Faults.{Column as NoColumn, FromSql, Value}
use Rattle.pg_types.specs.declared.pg_type.PgType.{PgType}
use Rattle.pg_types.specs.declared.fault.ValueFault.{ValueFault}
use Rattle.pg_types.specs.declared.fault.ValueFault.TheVariants.{WasNull, WrongType}
use Rattle.pg_types.specs.declared.fault.RustType.{RustType}
use Rattle.pg_types.specs.declared.fault.RustType.TheVariants as rust
use Rattle.pg_types.specs.Oids as oids
use Rattle.pg_types.specs.Values.{wrong_type, refusal, has_length, int_in, oid_in}
use Rattle.pg_types.specs.declared.error.Error.{Error}
use Rattle.pg_desk.specs.declared.column.Column.{Column}

-- a row's cells, null where there is none
abbrev pub Cells : Type 0
Cells = List (Option (List ℕ))

-- bytes that aren't refused, read
abbrev pub read_unless : {A : Type 0} → Option ValueFault → (List ℕ → A) → Option (List ℕ) → Result A ValueFault
read_unless (Some f) decode raw = Err f
read_unless None decode None = Err WasNull
read_unless None decode (Some bytes) = Ok (decode bytes)

-- The type of the column is judged first, then the bytes.
abbrev pub read_as : {A : Type 0} → (stands : Bool) → RustType → (List ℕ → Bool) → (List ℕ → A) → PgType → Option (List ℕ) → Result A ValueFault
read_as stands r in_form decode ty raw =
    if stands then read_unless (refusal in_form raw) decode raw else Err (WrongType (wrong_type ty.oid r))

-- a text
abbrev pub text_in : PgType → Option (List ℕ) → Result (List ℕ) ValueFault
text_in ty raw = read_as (oids.is_text ty.oid) rust.Text is_utf8 (λ bytes. bytes) ty raw

-- a number of one byte
abbrev pub i8_in : PgType → Option (List ℕ) → Result ℤ ValueFault
i8_in ty raw = read_as (ty.oid == oids.char) rust.I8 (has_length 1) (int_in w8) ty raw

-- an oid
abbrev pub u32_in : PgType → Option (List ℕ) → Result ℕ ValueFault
u32_in ty raw = read_as (ty.oid == oids.oid) rust.U32 (has_length 4) oid_in ty raw

-- a value that was read is there
abbrev pub as_some : {A : Type 0} → Result A ValueFault → Result (Option A) ValueFault
as_some (Ok x) = Ok (Some x)
as_some (Err f) = Err f

-- an oid or null
abbrev pub u32_or_null_in : PgType → Option (List ℕ) → Result (Option ℕ) ValueFault
u32_or_null_in ty None = if ty.oid == oids.oid then Ok None else Err (WrongType (wrong_type ty.oid rust.U32))
u32_or_null_in ty (Some bytes) = as_some (u32_in ty (Some bytes))

-- the value, or the error of the column at this place
abbrev pub or_from_sql : {A : Type 0} → (place : ℕ) → Result A ValueFault → Result A Error
or_from_sql place (Ok x) = Ok x
or_from_sql place (Err f) = Err (FromSql place (Value f))

-- The value of the column at a place, read in this way; there may be no such column.
abbrev pub value_at : {A : Type 0} → (PgType → Option (List ℕ) → Result A ValueFault) → List Column → Cells → (place : ℕ) → Result A Error
value_at read columns cells place = elim (slice_get columns place) [
  | None ↦ Err (NoColumn (decimal place))
  | Some column ↦ or_from_sql place (read column.type_ (unwrap_or (slice_get cells place) None))
]
