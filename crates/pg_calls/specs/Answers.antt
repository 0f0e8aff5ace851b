-- What the calls of a client make of rows and values.
use Rattle.std.specs.Prelude.{List, [], ◌∷◌, Option, Some, None, Result, Ok, Err}
use Rattle.pg_spec.specs.Faults.{◌>>=◌, RowCount}
use Rattle.pg_types.specs.declared.error.Error.{Error}
use Rattle.pg_desk.specs.declared.column.Column.{Column}
use Rattle.pg_rows.specs.Rows.{RowOf}
use Rattle.pg_execute.specs.ResultRows.{rows_behind}
use Rattle.pg_execute.specs.declared.result_set.ResultSet.{ResultSet}

-- the only one; there is none, or a second one
abbrev pub one_of : {T : Type 0} → List T → Result T Error
one_of (x ∷ []) = Ok x
one_of xs = Err RowCount

-- the only one, where there is one; there is a second one
abbrev pub at_most_one : {T : Type 0} → List T → Result (Option T) Error
at_most_one [] = Ok None
at_most_one (x ∷ []) = Ok (Some x)
at_most_one xs = Err RowCount

-- the rows, each with its columns
abbrev pub rows_of : ResultSet → Result (List (RowOf Column)) Error
rows_of set = rows_behind set.statement.columns [] set.rows

-- query_one, query_typed_one
abbrev pub one_row : ResultSet → Result (RowOf Column) Error
one_row set = rows_of set >>= one_of

-- query_opt, query_typed_opt
abbrev pub maybe_row : ResultSet → Result (Option (RowOf Column)) Error
maybe_row set = rows_of set >>= at_most_one
