-- The rows of an answer, each with its columns.
use Rattle.std.specs.Prelude.{List, [], ◌∷◌, ◌++◌, map, Result, Ok}
use Rattle.pg_spec.specs.Faults.{◌>>=◌}
use Rattle.pg_types.specs.declared.error.Error.{Error}
use Rattle.pg_desk.specs.declared.column.Column.{Column}
use Rattle.pg_core.specs.Cells.{Cells}
use Rattle.pg_rows.specs.Rows.{RowOf, row_of}

-- The rows of these columns, behind those that were made. The first that has another number of cells decides.
abbrev pub rows_behind : List Column → (made : List (RowOf Column)) → List Cells → Result (List (RowOf Column)) Error
rows_behind columns made [] = Ok made
rows_behind columns made (cells ∷ rows) = row_of columns (Ok cells) >>= λ row. rows_behind columns (made ++ row ∷ []) rows

-- the rows of these columns, where each has as many cells
abbrev pub rows_with : List Column → List Cells → List (RowOf Column)
rows_with columns rows = map (λ cells. record { columns = columns; cells = cells }) rows
