-- What the readings of replies tell from here on.
use Rattle.std.specs.Prelude.{List, length, Option, Result}
use Rattle.pg_spec.specs.RawMessages.{RawMessage}
use Rattle.pg_types.specs.declared.error.Error.{Error}
use Rattle.pg_desk.specs.declared.statement.Described.{Described as Statement}
use Rattle.pg_execute.specs.Rows.{first_rows_read, rows_read}
use Rattle.pg_execute.specs.declared.first_rows.FirstRows.{FirstRows}
use Rattle.pg_execute.specs.declared.got.Got.{Got}
use Rattle.pg_execute.specs.declared.rows_reading.RowsReading.{RowsReading}

-- rows, of which something is made so
abbrev pub reading_of_rows : {M A : Type 0} → (M → Statement → Got → Result A Error) → RowsReading M → List RawMessage → Option (Result A Error)
reading_of_rows makes r = rows_read r.how_many (length r.statement.columns) (makes r.make r.statement) r.got

-- the first of them
abbrev pub reading_of_first : {M A : Type 0} → (M → Statement → Got → Result A Error) → FirstRows M → List RawMessage → Option (Result A Error)
reading_of_first makes r = first_rows_read r.take r.rows.how_many (length r.rows.statement.columns) (makes r.rows.make r.rows.statement) r.rows.got
