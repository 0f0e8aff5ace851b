-- Rows that are given one by one: the same reply as that of a query (`Rows` of pg_execute; PostgreSQL documentation, "Extended Query").
use Rattle.std.specs.Prelude.{ℕ, List, [], ◌∷◌, length, map, Bool, false, Option, Result, Ok}
use Rattle.pg_spec.specs.RawMessages.{RawMessage}
use Rattle.pg_execute.specs.Parameters.{Params}
use Rattle.pg_types.specs.declared.error.Error.{Error}
use Rattle.pg_desk.specs.declared.column.Column.{Column}
use Rattle.pg_desk.specs.declared.statement.Described.{Described as Statement}
use Rattle.pg_query.specs.Dialogue.{Dialogue}
use Rattle.pg_rows.specs.Rows.{RowOf}
use Rattle.pg_execute.specs.Executes.{executes, queried}
use Rattle.pg_execute.specs.Rows.{rows_read}
use Rattle.pg_execute.specs.declared.got.Got.{Got}
use Rattle.pg_execute.specs.declared.how_many.HowMany.TheVariants.{Any}

-- the rows of a reply, and how many rows its last command affected
pub record RowsGiven : Type 0 where
  pub rows : List (RowOf Column)
  pub affected : Option ℕ

-- a row in front of others
abbrev pub with_row : RowOf Column → RowsGiven → RowsGiven
with_row row others = record { rows = row ∷ others.rows; affected = others.affected }

-- what was read, as rows of a statement
abbrev pub rows_given : Statement → Got → Result RowsGiven Error
rows_given s got = Ok (record { rows = map (λ cells. record { columns = s.columns; cells = cells }) got.rows; affected = got.affected })

-- what the messages from here on tell, where no row was kept
abbrev pub rows_from : Statement → (bound : Bool) → (affected : Option ℕ) → List RawMessage → Option (Result RowsGiven Error)
rows_from s bound affected = rows_read Any (length s.columns) (rows_given s) (record { bound = bound; rows = []; affected = affected })

-- query_raw: what one asks and answers who collects the rows
abbrev pub query_raw : Statement → Params → Dialogue RowsGiven
query_raw s vs = executes false (queried Any rows_given s) s vs
