-- What a message of the reply to a statement tells a stream of its rows.
use Rattle.std.specs.Prelude.{◌≡◌, length, true, false, Option, Some, None, Result, Ok, Err}
use Rattle.pg_spec.specs.Faults.{UnexpectedMessage}
use Rattle.pg_spec.specs.RawMessages.{RawMessage}
use Rattle.pg_types.specs.declared.error.Error.{Error}
use Rattle.pg_desk.specs.declared.column.Column.{Column}
use Rattle.pg_core.specs.QueryReplies.{Said, Bound, Row, Complete, Empty, Suspended, Ready, Fails as Wrong, said_by}
use Rattle.pg_rows.specs.Rows.{RowOf}
use Rattle.pg_streams.specs.Hearing.{Heard}
use Rattle.pg_streams.specs.declared.giving.Told.{Told}
use Rattle.pg_streams.specs.declared.giving.Told.TheVariants.{Item, Ends, Fails}
use Rattle.pg_streams.specs.declared.row_giving.RowGiving.{RowGiving}
use Rattle.pg_streams.specs.declared.row_giving.RowOpening.{RowOpening}

-- ---- behind BindComplete

-- what is told by what a message says, and how the rows go on
abbrev pub row_heard : RowGiving → Said → Heard RowGiving (RowOf Column)
row_heard g (Row cells) = record { told = Some (Item (record { columns = g.statement.columns; cells = cells })); giving = g }
row_heard g (Complete n) = record { told = None; giving = record { statement = g.statement; affected = Some n } }
row_heard g Ready = record { told = Some Ends; giving = g }
row_heard g (Wrong e) = record { told = Some (Fails e); giving = g }
row_heard g other = record { told = None; giving = g }

-- the same of a message that may be malformed
abbrev pub rows_heard : RowGiving → RawMessage → Heard RowGiving (RowOf Column)
rows_heard g raw = row_heard g (said_by true (length g.statement.columns) raw)

-- a row, or why it is none
abbrev pub told_of : {R : Type 0} → Result R Error → Told R
told_of (Ok row) = Item row
told_of (Err e) = Fails e

-- By what a message says it shows this, and the rows go on from there.
abbrev pub Shows : Said → RowGiving → Option (Told (RowOf Column)) → RowGiving → Type 0
Shows (Row cells) old (Some (Item row)) new = (row ≡ record { columns = old.statement.columns; cells = cells }) × (new ≡ old)
Shows (Complete n) old None new = new ≡ record { statement = old.statement; affected = Some n }
Shows Empty old None new = new ≡ old
Shows Suspended old None new = new ≡ old
Shows Ready old (Some Ends) new = new ≡ old
Shows (Wrong e) old (Some (Fails error)) new = (error ≡ e) × (new ≡ old)
Shows said old told new = ⊥

-- ---- up to BindComplete, which is the one item

-- what is told by what a message says
abbrev pub bound_heard : RowOpening → Said → Heard RowOpening (Unit {0})
bound_heard o Bound = record { told = Some (Item tt); giving = record { statement = o.statement; bound = true } }
bound_heard o (Wrong e) = record { told = Some (Fails e); giving = o }
bound_heard o other = record { told = Some (Fails UnexpectedMessage); giving = o }

-- the same of a message that may be malformed
abbrev pub opening_heard : RowOpening → RawMessage → Heard RowOpening (Unit {0})
opening_heard o raw = bound_heard o (said_by false (length o.statement.columns) raw)

-- By what a message says it shows this, and the opening goes on from there.
abbrev pub ShowsOpening : Said → RowOpening → Option (Told (Unit {0})) → RowOpening → Type 0
ShowsOpening Bound old (Some (Item u)) new = new ≡ record { statement = old.statement; bound = true }
ShowsOpening (Wrong e) old (Some (Fails error)) new = (error ≡ e) × (new ≡ old)
ShowsOpening said old told new = ⊥
