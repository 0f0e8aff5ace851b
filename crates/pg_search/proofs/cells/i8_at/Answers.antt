use Rattle.std.proofs.Common.{sym}
use Rattle.pg_core.specs.Cells.{i8_in}
use Rattle.pg_search.proofs.Places.{value-there, value-missing}
use Rattle.pg_search.proofs.cells.i8_at.Goals as goal

pub returns-in-Some : goal.returns-in-Some
returns-in-Some c =
    let column = c.in-Some.column.now in
    value-there i8_in c.args.columns.now c.args.cells.now c.args.place column c.type_.result.now (c.cell_at.result) c.or_from_sql.result (sym c.in-Some.ensures) c.type_.ensures c.cell_at.ensures (c.or_from_sql.ensures _ c.i8_in.ensures)

pub returns-in-None : goal.returns-in-None
returns-in-None c = value-missing i8_in c.args.columns.now c.args.cells.now c.args.place c.no_column.result (sym c.in-None.ensures) c.no_column.ensures
