use Rattle.pg_search.proofs.Settling.{row-settled}
use Rattle.pg_search.proofs.row_reading.RowReading.tell.Goals as goal

pub returns-in_ok-row-in-Row-clause-does : goal.returns-in_ok-row-in-Row-clause-does
returns-in_ok-row-in-Row-clause-does c =
    let old = c.args.self.now in
    row-settled old.statement old.bound c.args.said c.columns.result.now c.in-Row.cells c.as_slice.result.now c.type_row-row.result c.in_ok-row-in-Row.row c.in-Row.is c.columns.ensures c.as_slice.ensures c.type_row-row.ensures c.in_ok-row-in-Row.ensures
