use Rattle.std.proofs.Common.{Ok, ap, ◌∙◌}
use Rattle.pg_rows.specs.Rows.{Cells, row_of}
use Rattle.pg_rows.proofs.row_cells.RowCells.into_row.Goals as goal

pub returns : goal.returns
returns c =
    c.of_cells.ensures ∙ ap (row_of c.args.statement.columns) (c.self.invariant ∙ ap (λ (cells : Cells). Ok cells) c.self.view_is)
