use Rattle.std.proofs.Common.{length, sym, ap, ◌∙◌}
use Rattle.pg_rows.proofs.Walked.{cells-counted}
use Rattle.pg_rows.proofs.row_cells.RowCells.len.Goals as goal

pub returns : goal.returns
returns c =
    c.len.ensures ∙ sym (cells-counted c.self.inside.body.count c.self.inside.body.cells _ c.self.invariant) ∙ ap length c.self.view_is
