use Rattle.std.proofs.Common.{option_map, string_bytes, ◌∙◌}
use Rattle.pg_spec.specs.ReportText.{cell}
use Rattle.pg_text.proofs.Texts.{first_written}
use Rattle.pg_text.proofs.print.put_shared_cells.Goals as goal

pub loop-cell-preserved : goal.loop-cell-preserved
loop-cell-preserved c =
    first_written cell c.loop-cell.left c.next.new.self (option_map (λ r. r.now) c.in-Some.cell) (string_bytes c.loop-cell.out) (string_bytes c.put_cell.new.out) c.in-Some.ensures.some c.in_ok-put_cell.ensures
    ∙ c.loop-cell.invariant
