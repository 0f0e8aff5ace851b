use Rattle.std.proofs.Common.{◌≡◌, ◌++◌, flat_map, drop, string_bytes}
use Rattle.pg_text.specs.ReportText.{row_line}
use Rattle.pg_text.proofs.print.put_rows.Given as goal

abbrev pub invariant-loop-cells : goal.invariant-loop-cells
invariant-loop-cells l = string_bytes l.out ++ flat_map row_line (drop l.cells-index l.rows) ≡ string_bytes l.initial.out ++ flat_map row_line l.rows
