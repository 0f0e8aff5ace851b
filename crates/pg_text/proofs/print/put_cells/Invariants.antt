use Rattle.std.proofs.Common.{◌≡◌, ◌++◌, drop, string_bytes}
use Rattle.pg_spec.specs.ReportText.{cell}
use Rattle.pg_text.specs.Written.{behind_spaces}
use Rattle.pg_text.proofs.print.put_cells.Given as goal

abbrev pub invariant-loop-cell : goal.invariant-loop-cell
invariant-loop-cell l = string_bytes l.out ++ behind_spaces cell (drop l.cell-index l.cells) ≡ string_bytes l.initial.out ++ behind_spaces cell l.cells
