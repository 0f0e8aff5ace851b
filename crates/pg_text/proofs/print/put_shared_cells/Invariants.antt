use Rattle.std.proofs.Common.{◌≡◌, ◌++◌, length, string_bytes}
use Rattle.pg_spec.specs.ReportText.{cell}
use Rattle.pg_text.specs.Written.{behind_spaces}
use Rattle.pg_text.proofs.print.put_shared_cells.Given as goal

abbrev pub invariant-loop-cell : goal.invariant-loop-cell
invariant-loop-cell l = string_bytes l.out ++ behind_spaces cell l.left ≡ string_bytes l.initial.out ++ behind_spaces cell l.cells

abbrev pub decreases-loop-cell : goal.decreases-loop-cell
decreases-loop-cell l = length l.left
