use Rattle.std.proofs.Common.{◌≡◌, [], length}
use Rattle.pg_execute.specs.ResultRows.{rows_behind}
use Rattle.pg_execute.proofs.result_rows.rows_under.Given as goal

-- these rows were made, and the other cells are left
abbrev pub invariant-loop-cells : goal.invariant-loop-cells
invariant-loop-cells l = rows_behind l.statement.columns [] l.fn.rows ≡ rows_behind l.statement.columns l.made l.left.items

abbrev pub decreases-loop-cells : goal.decreases-loop-cells
decreases-loop-cells l = length l.left.items
