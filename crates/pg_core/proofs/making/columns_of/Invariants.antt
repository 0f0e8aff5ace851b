use Rattle.std.proofs.Common.{◌≡◌, ◌++◌, length}
use Rattle.pg_core.specs.Prepares as spec
use Rattle.pg_core.proofs.making.columns_of.Given as goal

-- these columns were made, and the others are left
abbrev pub invariant-loop-column : goal.invariant-loop-column
invariant-loop-column l = spec.columns_of l.fn.columns l.fn.types.items ≡ l.made ++ spec.columns_of l.columns.items l.types.items

abbrev pub decreases-loop-column : goal.decreases-loop-column
decreases-loop-column l = length l.columns.items
