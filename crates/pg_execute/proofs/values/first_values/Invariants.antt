use Rattle.std.proofs.Common.{◌≡◌, [], drop}
use Rattle.pg_execute.specs.Values as spec
use Rattle.pg_execute.proofs.values.first_values.Given as goal

-- these values were read, and the other rows are left
abbrev pub invariant-loop-cells : goal.invariant-loop-cells
invariant-loop-cells g l = spec.first_values g.R.Scalar.reads l.ty [] l.rows ≡ spec.first_values g.R.Scalar.reads l.ty l.values (drop l.cells-index l.rows)
