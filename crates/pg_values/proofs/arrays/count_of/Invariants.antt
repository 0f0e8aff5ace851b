use Rattle.std.proofs.Common.{◌≡◌, ◌≤◌, ◌*◌, drop}
use Rattle.std.specs.List.{AllByRecursion}
use Rattle.pg_values.specs.Spelling.{IsDim, product}
use Rattle.pg_values.proofs.arrays.count_of.Given as goal

abbrev pub invariant-loop-dim : goal.invariant-loop-dim
invariant-loop-dim l = record {
  are : AllByRecursion IsDim (drop l.dim-index l.dims);
  product_is : l.count * product (drop l.dim-index l.dims) ≡ product l.dims;
  small : l.count ≤ 16777216;
}
