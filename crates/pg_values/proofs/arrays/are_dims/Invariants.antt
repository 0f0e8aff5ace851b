use Rattle.std.proofs.Common.{take}
use Rattle.std.specs.List.{AllByRecursion}
use Rattle.pg_values.specs.Spelling.{IsDim}
use Rattle.pg_values.proofs.arrays.are_dims.Given as goal

abbrev pub invariant-loop-dim : goal.invariant-loop-dim
invariant-loop-dim l = AllByRecursion IsDim (take l.dim-index l.dims)
