use Rattle.std.proofs.Common.{◌≡◌, ◌++◌, flat_map, take}
use Rattle.pg_values.specs.Spelling.{dim_bytes}
use Rattle.pg_values.proofs.writing.put_dims.Given as goal

abbrev pub invariant-loop-dim : goal.invariant-loop-dim
invariant-loop-dim l = l.out.items ≡ l.initial.out.items ++ flat_map dim_bytes (take l.dim-index l.dims)
