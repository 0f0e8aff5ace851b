use Rattle.std.proofs.Common.{◌≡◌, ◌-◌, ◌++◌, List, length, flat_map}
use Rattle.std.specs.List.{AllByRecursion}
use Rattle.pg_values.specs.declared.datum.Dim.{Dim}
use Rattle.pg_values.specs.Spelling.{IsDim, dim_bytes, AreDims}
use Rattle.pg_values.proofs.arrays.read_dims.Given as goal

abbrev pub invariant-loop : goal.invariant-loop
invariant-loop l = record {
  count_is : length l.dims ≡ l.counter;
  are : AllByRecursion IsDim l.dims;
  spelled : l.bytes ≡ flat_map dim_bytes l.dims ++ l.rest;
  others : (ds : List Dim) → AreDims l.count ds l.bytes → (es : List Dim) × AreDims (l.count - l.counter) es l.rest;
}
