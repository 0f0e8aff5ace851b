use Rattle.std.proofs.Common.{◌≡◌, ◌<◌, ◌+◌, ◌*◌, ◌-◌, ◌^◌, drop}
use Rattle.std.specs.List.{AllByRecursion}
use Rattle.pg_values.specs.Numerics.{digits_value}
use Rattle.pg_values.proofs.numeric.total.Given as goal

abbrev pub invariant-loop-j : goal.invariant-loop-j
invariant-loop-j l = record {
  small : l.sum < 10 ^ 38;
  below : AllByRecursion (λ digit. digit < 10000) (drop l.j l.digits);
  sum_is : l.sum * 10000 ^ l.shift + digits_value (l.top - l.j) (drop l.j l.digits) * 10 ^ l.scale ≡ digits_value l.top l.digits * 10 ^ l.scale;
}
