use Rattle.std.proofs.Common.{◌≡◌, ◌<◌, ◌+◌, ◌*◌, ◌^◌}
use Rattle.pg_values.proofs.numeric_written.groups_of.Given as goal

abbrev pub invariant-loop-zeros : goal.invariant-loop-zeros
invariant-loop-zeros l = record {
  sum : (l.front * 10000 + l.last) * 10000 ^ l.zeros ≡ l.number * 10 ^ l.pad;
  few : l.front < 10 ^ 38;
  below : l.last < 10000;
}
