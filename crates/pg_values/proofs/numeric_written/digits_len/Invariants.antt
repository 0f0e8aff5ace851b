use Rattle.std.proofs.Common.{◌≡◌, ◌<◌, ◌≤◌, ◌-◌, ◌^◌}
use Rattle.pg_values.proofs.numeric_written.digits_len.Given as goal

abbrev pub invariant-loop-len : goal.invariant-loop-len
invariant-loop-len l = record {
  unit_is : l.unit ≡ 10000 ^ l.len;
  least : 0 < l.len → 10000 ^ (l.len - 1) ≤ l.number;
}
