use Rattle.std.proofs.Common.{◌≡◌, ◌-◌}
use Rattle.pg_spec.specs.ClientFrames.{items_at, value_at}
use Rattle.pg_server.specs.Readings.{onto}
use Rattle.pg_server.proofs.items.values.Given as goal

abbrev pub invariant-loop-i : goal.invariant-loop-i
invariant-loop-i l = onto l.values.items (items_at (l.count - l.i) value_at l.rest) ≡ items_at l.count value_at l.bytes
