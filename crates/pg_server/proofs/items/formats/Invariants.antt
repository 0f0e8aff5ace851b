use Rattle.std.proofs.Common.{◌≡◌, ◌-◌}
use Rattle.std.specs.Int.{w16}
use Rattle.pg_spec.specs.Bytes.{signed_at}
use Rattle.pg_spec.specs.ClientFrames.{items_at}
use Rattle.pg_server.specs.Readings.{onto}
use Rattle.pg_server.proofs.items.formats.Given as goal

abbrev pub invariant-loop-i : goal.invariant-loop-i
invariant-loop-i l = onto l.formats.items (items_at (l.count - l.i) (signed_at w16) l.rest) ≡ items_at l.count (signed_at w16) l.bytes
