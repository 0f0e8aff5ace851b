use Rattle.std.proofs.Common.{◌≡◌, ◌++◌, drop}
use Rattle.std.specs.List.{concat}
use Rattle.pg_served.proofs.alone.request_of.Given as goal

abbrev pub invariant-loop-part : goal.invariant-loop-part
invariant-loop-part l = l.bytes.items ++ concat (drop l.part-index l.booking.parts) ≡ concat l.booking.parts
