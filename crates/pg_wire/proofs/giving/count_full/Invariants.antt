use Rattle.std.proofs.Common.{◌≡◌, ◌≤◌, take, count_by}
use Rattle.pg_wire.specs.Giving.{has_bytes, lists}
use Rattle.pg_wire.proofs.giving.count_full.Given as goal

abbrev pub invariant-loop-i : goal.invariant-loop-i
invariant-loop-i l = (l.full ≡ count_by has_bytes (take l.i (lists l.plan))) × (l.full ≤ l.i)
