use Rattle.std.proofs.Common.{◌≡◌, ◌≤◌, drop, length, None}
use Rattle.pg_desk.specs.Catalog.{last_of}
use Rattle.pg_hub.proofs.catalog.type_in.Given as goal

-- no later one is of this oid
abbrev pub invariant-loop-i : goal.invariant-loop-i
invariant-loop-i l = (l.i ≤ length l.types) × (last_of l.oid (drop l.i l.types) ≡ None)

abbrev pub decreases-loop-i : goal.decreases-loop-i
decreases-loop-i l = l.i
