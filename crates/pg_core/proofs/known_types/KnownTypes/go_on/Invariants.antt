use Rattle.std.proofs.Common.{◌≡◌, ◌≤◌, length}
use Rattle.pg_core.specs.Prepares.{known_types}
use Rattle.pg_core.proofs.known_types.KnownTypes.go_on.Given as goal

-- the types so far were found, and the other oids are left
abbrev pub invariant-loop-oid : goal.invariant-loop-oid
invariant-loop-oid l = record {
  same : known_types l.self.left.items l.self.found ≡ known_types l.fn.self.left.items l.fn.self.found;
  fewer : length l.self.left.items ≤ length l.fn.self.left.items;
}

abbrev pub decreases-loop-oid : goal.decreases-loop-oid
decreases-loop-oid l = length l.self.left.items
