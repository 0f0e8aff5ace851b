use Rattle.std.proofs.Common.{◌≡◌, ◌≤◌, length}
use Rattle.pg_execute.specs.Knowing.{knows}
use Rattle.pg_execute.proofs.knows_all.KnowsAll.go_on.Given as goal

-- the types so far were found, and the other oids are left
abbrev pub invariant-loop-oid : goal.invariant-loop-oid
invariant-loop-oid l = record {
  same : knows l.self.left.items l.self.found ≡ knows l.fn.self.left.items l.fn.self.found;
  fewer : length l.self.left.items ≤ length l.fn.self.left.items;
}

abbrev pub decreases-loop-oid : goal.decreases-loop-oid
decreases-loop-oid l = length l.self.left.items
