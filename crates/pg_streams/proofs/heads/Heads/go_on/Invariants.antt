use Rattle.std.proofs.Common.{◌≡◌, Bool}
use Rattle.pg_streams.specs.Families.{GoesFor}
use Rattle.pg_streams.specs.Heads.{heads}
use Rattle.pg_streams.proofs.heads.Heads.go_on.Given as goal

-- what was done so far leads here
abbrev pub invariant-loop-columns : goal.invariant-loop-columns
invariant-loop-columns g l = record {
  goes : (rows : Bool) → GoesFor g.D.Desk.becomes l.fn.stamp l.initial.desk (heads rows l.initial.self) l.desk (heads rows l.self);
  id : l.self.id ≡ l.initial.self.id;
}

abbrev pub decreases-loop-columns : goal.decreases-loop-columns
decreases-loop-columns g l = g.D.Desk.undelivered l.desk
