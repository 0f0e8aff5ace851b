use Rattle.std.proofs.Common.{◌≡◌, Bool}
use Rattle.pg_streams.specs.Families.{GoesFor}
use Rattle.pg_streams.specs.Rests.{IsRest, rests}
use Rattle.pg_streams.proofs.rests.Rest.go_on.Given as goal

-- what was taken so far leads here
abbrev pub invariant-loop-self : goal.invariant-loop-self
invariant-loop-self g l = record {
  goes : (rows : Bool) → GoesFor g.D.Desk.becomes l.fn.stamp l.initial.desk (rests rows l.initial.self) l.desk (rests rows l.self);
  is : IsRest l.self;
  id : l.self.id ≡ l.initial.self.id;
}

abbrev pub decreases-loop-self : goal.decreases-loop-self
decreases-loop-self g l = g.D.Desk.undelivered l.desk
