use Rattle.pg_streams.specs.Collecting.{Keeps, family_of}
use Rattle.pg_streams.specs.Families.{GoesFor}
use Rattle.pg_streams.proofs.items.Items.go_on.Given as goal

-- what was done so far leads here
abbrev pub invariant-loop-told : goal.invariant-loop-told
invariant-loop-told g l = record {
  goes : GoesFor g.D.Desk.becomes l.fn.stamp l.initial.desk (family_of g.G.Giving.tells g.G.Giving.hears l.initial.self) l.desk (family_of g.G.Giving.tells g.G.Giving.hears l.self);
  keeps : Keeps g.G.Giving.known l.initial.self l.self;
}

abbrev pub decreases-loop-told : goal.decreases-loop-told
decreases-loop-told g l = g.D.Desk.undelivered l.desk
