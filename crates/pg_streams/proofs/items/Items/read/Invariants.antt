use Rattle.std.proofs.Common.{◌≡◌, length}
use Rattle.pg_streams.specs.Collecting.{Keeps, family_of}
use Rattle.pg_streams.proofs.items.Items.read.Given as goal

-- what was read told nothing
abbrev pub invariant-loop-message : goal.invariant-loop-message
invariant-loop-message g l = record {
  reads : family_of g.G.Giving.tells g.G.Giving.hears l.self ≡ family_of g.G.Giving.tells g.G.Giving.hears l.initial.self;
  keeps : Keeps g.G.Giving.known l.initial.self l.self;
}

abbrev pub decreases-loop-message : goal.decreases-loop-message
decreases-loop-message g l = length l.self.batch
