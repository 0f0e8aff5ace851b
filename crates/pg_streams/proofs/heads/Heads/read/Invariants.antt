use Rattle.std.proofs.Common.{◌≡◌, Bool, length}
use Rattle.pg_streams.specs.Heads.{heads}
use Rattle.pg_streams.proofs.heads.Heads.read.Given as goal

-- what was read told nothing
abbrev pub invariant-loop-message : goal.invariant-loop-message
invariant-loop-message l = record {
  reads : (rows : Bool) → heads rows l.self ≡ heads rows l.initial.self;
  id : l.self.id ≡ l.initial.self.id;
}

abbrev pub decreases-loop-message : goal.decreases-loop-message
decreases-loop-message l = length l.self.batch
