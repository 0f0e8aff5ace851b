use Rattle.std.proofs.Common.{◌≡◌, [], None, length}
use Rattle.pg_connect.specs.Calm.{StaysCalm}
use Rattle.pg_connect.specs.Passes.{Passes, OnlySends}
use Rattle.pg_connect.proofs.streams.Streams.offer.Given as goal

abbrev pub invariant-loop-link : goal.invariant-loop-link
invariant-loop-link g l = record {
  passes : Passes l.initial.self l.self (g.L.Link.view l.initial.link) (g.L.Link.view l.link) [] [];
  only : OnlySends l.initial.self l.self (g.L.Link.view l.initial.link) (g.L.Link.view l.link);
  shut : (g.L.Link.view l.link).shut ≡ (g.L.Link.view l.initial.link).shut;
  closing : l.self.closing ≡ l.initial.self.closing;
  unread : l.self.unread ≡ None;
  calm : StaysCalm (g.L.Link.view l.initial.link) (g.L.Link.view l.link);
  quiet : (g.L.Link.view l.link).quiet ≡ (g.L.Link.view l.initial.link).quiet;
}

abbrev pub decreases-loop-link : goal.decreases-loop-link
decreases-loop-link g l = length l.self.unsent
