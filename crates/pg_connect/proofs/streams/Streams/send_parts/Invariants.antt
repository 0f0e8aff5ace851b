use Rattle.std.proofs.Common.{◌≡◌, [], false, None}
use Rattle.pg_connect.specs.Calm.{StaysCalm}
use Rattle.pg_connect.specs.Passes.{Goes, OnlySends}
use Rattle.pg_connect.proofs.Parts.{Anything}
use Rattle.pg_connect.proofs.streams.Streams.send_parts.Given as goal

abbrev pub invariant-parts : goal.invariant-parts
invariant-parts g l = record {
  goes : Goes g.E.Desk.becomes l.initial.hub l.hub l.initial.self l.self (g.L.Link.view l.initial.link) (g.L.Link.view l.link) [] Anything;
  only : OnlySends l.initial.self l.self (g.L.Link.view l.initial.link) (g.L.Link.view l.link);
  shut : (g.L.Link.view l.link).shut ≡ (g.L.Link.view l.initial.link).shut;
  closing : l.self.closing ≡ false;
  unread : l.self.unread ≡ None;
  calm : StaysCalm (g.L.Link.view l.initial.link) (g.L.Link.view l.link);
  quiet : (g.L.Link.view l.link).quiet ≡ (g.L.Link.view l.initial.link).quiet;
}

abbrev pub decreases-parts : goal.decreases-parts
decreases-parts g l = g.E.Desk.waiting_parts l.hub
