use Rattle.std.proofs.Common.{◌≡◌, ◌≤◌, ◌-◌, [], None}
use Rattle.pg_connect.specs.Calm.{StaysCalm}
use Rattle.pg_connect.specs.Passes.{OnlyReads}
use Rattle.pg_connect.proofs.Pacing.{PacedGoes}
use Rattle.pg_connect.proofs.streams.Streams.read_link.Given as goal

abbrev pub invariant-pieces : goal.invariant-pieces
invariant-pieces g l = record {
  goes : PacedGoes g.E.Desk.becomes l.initial.hub l.hub l.initial.self l.self (g.L.Link.view l.initial.link) (g.L.Link.view l.link);
  only : OnlyReads l.initial.self l.self (g.L.Link.view l.initial.link) (g.L.Link.view l.link);
  at_end : l.self.at_end ≡ l.initial.self.at_end;
  held : l.self.held ≡ None;
  delayed : l.self.delayed.items ≡ [];
  unread : l.self.unread ≡ None;
  limit : l.self.max_bytes ≡ l.initial.self.max_bytes;
  given : l.self.given ≤ l.self.max_bytes;
  calm : StaysCalm (g.L.Link.view l.initial.link) (g.L.Link.view l.link);
  quiet : (g.L.Link.view l.link).quiet ≡ (g.L.Link.view l.initial.link).quiet;
}

abbrev pub decreases-pieces : goal.decreases-pieces
decreases-pieces g l = l.self.max_bytes - l.self.given
