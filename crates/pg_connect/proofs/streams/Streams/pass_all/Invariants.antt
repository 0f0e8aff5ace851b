use Rattle.std.proofs.Common.{◌≡◌, [], None, length}
use Rattle.pg_spec.specs.Links.{LinkView}
use Rattle.pg_connect.specs.Passes.{Goes}
use Rattle.pg_connect.specs.Reads.{NoneFull}
use Rattle.pg_connect.proofs.streams.Streams.pass_all.Given as goal

abbrev pub invariant-front : goal.invariant-front
invariant-front g l = record {
  goes : (v : LinkView) → Goes g.E.Desk.becomes l.initial.hub l.hub l.initial.self l.self v v [] NoneFull;
  held : l.self.held ≡ None;
  delayed : l.self.delayed.items ≡ [];
  unread : l.self.unread ≡ None;
  closing : l.self.closing ≡ l.initial.self.closing;
  at_end : l.self.at_end ≡ l.initial.self.at_end;
}

abbrev pub decreases-front : goal.decreases-front
decreases-front g l = length l.self.buffer.items
