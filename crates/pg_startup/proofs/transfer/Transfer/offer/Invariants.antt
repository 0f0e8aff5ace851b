use Rattle.std.proofs.Common.{◌≡◌, length}
use Rattle.pg_connect.specs.Calm.{StaysCalm}
use Rattle.pg_startup.specs.Transfers.{Sends}
use Rattle.pg_startup.proofs.transfer.Transfer.offer.Given as goal

abbrev pub invariant-loop-link : goal.invariant-loop-link
invariant-loop-link g l = record {
  sends : Sends l.initial.self l.self (g.L.Link.view l.initial.link) (g.L.Link.view l.link);
  calm : StaysCalm (g.L.Link.view l.initial.link) (g.L.Link.view l.link);
  quiet : (g.L.Link.view l.link).quiet ≡ (g.L.Link.view l.initial.link).quiet;
}

abbrev pub decreases-loop-link : goal.decreases-loop-link
decreases-loop-link g l = length l.self.unsent.items
