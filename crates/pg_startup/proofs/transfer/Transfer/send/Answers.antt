use Rattle.pg_startup.proofs.Sending.{sends-nothing}
use Rattle.pg_startup.proofs.transfer.Transfer.send.Goals as goal

pub returns-then-is_empty-clause-sends : goal.returns-then-is_empty-clause-sends
returns-then-is_empty-clause-sends g c = sends-nothing c.args.self.now (g.L.Link.view c.args.link.now)
