use Rattle.pg_open.specs.Choosing.{known}
use Rattle.pg_open.proofs.TlsSteps.{pending-on}
use Rattle.pg_open.proofs.stages.ConnectTls.shake.Goals as goal

pub returns-in-Pending-clause-answer : goal.returns-in-Pending-clause-answer
returns-in-Pending-clause-answer g c link tls b =
    pending-on (known g.L.Link.view g.T.TlsConnect.connects g.T.TlsConnect.begins g.T.Future.TlsHandshake.polled) c.args.self.now.settings link tls
    c.args.self.now.asked c.args.quiet c.args.handshake c.poll.new.self b c.in-Pending.ensures
