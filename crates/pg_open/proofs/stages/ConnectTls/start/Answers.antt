use Rattle.pg_open.specs.Choosing.{known}
use Rattle.pg_open.proofs.TlsSteps.{begins-now, begun-now, on-pending}
use Rattle.pg_open.proofs.stages.ConnectTls.start.Goals as goal

pub returns-clause-answer : goal.returns-clause-answer
returns-clause-answer g c from chose =
    c.shake.ensures.answer from c.args.tls
    (begins-now (known g.L.Link.view g.T.TlsConnect.connects g.T.TlsConnect.begins g.T.Future.TlsHandshake.polled) c.args.self.now.settings from c.args.tls
    c.args.link c.args.self.now.asked c.quiet-quiet.result c.connect.result chose c.quiet-quiet.ensures c.connect.ensures)

pub returns-clause-pending : goal.returns-clause-pending
returns-clause-pending g c =
    on-pending c.shake.result (begun-now (known g.L.Link.view g.T.TlsConnect.connects g.T.TlsConnect.begins g.T.Future.TlsHandshake.polled)
    c.shake.new.self.moved c.connect.result c.quiet-quiet.result c.shake.new.self.stage) c.shake.ensures.pending
