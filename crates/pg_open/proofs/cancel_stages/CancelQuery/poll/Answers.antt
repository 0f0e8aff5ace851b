use Rattle.pg_open.specs.Links.{view_of}
use Rattle.pg_open.specs.Choosing.{known}
use Rattle.pg_open.proofs.CancelSteps.{stands-so, still-under-way}
use Rattle.pg_open.proofs.cancel_stages.CancelQuery.poll.Goals as goal

pub returns-in-Choosing-clause-answer : goal.returns-in-Choosing-clause-answer
returns-in-Choosing-clause-answer g c link tls st =
    c.choose.ensures.answer link tls
    (stands-so (known g.L.Link.view g.T.TlsConnect.connects g.T.TlsConnect.begins g.T.Future.TlsHandshake.polled) (view_of g.L.Link.view g.T.Future.Stream.Link.view)
    c.args.self.now.info link tls c.args.self.now.stage _ c.replace.result c.replace.ensures.value c.in-Choosing.is st)

pub returns-in-Sending-clause-answer : goal.returns-in-Sending-clause-answer
returns-in-Sending-clause-answer g c link tls st =
    c.send.ensures.answer link tls
    (still-under-way (known g.L.Link.view g.T.TlsConnect.connects g.T.TlsConnect.begins g.T.Future.TlsHandshake.polled) (view_of g.L.Link.view g.T.Future.Stream.Link.view)
    c.args.self.now.info link tls c.args.self.now.stage c.replace.result c.in-Sending.link c.in-Sending.bytes c.replace.ensures.value c.in-Sending.is st)
