use Rattle.pg_open.specs.Links.{view_of}
use Rattle.pg_open.specs.Choosing.{known}
use Rattle.pg_open.proofs.CancelSteps.{choice-fails, choice-gives, choice-goes-on}
use Rattle.pg_open.proofs.cancel_stages.CancelQuery.choose.Goals as goal

pub returns-in-Ready-Ok-clause-answer : goal.returns-in-Ready-Ok-clause-answer
returns-in-Ready-Ok-clause-answer g c link tls st =
    c.begin.ensures.answer link tls
    (choice-gives (known g.L.Link.view g.T.TlsConnect.connects g.T.TlsConnect.begins g.T.Future.TlsHandshake.polled) (view_of g.L.Link.view g.T.Future.Stream.Link.view)
    c.args.self.now.info link tls c.args.choice c.poll.new.self.asked c.poll.new.self.stage c.in-Ready-Ok.field-0 c.in-Ready-Ok.link st
    (c.in-Ready-Ok.ensures.answer link tls) c.in-Ready-Ok.field-0-is)

pub returns-in-Ready-Err-clause-answer : goal.returns-in-Ready-Err-clause-answer
returns-in-Ready-Err-clause-answer g c link tls st =
    choice-fails (known g.L.Link.view g.T.TlsConnect.connects g.T.TlsConnect.begins g.T.Future.TlsHandshake.polled) (view_of g.L.Link.view g.T.Future.Stream.Link.view)
    c.args.self.now.info link tls c.args.choice c.poll.new.self c.in-Ready-Err.field-0 c.in-Ready-Err.error st
    (c.in-Ready-Err.ensures.answer link tls) c.in-Ready-Err.field-0-is

pub returns-in-Pending-clause-answer : goal.returns-in-Pending-clause-answer
returns-in-Pending-clause-answer g c link tls st =
    choice-goes-on (known g.L.Link.view g.T.TlsConnect.connects g.T.TlsConnect.begins g.T.Future.TlsHandshake.polled) (view_of g.L.Link.view g.T.Future.Stream.Link.view)
    c.args.self.now.info link tls c.args.choice c.poll.new.self st (c.in-Pending.ensures.answer link tls) c.in-Pending.ensures.same
