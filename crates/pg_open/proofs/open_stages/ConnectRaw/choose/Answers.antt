use Rattle.std.proofs.Common.{refl}
use Rattle.pg_open.specs.Opening.{outside}
use Rattle.pg_open.proofs.OpenSteps.{choice-ends, choice-on, choice-reaches, starts-now}
use Rattle.pg_open.proofs.open_stages.ConnectRaw.choose.Goals as goal

pub start-requires : goal.start-requires
start-requires g c =
    let link = c.requires.open.0 in
    let tls = c.requires.open.1 in
    record {
      reached = (
        link,
        tls,
        choice-reaches (outside g.L.Link.view g.T.TlsConnect.connects g.T.TlsConnect.begins g.T.Future.TlsHandshake.polled g.T.Future.Stream.Link.view g.T.Future.Stream.TlsStream.binding) c.args.self.now.settings link tls
            c.args.choice c.poll.new.self.asked c.poll.new.self.stage c.in-Ready-Ok.field-0 c.in-Ready-Ok.link c.requires.open.2
            (c.in-Ready-Ok.ensures.answer link tls) c.in-Ready-Ok.field-0-is,
      );
    }

pub returns-in-Ready-Ok-clause-answer : goal.returns-in-Ready-Ok-clause-answer
returns-in-Ready-Ok-clause-answer g c link tls st =
    starts-now (outside g.L.Link.view g.T.TlsConnect.connects g.T.TlsConnect.begins g.T.Future.TlsHandshake.polled g.T.Future.Stream.Link.view g.T.Future.Stream.TlsStream.binding) c.args.self.now.settings link tls
    c.args.choice c.in-Ready-Ok.link c.poll.new.self.asked c.start.new.self.moved c.start.new.self.stage c.start.result
    (c.start.ensures.answer link tls
    (choice-reaches (outside g.L.Link.view g.T.TlsConnect.connects g.T.TlsConnect.begins g.T.Future.TlsHandshake.polled g.T.Future.Stream.Link.view g.T.Future.Stream.TlsStream.binding) c.args.self.now.settings link tls
    c.args.choice c.poll.new.self.asked c.poll.new.self.stage c.in-Ready-Ok.field-0 c.in-Ready-Ok.link st
    (c.in-Ready-Ok.ensures.answer link tls) c.in-Ready-Ok.field-0-is))

pub returns-in-Ready-Err-clause-answer : goal.returns-in-Ready-Err-clause-answer
returns-in-Ready-Err-clause-answer g c link tls st =
    choice-ends (outside g.L.Link.view g.T.TlsConnect.connects g.T.TlsConnect.begins g.T.Future.TlsHandshake.polled g.T.Future.Stream.Link.view g.T.Future.Stream.TlsStream.binding) c.args.self.now.settings link tls
    c.args.choice c.poll.new.self c.in-Ready-Err.field-0 c.in-Ready-Err.error st
    (c.in-Ready-Err.ensures.answer link tls) c.in-Ready-Err.field-0-is

pub returns-in-Pending-clause-answer : goal.returns-in-Pending-clause-answer
returns-in-Pending-clause-answer g c link tls st =
    choice-on (outside g.L.Link.view g.T.TlsConnect.connects g.T.TlsConnect.begins g.T.Future.TlsHandshake.polled g.T.Future.Stream.Link.view g.T.Future.Stream.TlsStream.binding) c.args.self.now.settings link tls
    c.args.choice c.poll.new.self c.poll.new.self.moved st (c.in-Pending.ensures.answer link tls) c.in-Pending.ensures.same refl c.in-Pending.ensures.pending
