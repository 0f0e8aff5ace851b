use Rattle.pg_open.specs.Opening.{outside}
use Rattle.pg_drive.proofs.OpenStands.{ends-of, stands-on}
use Rattle.pg_drive.proofs.opening.step.Goals as goal

pub returns-in-Ready-clause-step : goal.returns-in-Ready-clause-step
returns-in-Ready-clause-step g c link tls stands =
    ends-of (outside g.L.Link.view g.T.TlsConnect.connects g.T.TlsConnect.begins g.T.Future.TlsHandshake.polled g.T.Future.Stream.Link.view g.T.Future.Stream.TlsStream.binding) c.args.raw.now.settings link tls
    c.args.lull.now c.poll.new.self.moved c.args.raw.now.stage c.poll.new.self.stage c.in-Ready.answer (c.in-Ready.ensures.answer link tls stands)

pub returns-in-Ok-clause-stands : goal.returns-in-Ok-clause-stands
returns-in-Ok-clause-stands g c link tls stands =
    stands-on (outside g.L.Link.view g.T.TlsConnect.connects g.T.TlsConnect.begins g.T.Future.TlsHandshake.polled g.T.Future.Stream.Link.view g.T.Future.Stream.TlsStream.binding) c.args.raw.now.settings link tls
    c.poll.new.self.settings c.pause.new.raw.settings c.poll.new.self.moved c.args.raw.now.stage c.poll.new.self.stage c.pause.new.raw.stage
    c.poll.ensures.same c.pause.ensures.same (c.in-Pending.ensures.answer link tls stands) c.pause.ensures.stays
