use Rattle.std.proofs.Common.{refl, sym, ap}
use Rattle.pg_config.specs.Views.{ssl_mode}
use Rattle.pg_open.specs.declared.choice.TlsChoice.TheVariants as choice
use Rattle.pg_open.specs.Choosing.{known}
use Rattle.pg_open.proofs.TlsSteps.{chose-by, never-asks, tls-left}
use Rattle.pg_open.proofs.stages.ConnectTls.decide.Goals as goal

pub returns-in-Raw-clause-answer : goal.returns-in-Raw-clause-answer
returns-in-Raw-clause-answer g c from request asks limit asked =
    chose-by (known g.L.Link.view g.T.TlsConnect.connects g.T.TlsConnect.begins g.T.Future.TlsHandshake.polled) c.args.self.now.settings from c.args.tls
    c.args.link 1 choice.Raw request c.args.byte refl asks limit asked (sym c.in-Raw.ensures)

pub returns-in-Shakes-clause-answer : goal.returns-in-Shakes-clause-answer
returns-in-Shakes-clause-answer g c from request asks limit asked =
    c.start.ensures.answer from
    (chose-by (known g.L.Link.view g.T.TlsConnect.connects g.T.TlsConnect.begins g.T.Future.TlsHandshake.polled) c.args.self.now.settings from c.args.tls
    c.args.link 1 choice.Shakes request c.args.byte refl asks limit asked (sym c.in-Shakes.ensures))

pub returns-in-Fails-clause-answer : goal.returns-in-Fails-clause-answer
returns-in-Fails-clause-answer g c from request asks limit asked =
    tls-left (known g.L.Link.view g.T.TlsConnect.connects g.T.TlsConnect.begins g.T.Future.TlsHandshake.polled) c.args.self.now.settings from c.args.tls
    c.args.link c.leave.new.self.asked c.in-Fails.why c.leave.new.self.stage c.leave.result
    (chose-by (known g.L.Link.view g.T.TlsConnect.connects g.T.TlsConnect.begins g.T.Future.TlsHandshake.polled) c.args.self.now.settings from c.args.tls
    c.args.link c.leave.new.self.asked (choice.Fails c.in-Fails.why) request c.args.byte (ap (λ s. s.asked) c.leave.ensures.left) asks limit asked (sym c.in-Fails.ensures))
    (ap (λ s. s.stage) c.leave.ensures.left) c.leave.ensures.answer

pub returns-in-Asks-clause-answer : goal.returns-in-Asks-clause-answer
returns-in-Asks-clause-answer g c from request asks limit asked =
    absurd (never-asks (ssl_mode c.args.self.now.settings.mode) c.args.self.now.settings.has_hostname c.args.byte (sym c.in-Asks.ensures))
