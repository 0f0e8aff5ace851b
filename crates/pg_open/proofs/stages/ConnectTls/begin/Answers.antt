use Rattle.std.proofs.Common.{◌∙◌, ap, arith}
use Rattle.pg_open.specs.declared.choice.TlsChoice.TheVariants as choice
use Rattle.pg_open.specs.Choosing.{known}
use Rattle.pg_open.proofs.TlsSteps.{begun-first, chose-first, on-pending, tls-left}
use Rattle.pg_open.proofs.stages.ConnectTls.begin.Goals as goal

pub invariant_of-ask : goal.invariant_of-ask
invariant_of-ask g c = record {
  small = omega (arith, c.in-Ok.ensures.limit, c.min-limit.ensures);
  within = omega (arith, (c.in-Ok.ensures.fresh (g.L.Link.view c.args.link)).count);
}

pub returns-in-Raw-clause-answer : goal.returns-in-Raw-clause-answer
returns-in-Raw-clause-answer g c none =
    chose-first (known g.L.Link.view g.T.TlsConnect.connects g.T.TlsConnect.begins g.T.Future.TlsHandshake.polled) c.args.self.now.settings c.args.link c.args.tls
    c.can_connect.result c.args.self.now.asked choice.Raw c.can_connect.ensures c.in-Raw.ensures none

pub returns-in-Shakes-clause-answer : goal.returns-in-Shakes-clause-answer
returns-in-Shakes-clause-answer g c none =
    c.start.ensures.answer c.args.link
    (chose-first (known g.L.Link.view g.T.TlsConnect.connects g.T.TlsConnect.begins g.T.Future.TlsHandshake.polled) c.args.self.now.settings c.args.link c.args.tls
    c.can_connect.result c.args.self.now.asked choice.Shakes c.can_connect.ensures c.in-Shakes.ensures none)

pub returns-in-Shakes-clause-pending : goal.returns-in-Shakes-clause-pending
returns-in-Shakes-clause-pending g c =
    on-pending c.start.result (begun-first (known g.L.Link.view g.T.TlsConnect.connects g.T.TlsConnect.begins g.T.Future.TlsHandshake.polled)
    c.start.new.self.moved c.args.link c.args.tls c.start.new.self.stage) c.start.ensures.pending

pub returns-in-Fails-clause-answer : goal.returns-in-Fails-clause-answer
returns-in-Fails-clause-answer g c none =
    tls-left (known g.L.Link.view g.T.TlsConnect.connects g.T.TlsConnect.begins g.T.Future.TlsHandshake.polled) c.args.self.now.settings c.args.link c.args.tls
    c.args.link c.leave.new.self.asked c.in-Fails.cause c.leave.new.self.stage c.leave.result
    (chose-first (known g.L.Link.view g.T.TlsConnect.connects g.T.TlsConnect.begins g.T.Future.TlsHandshake.polled) c.args.self.now.settings c.args.link c.args.tls
    c.can_connect.result c.leave.new.self.asked (choice.Fails c.in-Fails.cause) c.can_connect.ensures c.in-Fails.ensures (ap (λ s. s.asked) c.leave.ensures.left ∙ none))
    (ap (λ s. s.stage) c.leave.ensures.left) c.leave.ensures.answer
