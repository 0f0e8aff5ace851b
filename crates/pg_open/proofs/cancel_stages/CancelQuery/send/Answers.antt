use Rattle.std.proofs.Common.{Bool, Ok, refl, subst}
use Rattle.pg_open.specs.Links.{view_of}
use Rattle.pg_open.specs.Cancelling.{SaidEnds}
use Rattle.pg_open.specs.Choosing.{known}
use Rattle.pg_open.proofs.CancelSteps.{goes-on, is-sent, send-fails}
use Rattle.pg_open.proofs.cancel_stages.CancelQuery.send.Goals as goal

pub returns-in-Ok-true-clause-answer : goal.returns-in-Ok-true-clause-answer
returns-in-Ok-true-clause-answer g c from tls u =
    let view = (view_of g.L.Link.view g.T.Future.Stream.Link.view) in
    is-sent (known g.L.Link.view g.T.TlsConnect.connects g.T.TlsConnect.begins g.T.Future.TlsHandshake.polled) view c.args.self.now.info from tls
    c.args.link c.send_all.new.link c.args.bytes c.send_all.new.bytes u c.in-Ok-true.ensures.said
    (subst (λ (x : Bool). SaidEnds c.args.bytes c.send_all.new.bytes (view c.args.link) (view c.send_all.new.link) (Ok x)) c.in-Ok-true.field-0-test c.in-Ok-true.ensures.end)

pub returns-in-Ok-false-clause-answer : goal.returns-in-Ok-false-clause-answer
returns-in-Ok-false-clause-answer g c from tls u =
    let view = (view_of g.L.Link.view g.T.Future.Stream.Link.view) in
    goes-on (known g.L.Link.view g.T.TlsConnect.connects g.T.TlsConnect.begins g.T.Future.TlsHandshake.polled) view c.args.self.now.info from tls
    c.args.link c.send_all.new.link c.args.bytes c.send_all.new.bytes _ u c.in-Ok-false.ensures.said
    (subst (λ (x : Bool). SaidEnds c.args.bytes c.send_all.new.bytes (view c.args.link) (view c.send_all.new.link) (Ok x)) c.in-Ok-false.field-0-test c.in-Ok-false.ensures.end) refl

pub returns-in-Err-clause-answer : goal.returns-in-Err-clause-answer
returns-in-Err-clause-answer g c from tls u =
    send-fails (known g.L.Link.view g.T.TlsConnect.connects g.T.TlsConnect.begins g.T.Future.TlsHandshake.polled) (view_of g.L.Link.view g.T.Future.Stream.Link.view)
    c.args.self.now.info from tls c.args.link c.send_all.new.link c.args.bytes c.send_all.new.bytes c.in-Err.error u c.in-Err.ensures.said c.in-Err.ensures.end
