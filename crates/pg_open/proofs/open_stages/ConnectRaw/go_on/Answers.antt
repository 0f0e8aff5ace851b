use Rattle.std.proofs.Common.{ap}
use Rattle.pg_open.specs.Opening.{login_over, outside, seen}
use Rattle.pg_open.proofs.OpenSteps.{done-of, failed-of, finishes-now, opens, start-fails}
use Rattle.pg_open.proofs.open_stages.ConnectRaw.go_on.Goals as goal

pub finish-requires-clause-within : goal.finish-requires-clause-within
finish-requires-clause-within g c =
    let o = (outside g.L.Link.view g.T.TlsConnect.connects g.T.TlsConnect.begins g.T.Future.TlsHandshake.polled g.T.Future.Stream.Link.view g.T.Future.Stream.TlsStream.binding) in
    let from = c.requires.going.2 in
    let l = login_over o c.args.self.now.settings from in
    (done-of l c.args.starting.asked (seen o from) (seen o c.poll.new.link) c.poll.new.self c.in-Ready-Ok.field-0 tt
    (c.in-Ready-Ok.ensures.answer l c.args.starting.asked (seen o from) c.requires.going.3.opening) c.in-Ready-Ok.field-0-is).within

pub returns-in-Ready-Ok-clause-answer : goal.returns-in-Ready-Ok-clause-answer
returns-in-Ready-Ok-clause-answer g c link tls from st =
    let o = (outside g.L.Link.view g.T.TlsConnect.connects g.T.TlsConnect.begins g.T.Future.TlsHandshake.polled g.T.Future.Stream.Link.view g.T.Future.Stream.TlsStream.binding) in
    let l = login_over o c.args.self.now.settings from in
    opens o c.args.self.now.settings link tls from c.args.starting.link c.poll.new.link c.args.starting.asked c.args.self.now.moved c.finish.new.self.moved c.args.starting.startup c.poll.new.self c.finish.new.self.stage c.finish.result st
    (done-of l c.args.starting.asked (seen o from) (seen o c.poll.new.link) c.poll.new.self c.in-Ready-Ok.field-0 tt
    (c.in-Ready-Ok.ensures.answer l c.args.starting.asked (seen o from) st.opening) c.in-Ready-Ok.field-0-is)
    c.in-Ready-Ok.ensures.same.limit c.finish.ensures.answer

pub returns-in-Ready-Err-clause-answer : goal.returns-in-Ready-Err-clause-answer
returns-in-Ready-Err-clause-answer g c link tls from st =
    let o = (outside g.L.Link.view g.T.TlsConnect.connects g.T.TlsConnect.begins g.T.Future.TlsHandshake.polled g.T.Future.Stream.Link.view g.T.Future.Stream.TlsStream.binding) in
    let l = login_over o c.args.self.now.settings from in
    start-fails o c.args.self.now.settings link tls from c.args.starting.link c.poll.new.link c.args.starting.asked _ _ c.args.starting.startup c.poll.new.self c.in-Ready-Err.error
    c.leave.new.self.stage c.leave.result st
    (failed-of l c.args.starting.asked (seen o from) (seen o c.poll.new.link) c.poll.new.self c.in-Ready-Err.field-0 c.in-Ready-Err.error
    (c.in-Ready-Err.ensures.answer l c.args.starting.asked (seen o from) st.opening) c.in-Ready-Err.field-0-is)
    c.in-Ready-Err.ensures.same.limit (ap (λ s. s.stage) c.leave.ensures.left) c.leave.ensures.answer

pub returns-in-Ready-Ok-clause-nearer : goal.returns-in-Ready-Ok-clause-nearer
returns-in-Ready-Ok-clause-nearer g c =
    finishes-now _ c.args.self.now.settings c.poll.new.self c.args.starting.asked c.poll.new.link c.finish.new.self.stage c.finish.result c.finish.ensures.answer
