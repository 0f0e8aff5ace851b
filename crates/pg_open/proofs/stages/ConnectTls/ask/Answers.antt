use Rattle.std.proofs.Common.{ap, subst, ℕ, Result}
use Rattle.futures.specs.declared.task.Poll.TheVariants.{Ready}
use Rattle.pg_types.specs.declared.error.Error.{Error}
use Rattle.pg_startup.specs.SslRequests.{AskAnswers}
use Rattle.pg_open.specs.Choosing.{known}
use Rattle.pg_open.proofs.TlsSteps.{ask-done, ask-left}
use Rattle.pg_open.proofs.stages.ConnectTls.ask.Goals as goal

pub returns-in-Ready-Err-clause-answer : goal.returns-in-Ready-Err-clause-answer
returns-in-Ready-Err-clause-answer g c link tls o =
    ask-left (known g.L.Link.view g.T.TlsConnect.connects g.T.TlsConnect.begins g.T.Future.TlsHandshake.polled) c.args.self.now.settings link tls
    c.args.question c.poll.new.link c.poll.new.self c.args.self.now.asked c.leave.new.self.asked c.in-Ready-Err.error c.leave.new.self.stage c.leave.result
    o c.in-Ready-Err.ensures.same
    (subst (λ (x : Result ℕ Error). AskAnswers (g.L.Link.view link) (g.L.Link.view c.poll.new.link) c.poll.new.self (Ready x)) c.in-Ready-Err.field-0-is
    (c.in-Ready-Err.ensures.answer (g.L.Link.view link) o.request))
    (ap (λ s. s.stage) c.leave.ensures.left) c.leave.ensures.answer

pub returns-in-Ready-Ok-clause-answer : goal.returns-in-Ready-Ok-clause-answer
returns-in-Ready-Ok-clause-answer g c link tls o =
    ask-done (known g.L.Link.view g.T.TlsConnect.connects g.T.TlsConnect.begins g.T.Future.TlsHandshake.polled) c.args.self.now.settings link tls
    c.args.question c.poll.new.link c.poll.new.self c.args.self.now.asked c.decide.new.self.asked c.in-Ready-Ok.byte c.decide.new.self.stage c.decide.result
    o c.in-Ready-Ok.ensures.same
    (subst (λ (x : Result ℕ Error). AskAnswers (g.L.Link.view link) (g.L.Link.view c.poll.new.link) c.poll.new.self (Ready x)) c.in-Ready-Ok.field-0-is
    (c.in-Ready-Ok.ensures.answer (g.L.Link.view link) o.request))
    (c.decide.ensures.answer link c.poll.new.self)
