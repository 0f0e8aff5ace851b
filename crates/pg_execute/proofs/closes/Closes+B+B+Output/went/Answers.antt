use Rattle.std.proofs.Common.{subst}
use Rattle.pg_query.specs.Dialogue.{Dialogue}
use Rattle.pg_query.specs.Scripts.{GoesOn, Falls}
use Rattle.pg_query.specs.declared.script.Want.{Want}
use Rattle.pg_execute.specs.Closings.{closes_dialogue, closes_refuses, closes_waits}
use Rattle.pg_execute.proofs.ClosedBehind.{closes-acts, closes-answers, closes-reads, steps-fall}
use Rattle.pg_execute.proofs.closes.Closes+B+B+Output.went.Goals as goal

pub returns-in-Answer-clause-goes_on : goal.returns-in-Answer-clause-goes_on
returns-in-Answer-clause-goes_on g c d none h =
    subst (λ (x : Dialogue _). GoesOn (closes_dialogue g.B.Script.dialogue) (closes_refuses g.B.Script.refuses) (closes_waits g.B.Script.dialogue g.B.Script.waits) x c.answers.result c.answers.new.self)
    (closes-answers g.B.Script.dialogue g.B.Script.refuses g.B.Script.waits g.B.Script.steps c.args.self.now d c.in-Answer.answer c.args.self.now.body (subst (λ (w : Want _). GoesOn g.B.Script.dialogue g.B.Script.refuses g.B.Script.waits d w c.args.self.now.body) c.in-Answer.is h))
    c.answers.ensures.goes_on

pub returns-in_ok-action-in-Act-clause-goes_on : goal.returns-in_ok-action-in-Act-clause-goes_on
returns-in_ok-action-in-Act-clause-goes_on g c d none h =
    closes-acts g.B.Script.dialogue g.B.Script.refuses g.B.Script.waits g.B.Script.steps c.args.self.now none d c.in-Act.action c.in_ok-action-in-Act.action c.in_ok-action-in-Act.ensures
    (subst (λ (w : Want _). GoesOn g.B.Script.dialogue g.B.Script.refuses g.B.Script.waits d w c.args.self.now.body) c.in-Act.is h)

pub returns-in_ok-action-in-Act-clause-falls : goal.returns-in_ok-action-in-Act-clause-falls
returns-in_ok-action-in-Act-clause-falls g c n h =
    steps-fall g.B.Script.dialogue g.B.Script.refuses g.B.Script.waits g.B.Script.steps c.args.self.now.answer (g.B.Script.steps c.args.self.now.body) n
    (subst (λ (w : Want _). Falls w n (g.B.Script.steps c.args.self.now.body)) c.in-Act.is h)

pub returns-in-Read-clause-goes_on : goal.returns-in-Read-clause-goes_on
returns-in-Read-clause-goes_on g c d none h =
    closes-reads g.B.Script.dialogue g.B.Script.refuses g.B.Script.waits g.B.Script.steps c.args.self.now none d
    (subst (λ (w : Want _). GoesOn g.B.Script.dialogue g.B.Script.refuses g.B.Script.waits d w c.args.self.now.body) c.in-Read.is h)
