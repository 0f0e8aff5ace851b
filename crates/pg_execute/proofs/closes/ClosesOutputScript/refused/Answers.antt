use Rattle.std.proofs.Common.{ℕ, IfOk, subst}
use Rattle.pg_query.specs.Dialogue.{Dialogue}
use Rattle.pg_query.specs.Scripts.{GoesOn, Falls}
use Rattle.pg_execute.specs.Closings.{closes_dialogue, closes_refuses, closes_steps, closes_waits}
use Rattle.pg_execute.proofs.ClosedBehind.{refused-there, steps-there}
use Rattle.pg_execute.proofs.closes.ClosesOutputScript.refused.Goals as goal

pub returns-in_ok-want-in-None-clause-goes_on : goal.returns-in_ok-want-in-None-clause-goes_on
returns-in_ok-want-in-None-clause-goes_on g c =
    subst (λ (d : Dialogue _). IfOk c.went.result (λ w. GoesOn (closes_dialogue g.B.Script.dialogue) (closes_refuses g.B.Script.refuses) (closes_waits g.B.Script.dialogue g.B.Script.waits) d w c.went.new.self)) (refused-there g.B.Script.dialogue g.B.Script.refuses g.B.Script.waits g.B.Script.steps c.args.self.now c.args.error c.in-None.is)
    (c.went.ensures.goes_on (g.B.Script.refuses c.args.self.now.body c.args.error) c.in-None.is c.in_ok-want-in-None.ensures.goes_on)

pub returns-in_ok-want-in-None-clause-falls : goal.returns-in_ok-want-in-None-clause-falls
returns-in_ok-want-in-None-clause-falls g c =
    subst (λ (n : ℕ). IfOk c.went.result (λ w. Falls w n (closes_steps g.B.Script.steps c.went.new.self))) (steps-there g.B.Script.dialogue g.B.Script.refuses g.B.Script.waits g.B.Script.steps c.args.self.now c.in-None.is)
    (c.went.ensures.falls (g.B.Script.steps c.args.self.now.body) c.in_ok-want-in-None.ensures.falls)
