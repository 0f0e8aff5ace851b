use Rattle.std.proofs.Common.{ℕ, IfOk, subst}
use Rattle.pg_query.specs.Dialogue.{Dialogue}
use Rattle.pg_query.specs.Scripts.{GoesOn, Falls}
use Rattle.pg_execute.specs.Closings.{closes_dialogue, closes_refuses, closes_steps, closes_waits}
use Rattle.pg_execute.proofs.ClosedBehind.{closes-hears, closes-reply, steps-there}
use Rattle.pg_execute.proofs.closes.ClosesOutputScript.reply.Goals as goal

pub returns-clause-goes_on : goal.returns-clause-goes_on
returns-clause-goes_on g c h =
    closes-reply g.B.Script.dialogue g.B.Script.refuses g.B.Script.waits g.B.Script.steps c.args.self.now c.args.reply h c.in_ok-want.want c.reply.new.self c.in_ok-want.ensures.goes_on
    (λ (d : Dialogue _). IfOk c.went.result (λ w. GoesOn (closes_dialogue g.B.Script.dialogue) (closes_refuses g.B.Script.refuses) (closes_waits g.B.Script.dialogue g.B.Script.waits) d w c.went.new.self)) c.went.ensures.goes_on

pub returns-clause-falls : goal.returns-clause-falls
returns-clause-falls g c h =
    let hears = closes-hears g.B.Script.dialogue g.B.Script.refuses g.B.Script.waits g.B.Script.steps c.args.self.now h in
    subst (λ (n : ℕ). IfOk c.went.result (λ w. Falls w n (closes_steps g.B.Script.steps c.went.new.self))) (steps-there g.B.Script.dialogue g.B.Script.refuses g.B.Script.waits g.B.Script.steps c.args.self.now hears.0)
    (c.went.ensures.falls (g.B.Script.steps c.args.self.now.body) (c.in_ok-want.ensures.falls hears.1))
