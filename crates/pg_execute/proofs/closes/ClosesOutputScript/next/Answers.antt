use Rattle.std.proofs.Common.{◌≡◌, ◌∙◌, None, IfOk, sym, subst}
use Rattle.pg_query.specs.Dialogue.{Dialogue}
use Rattle.pg_query.specs.Scripts.{GoesOn}
use Rattle.pg_execute.specs.Closings.{closes_dialogue, closes_refuses, closes_waits}
use Rattle.pg_execute.proofs.ClosedBehind.{stands}
use Rattle.pg_execute.proofs.closes.ClosesOutputScript.next.Goals as goal

pub returns-in_ok-want-in-None-clause-goes_on : goal.returns-in_ok-want-in-None-clause-goes_on
returns-in_ok-want-in-None-clause-goes_on g c =
    let none : c.args.self.now.answer ≡ None = sym c.take.ensures.value ∙ c.in-None.is in
    subst (λ (d : Dialogue _). IfOk c.went.result (λ w. GoesOn (closes_dialogue g.B.Script.dialogue) (closes_refuses g.B.Script.refuses) (closes_waits g.B.Script.dialogue g.B.Script.waits) d w c.went.new.self)) (stands g.B.Script.dialogue g.B.Script.refuses g.B.Script.waits g.B.Script.steps c.args.self.now none)
    (c.went.ensures.goes_on (g.B.Script.dialogue c.args.self.now.body) c.take.ensures.after c.in_ok-want-in-None.ensures.goes_on)
