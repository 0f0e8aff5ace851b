use Rattle.std.proofs.Common.{◌≡◌, ◌∙◌, IfOk, sym, ap, subst}
use Rattle.pg_query.specs.Dialogue.{Dialogue}
use Rattle.pg_query.specs.Scripts.{GoesOn, Falls}
use Rattle.pg_execute.specs.declared.target.Targeted.{Targeted}
use Rattle.pg_execute.specs.declared.target.Targeted.TheVariants.{Borrowed, Owned, Prepares}
use Rattle.pg_execute.specs.Targets.{targeted_dialogue, targeted_refuses, targeted_steps, targeted_waits}
use Rattle.pg_execute.proofs.ClosedBehind.{closed-nothing}
use Rattle.pg_execute.proofs.Targets.{runs-next}
use Rattle.pg_execute.proofs.target.TargetedNextOutputScript.next.Goals as goal

pub returns-in-Runs-clause-goes_on : goal.returns-in-Runs-clause-goes_on
returns-in-Runs-clause-goes_on g c = runs-next g.A.Script.dialogue g.A.Script.refuses g.A.Script.waits g.G.Go.to g.G.Next.Script.dialogue g.G.Next.Script.refuses g.G.Next.Script.waits c.args.self.now c.in-Runs.runs c.in-Runs.is c.next.result c.next.new.self c.next.ensures.goes_on

pub returns-in_ok-statement-in-Borrowed-clause-goes_on : goal.returns-in_ok-statement-in-Borrowed-clause-goes_on
returns-in_ok-statement-in-Borrowed-clause-goes_on g c =
    let e : c.args.self.now ≡ Borrowed c.in-Borrowed.statement c.in-Borrowed.go = search in
    subst (λ (d : Dialogue _). IfOk c.begins.result (λ w. GoesOn (targeted_dialogue g.A.Script.dialogue g.G.Go.to g.G.Next.Script.dialogue) (targeted_refuses g.A.Script.refuses g.G.Go.to g.G.Next.Script.refuses) (targeted_waits g.A.Script.dialogue g.A.Script.waits g.G.Go.to g.G.Next.Script.dialogue g.G.Next.Script.waits) d w c.begins.new.self))
    (closed-nothing (g.G.Go.to c.in-Borrowed.go c.in_ok-statement-in-Borrowed.statement) ∙ ap (g.G.Go.to c.in-Borrowed.go) c.in_ok-statement-in-Borrowed.ensures ∙ sym (ap (λ (t : Targeted _ _ _ _). (targeted_dialogue g.A.Script.dialogue g.G.Go.to g.G.Next.Script.dialogue) t) e))
    c.begins.ensures.goes_on

pub returns-in-Owned-clause-goes_on : goal.returns-in-Owned-clause-goes_on
returns-in-Owned-clause-goes_on g c =
    let e : c.args.self.now ≡ Owned c.in-Owned.statement c.in-Owned.go = search in
    subst (λ (d : Dialogue _). IfOk c.begins-in-Owned.result (λ w. GoesOn (targeted_dialogue g.A.Script.dialogue g.G.Go.to g.G.Next.Script.dialogue) (targeted_refuses g.A.Script.refuses g.G.Go.to g.G.Next.Script.refuses) (targeted_waits g.A.Script.dialogue g.A.Script.waits g.G.Go.to g.G.Next.Script.dialogue g.G.Next.Script.waits) d w c.begins-in-Owned.new.self))
    (closed-nothing (g.G.Go.to c.in-Owned.go c.in-Owned.statement) ∙ sym (ap (λ (t : Targeted _ _ _ _). (targeted_dialogue g.A.Script.dialogue g.G.Go.to g.G.Next.Script.dialogue) t) e))
    c.begins-in-Owned.ensures.goes_on

pub returns-in_ok-want-in-Prepares-clause-goes_on : goal.returns-in_ok-want-in-Prepares-clause-goes_on
returns-in_ok-want-in-Prepares-clause-goes_on g c =
    let e : c.args.self.now ≡ Prepares c.in-Prepares.script c.in-Prepares.closing c.in-Prepares.go = search in
    subst (λ (t : Targeted _ _ _ _). IfOk c.prepared.result (λ w. GoesOn (targeted_dialogue g.A.Script.dialogue g.G.Go.to g.G.Next.Script.dialogue) (targeted_refuses g.A.Script.refuses g.G.Go.to g.G.Next.Script.refuses) (targeted_waits g.A.Script.dialogue g.A.Script.waits g.G.Go.to g.G.Next.Script.dialogue g.G.Next.Script.waits) ((targeted_dialogue g.A.Script.dialogue g.G.Go.to g.G.Next.Script.dialogue) t) w c.prepared.new.self)) (sym e)
    (c.prepared.ensures.goes_on (g.A.Script.dialogue c.in-Prepares.script) c.in_ok-want-in-Prepares.ensures.goes_on)

pub returns-in_ok-want-in-Prepares-clause-falls : goal.returns-in_ok-want-in-Prepares-clause-falls
returns-in_ok-want-in-Prepares-clause-falls g c =
    let e : c.args.self.now ≡ Prepares c.in-Prepares.script c.in-Prepares.closing c.in-Prepares.go = search in
    subst (λ (t : Targeted _ _ _ _). IfOk c.prepared.result (λ w. Falls w ((targeted_steps g.A.Script.steps g.G.Go.most g.G.Next.Script.steps) t) ((targeted_steps g.A.Script.steps g.G.Go.most g.G.Next.Script.steps) c.prepared.new.self))) (sym e)
    (c.prepared.ensures.falls (g.A.Script.steps c.in-Prepares.script) c.in_ok-want-in-Prepares.ensures.falls)
