use Rattle.std.proofs.Common.{◌≡◌, IfOk, sym, subst}
use Rattle.pg_query.specs.Scripts.{GoesOn, Falls}
use Rattle.pg_execute.specs.declared.target.Targeted.{Targeted}
use Rattle.pg_execute.specs.declared.target.Targeted.TheVariants.{Prepares}
use Rattle.pg_execute.specs.Targets.{targeted_dialogue, targeted_refuses, targeted_steps, targeted_waits}
use Rattle.pg_execute.proofs.Targets.{runs-refused}
use Rattle.pg_execute.proofs.target.TargetedNextOutputScript.refused.Goals as goal

pub returns-in-Runs-clause-goes_on : goal.returns-in-Runs-clause-goes_on
returns-in-Runs-clause-goes_on g c = runs-refused g.A.Script.dialogue g.A.Script.refuses g.A.Script.waits g.G.Go.to g.G.Next.Script.dialogue g.G.Next.Script.refuses g.G.Next.Script.waits c.args.self.now c.in-Runs.runs c.in-Runs.is c.args.error c.refused.result c.refused.new.self c.refused.ensures.goes_on

pub returns-in_ok-want-in-Prepares-clause-goes_on : goal.returns-in_ok-want-in-Prepares-clause-goes_on
returns-in_ok-want-in-Prepares-clause-goes_on g c =
    let e : c.args.self.now ≡ Prepares c.in-Prepares.script c.in-Prepares.closing c.in-Prepares.go = search in
    subst (λ (t : Targeted _ _ _ _). IfOk c.prepared.result (λ w. GoesOn (targeted_dialogue g.A.Script.dialogue g.G.Go.to g.G.Next.Script.dialogue) (targeted_refuses g.A.Script.refuses g.G.Go.to g.G.Next.Script.refuses) (targeted_waits g.A.Script.dialogue g.A.Script.waits g.G.Go.to g.G.Next.Script.dialogue g.G.Next.Script.waits) ((targeted_refuses g.A.Script.refuses g.G.Go.to g.G.Next.Script.refuses) t c.args.error) w c.prepared.new.self)) (sym e)
    (c.prepared.ensures.goes_on (g.A.Script.refuses c.in-Prepares.script c.args.error) c.in_ok-want-in-Prepares.ensures.goes_on)

pub returns-in_ok-want-in-Prepares-clause-falls : goal.returns-in_ok-want-in-Prepares-clause-falls
returns-in_ok-want-in-Prepares-clause-falls g c =
    let e : c.args.self.now ≡ Prepares c.in-Prepares.script c.in-Prepares.closing c.in-Prepares.go = search in
    subst (λ (t : Targeted _ _ _ _). IfOk c.prepared.result (λ w. Falls w ((targeted_steps g.A.Script.steps g.G.Go.most g.G.Next.Script.steps) t) ((targeted_steps g.A.Script.steps g.G.Go.most g.G.Next.Script.steps) c.prepared.new.self))) (sym e)
    (c.prepared.ensures.falls (g.A.Script.steps c.in-Prepares.script) c.in_ok-want-in-Prepares.ensures.falls)
