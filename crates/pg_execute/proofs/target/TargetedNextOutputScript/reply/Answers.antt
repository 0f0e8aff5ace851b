use Rattle.std.proofs.Common.{◌≡◌, IfOk, sym, subst}
use Rattle.pg_query.specs.Dialogue.{Dialogue}
use Rattle.pg_query.specs.Scripts.{GoesOn, Falls, heard}
use Rattle.pg_execute.specs.declared.target.Targeted.{Targeted}
use Rattle.pg_execute.specs.declared.target.Targeted.TheVariants.{Prepares}
use Rattle.pg_execute.specs.Targets.{targeted_dialogue, targeted_refuses, targeted_steps, targeted_waits}
use Rattle.pg_execute.proofs.Targets.{prepares-hears, prepares-reply, runs-fall, runs-reply}
use Rattle.pg_execute.proofs.target.TargetedNextOutputScript.reply.Goals as goal

pub returns-in-Runs-clause-goes_on : goal.returns-in-Runs-clause-goes_on
returns-in-Runs-clause-goes_on g c = runs-reply g.A.Script.dialogue g.A.Script.refuses g.A.Script.waits g.G.Go.to g.G.Next.Script.dialogue g.G.Next.Script.refuses g.G.Next.Script.waits c.args.self.now c.in-Runs.runs c.in-Runs.is (heard c.args.reply) c.reply.result c.reply.new.self c.reply.ensures.goes_on

pub returns-in-Runs-clause-falls : goal.returns-in-Runs-clause-falls
returns-in-Runs-clause-falls g c = runs-fall g.A.Script.dialogue g.A.Script.refuses g.A.Script.waits g.G.Go.to g.G.Next.Script.dialogue g.G.Next.Script.refuses g.G.Next.Script.waits g.A.Script.steps g.G.Go.most g.G.Next.Script.steps c.args.self.now c.in-Runs.runs c.in-Runs.is c.reply.result c.reply.new.self c.reply.ensures.falls

pub returns-in_ok-want-in-Prepares-clause-goes_on : goal.returns-in_ok-want-in-Prepares-clause-goes_on
returns-in_ok-want-in-Prepares-clause-goes_on g c h =
    let e : c.args.self.now ≡ Prepares c.in-Prepares.script c.in-Prepares.closing c.in-Prepares.go = search in
    prepares-reply g.A.Script.dialogue g.A.Script.refuses g.A.Script.waits g.G.Go.to g.G.Next.Script.dialogue g.G.Next.Script.refuses g.G.Next.Script.waits c.args.self.now c.in-Prepares.script c.in-Prepares.closing c.in-Prepares.go e c.args.reply h
    c.in_ok-want-in-Prepares.want c.reply-in-Prepares.new.self c.in_ok-want-in-Prepares.ensures.goes_on
    (λ (d : Dialogue _). IfOk c.prepared.result (λ w. GoesOn (targeted_dialogue g.A.Script.dialogue g.G.Go.to g.G.Next.Script.dialogue) (targeted_refuses g.A.Script.refuses g.G.Go.to g.G.Next.Script.refuses) (targeted_waits g.A.Script.dialogue g.A.Script.waits g.G.Go.to g.G.Next.Script.dialogue g.G.Next.Script.waits) d w c.prepared.new.self)) c.prepared.ensures.goes_on

pub returns-in_ok-want-in-Prepares-clause-falls : goal.returns-in_ok-want-in-Prepares-clause-falls
returns-in_ok-want-in-Prepares-clause-falls g c h =
    let e : c.args.self.now ≡ Prepares c.in-Prepares.script c.in-Prepares.closing c.in-Prepares.go = search in
    subst (λ (t : Targeted _ _ _ _). IfOk c.prepared.result (λ w. Falls w ((targeted_steps g.A.Script.steps g.G.Go.most g.G.Next.Script.steps) t) ((targeted_steps g.A.Script.steps g.G.Go.most g.G.Next.Script.steps) c.prepared.new.self))) (sym e)
    (c.prepared.ensures.falls (g.A.Script.steps c.in-Prepares.script)
    (c.in_ok-want-in-Prepares.ensures.falls (prepares-hears g.A.Script.dialogue g.A.Script.refuses g.A.Script.waits g.G.Go.to g.G.Next.Script.dialogue g.G.Next.Script.refuses g.G.Next.Script.waits c.args.self.now c.in-Prepares.script c.in-Prepares.closing c.in-Prepares.go e h)))
