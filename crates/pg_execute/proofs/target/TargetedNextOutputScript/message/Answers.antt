use Rattle.std.proofs.Common.{◌≡◌}
use Rattle.pg_query.specs.Dialogue.{Dialogue, feed_one}
use Rattle.pg_query.specs.Scripts.{GoesOn}
use Rattle.pg_execute.specs.declared.target.Targeted.TheVariants.{Prepares}
use Rattle.pg_execute.specs.Targets.{targeted_dialogue, targeted_refuses, targeted_waits}
use Rattle.pg_execute.proofs.Targets.{prepares-message, runs-message, runs-there}
use Rattle.pg_execute.proofs.target.TargetedNextOutputScript.message.Goals as goal

pub returns-in-Runs-clause-goes_on : goal.returns-in-Runs-clause-goes_on
returns-in-Runs-clause-goes_on g c raw means = runs-message g.A.Script.dialogue g.A.Script.refuses g.A.Script.waits g.G.Go.to g.G.Next.Script.dialogue g.G.Next.Script.refuses g.G.Next.Script.waits c.args.self.now c.in-Runs.runs c.in-Runs.is (feed_one raw) c.message.result c.message.new.self (c.message.ensures.goes_on raw means)

pub returns-in-Runs-clause-stops : goal.returns-in-Runs-clause-stops
returns-in-Runs-clause-stops g c raw means = runs-there g.A.Script.dialogue g.A.Script.refuses g.A.Script.waits g.G.Go.to g.G.Next.Script.dialogue g.G.Next.Script.refuses g.G.Next.Script.waits c.args.self.now c.in-Runs.runs c.in-Runs.is (c.message.ensures.stops raw means)

pub returns-else-is_err-clause-goes_on : goal.returns-else-is_err-clause-goes_on
returns-else-is_err-clause-goes_on g c raw means h =
    let e : c.args.self.now ≡ Prepares c.in-Prepares.script c.in-Prepares.closing c.in-Prepares.go = search in
    prepares-message g.A.Script.dialogue g.A.Script.refuses g.A.Script.waits g.G.Go.to g.G.Next.Script.dialogue g.G.Next.Script.refuses g.G.Next.Script.waits c.args.self.now c.in-Prepares.script c.in-Prepares.closing c.in-Prepares.go e raw h
    c.in_ok-want-in-Prepares.want c.message-in-Prepares.new.self (c.in_ok-want-in-Prepares.ensures.goes_on raw means)
    (λ (d : Dialogue _). GoesOn (targeted_dialogue g.A.Script.dialogue g.G.Go.to g.G.Next.Script.dialogue) (targeted_refuses g.A.Script.refuses g.G.Go.to g.G.Next.Script.refuses) (targeted_waits g.A.Script.dialogue g.A.Script.waits g.G.Go.to g.G.Next.Script.dialogue g.G.Next.Script.waits) d c.in_ok-want-in-Prepares-2.want c.prepared.new.self) c.in_ok-want-in-Prepares-2.ensures.goes_on
