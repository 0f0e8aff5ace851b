use Rattle.std.proofs.Common.{◌≡◌, List, IfOk}
use Rattle.pg_query.specs.declared.desk_call.Cleanup.{Cleanup}
use Rattle.pg_execute.proofs.Targets.{prepares-left-ok, runs-left}
use Rattle.pg_execute.proofs.target.TargetedNextOutputScript.cleanup.Goals as goal

pub returns-in-Runs : goal.returns-in-Runs
returns-in-Runs g c = runs-left g.A.Script.dialogue g.A.Script.refuses g.A.Script.waits g.G.Go.to g.G.Next.Script.dialogue g.G.Next.Script.refuses g.G.Next.Script.waits (λ (l : List Cleanup). IfOk c.cleanup.result (λ left. left.items ≡ l)) c.args.self.now c.in-Runs.runs c.in-Runs.is c.cleanup.ensures

pub returns-in-Prepares : goal.returns-in-Prepares
returns-in-Prepares g c = prepares-left-ok g.A.Script.dialogue g.A.Script.refuses g.A.Script.waits g.G.Go.to g.G.Next.Script.dialogue g.G.Next.Script.refuses g.G.Next.Script.waits (λ (l : List Cleanup). IfOk c.cleanup-in-Prepares.result (λ left. left.items ≡ l)) c.args.self.now c.in-Prepares.script c.in-Prepares.field-1 c.in-Prepares.field-2 c.in-Prepares.is c.cleanup-in-Prepares.ensures
