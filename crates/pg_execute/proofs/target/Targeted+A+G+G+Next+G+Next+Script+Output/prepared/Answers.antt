use Rattle.std.proofs.Common.{subst}
use Rattle.pg_query.specs.Scripts.{GoesOn}
use Rattle.pg_query.specs.declared.script.Want.{Want}
use Rattle.pg_execute.proofs.Targets.{prepares-act}
use Rattle.pg_execute.proofs.target.Targeted+A+G+G+Next+G+Next+Script+Output.prepared.Goals as goal

pub returns-in-Act-clause-goes_on : goal.returns-in-Act-clause-goes_on
returns-in-Act-clause-goes_on g c d h =
    prepares-act g.A.Script.dialogue g.A.Script.refuses g.A.Script.waits g.G.Go.to g.G.Next.Script.dialogue g.G.Next.Script.refuses g.G.Next.Script.waits c.args.script c.args.closing c.args.go d c.in-Act.action
    (subst (λ (w : Want _). GoesOn g.A.Script.dialogue g.A.Script.refuses g.A.Script.waits d w c.args.script) c.in-Act.is h)
