use Rattle.std.proofs.Common.{◌≡◌, ◌∙◌, sym, subst, IfOk}
use Rattle.pg_query.specs.Scripts.{IsMessage, cleanup_of}
use Rattle.pg_core.specs.declared.then.Then.{Then}
use Rattle.pg_core.specs.Thens.{then_dialogue, then_waits}
use Rattle.pg_core.proofs.Following.{first-left}
use Rattle.pg_core.proofs.then.ThenNextScript.cleanup.Goals as goal

pub returns-in_ok-leave-in-First : goal.returns-in_ok-leave-in-First
returns-in_ok-leave-in-First g c h =
    c.in_ok-leave-in-First.ensures
    ∙ first-left g.A.Script.dialogue g.A.Script.refuses g.A.Script.waits g.K.Follow.extra g.K.Follow.goes g.K.Next.Script.dialogue g.K.Next.Script.refuses g.K.Next.Script.waits c.args.self.now c.in-First.first c.in-First.follow c.in-First.is h c.in_ok-left-in-First.left.items c.in_ok-left-in-First.ensures

pub returns-in-Second : goal.returns-in-Second
returns-in-Second g c h =
    subst (λ (x : Then g.row.A.Denot g.row.K.Denot g.row.K-Next.Denot). IfOk c.cleanup-in-Second.result (λ left. left.items ≡ cleanup_of ((then_dialogue g.A.Script.dialogue g.K.Follow.extra g.K.Follow.goes g.K.Next.Script.dialogue) x))) (sym c.in-Second.is)
    (c.cleanup-in-Second.ensures (subst (λ (x : Then g.row.A.Denot g.row.K.Denot g.row.K-Next.Denot). IsMessage ((then_waits g.A.Script.dialogue g.A.Script.waits g.K.Follow.extra g.K.Follow.goes g.K.Next.Script.dialogue g.K.Next.Script.waits) x)) c.in-Second.is h))
