use Rattle.std.proofs.Common.{◌≡◌, IfOk, sym, subst}
use Rattle.pg_query.specs.Scripts.{GoesOn, Falls}
use Rattle.pg_core.specs.declared.then.Then.{Then}
use Rattle.pg_core.specs.declared.then.Then.TheVariants.{First}
use Rattle.pg_core.specs.Thens.{then_dialogue, then_refuses, then_waits, then_steps}
use Rattle.pg_core.proofs.then.ThenNextScript.refused.Goals as goal

pub returns-in_ok-want-in-First-clause-goes_on : goal.returns-in_ok-want-in-First-clause-goes_on
returns-in_ok-want-in-First-clause-goes_on g c =
    let e : c.args.self.now ≡ First c.in-First.first c.in-First.follow = search in
    subst (λ (x : Then g.row.A.Denot g.row.K.Denot g.row.K-Next.Denot). IfOk c.went.result (λ want. GoesOn (then_dialogue g.A.Script.dialogue g.K.Follow.extra g.K.Follow.goes g.K.Next.Script.dialogue) (then_refuses g.A.Script.refuses g.K.Follow.extra g.K.Follow.goes g.K.Next.Script.refuses) (then_waits g.A.Script.dialogue g.A.Script.waits g.K.Follow.extra g.K.Follow.goes g.K.Next.Script.dialogue g.K.Next.Script.waits) ((then_refuses g.A.Script.refuses g.K.Follow.extra g.K.Follow.goes g.K.Next.Script.refuses) x c.args.error) want c.went.new.self)) (sym e)
    (c.went.ensures.goes_on (g.A.Script.refuses c.in-First.first c.args.error) c.in_ok-want-in-First.ensures.goes_on)

pub returns-in_ok-want-in-First-clause-falls : goal.returns-in_ok-want-in-First-clause-falls
returns-in_ok-want-in-First-clause-falls g c =
    let e : c.args.self.now ≡ First c.in-First.first c.in-First.follow = search in
    subst (λ (x : Then g.row.A.Denot g.row.K.Denot g.row.K-Next.Denot). IfOk c.went.result (λ want. Falls want ((then_steps g.A.Script.steps g.K.Follow.most g.K.Next.Script.steps) x) ((then_steps g.A.Script.steps g.K.Follow.most g.K.Next.Script.steps) c.went.new.self))) (sym e)
    (c.went.ensures.falls (g.A.Script.steps c.in-First.first) c.in_ok-want-in-First.ensures.falls)
