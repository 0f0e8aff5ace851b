use Rattle.std.proofs.Common.{◌≡◌}
use Rattle.pg_query.specs.Dialogue.{Dialogue}
use Rattle.pg_query.specs.Scripts.{GoesOn}
use Rattle.pg_core.specs.declared.then.Then.TheVariants.{First, Second}
use Rattle.pg_core.specs.Thens.{then_dialogue, then_refuses, then_waits}
use Rattle.pg_core.proofs.Following.{first-message, second-message, second-waits}
use Rattle.pg_core.proofs.then.ThenNextScript.message.Goals as goal

pub returns-else-is_err-clause-goes_on : goal.returns-else-is_err-clause-goes_on
returns-else-is_err-clause-goes_on g c raw means h =
    let e : c.args.self.now ≡ First c.in-First.first c.in-First.follow = search in
    first-message g.A.Script.dialogue g.A.Script.refuses g.A.Script.waits g.K.Follow.extra g.K.Follow.goes g.K.Next.Script.dialogue g.K.Next.Script.refuses g.K.Next.Script.waits c.args.self.now c.in-First.first c.in-First.follow e raw h
    c.in_ok-want-in-First.want c.message.new.self (c.in_ok-want-in-First.ensures.goes_on raw means) (λ (d : Dialogue g.row.K-Next-Output.Denot). GoesOn (then_dialogue g.A.Script.dialogue g.K.Follow.extra g.K.Follow.goes g.K.Next.Script.dialogue) (then_refuses g.A.Script.refuses g.K.Follow.extra g.K.Follow.goes g.K.Next.Script.refuses) (then_waits g.A.Script.dialogue g.A.Script.waits g.K.Follow.extra g.K.Follow.goes g.K.Next.Script.dialogue g.K.Next.Script.waits) d c.in_ok-want-in-First-2.want c.went.new.self) c.in_ok-want-in-First-2.ensures.goes_on

pub returns-in_ok-want-in-Second-clause-goes_on : goal.returns-in_ok-want-in-Second-clause-goes_on
returns-in_ok-want-in-Second-clause-goes_on g c raw means h =
    let e : c.args.self.now ≡ Second c.in-Second.second = search in
    second-message g.A.Script.dialogue g.A.Script.refuses g.A.Script.waits g.K.Follow.extra g.K.Follow.goes g.K.Next.Script.dialogue g.K.Next.Script.refuses g.K.Next.Script.waits c.args.self.now c.in-Second.second e raw h
    c.in_ok-want-in-Second.want c.message-in-Second.new.self (c.in_ok-want-in-Second.ensures.goes_on raw means)

pub returns-in_ok-want-in-Second-clause-stops : goal.returns-in_ok-want-in-Second-clause-stops
returns-in_ok-want-in-Second-clause-stops g c raw means h =
    let e : c.args.self.now ≡ Second c.in-Second.second = search in
    c.in_ok-want-in-Second.ensures.stops raw means (second-waits g.A.Script.dialogue g.A.Script.refuses g.A.Script.waits g.K.Follow.extra g.K.Follow.goes g.K.Next.Script.dialogue g.K.Next.Script.refuses g.K.Next.Script.waits c.args.self.now c.in-Second.second e h)
