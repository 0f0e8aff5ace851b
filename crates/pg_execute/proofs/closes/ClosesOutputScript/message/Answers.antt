use Rattle.pg_query.specs.Dialogue.{Dialogue}
use Rattle.pg_query.specs.Scripts.{GoesOn}
use Rattle.pg_execute.specs.Closings.{closes_dialogue, closes_refuses, closes_waits}
use Rattle.pg_execute.proofs.ClosedBehind.{closes-message}
use Rattle.pg_execute.proofs.closes.ClosesOutputScript.message.Goals as goal

pub returns-clause-goes_on : goal.returns-clause-goes_on
returns-clause-goes_on g c raw means h =
    closes-message g.B.Script.dialogue g.B.Script.refuses g.B.Script.waits g.B.Script.steps c.args.self.now raw h c.in_ok-want.want c.message.new.self (c.in_ok-want.ensures.goes_on raw means)
    (λ (d : Dialogue _). GoesOn (closes_dialogue g.B.Script.dialogue) (closes_refuses g.B.Script.refuses) (closes_waits g.B.Script.dialogue g.B.Script.waits) d c.in_ok-want-2.want c.went.new.self) c.in_ok-want-2.ensures.goes_on
