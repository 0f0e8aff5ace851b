use Rattle.std.proofs.Common.{◌≡◌}
use Rattle.pg_query.specs.Dialogue.{feed_one}
use Rattle.pg_core.proofs.Mays.{goes-message, message-there}
use Rattle.pg_core.proofs.maybe.MaybeOutputScript.message.Goals as goal

pub returns-in-Goes-clause-goes_on : goal.returns-in-Goes-clause-goes_on
returns-in-Goes-clause-goes_on g c raw means =
    goes-message g.B.Script.dialogue g.B.Script.refuses g.B.Script.waits c.args.self.now c.in-Goes.script c.in-Goes.is (feed_one raw)
    c.message.result c.message.new.self (c.message.ensures.goes_on raw means)

pub returns-in-Goes-clause-stops : goal.returns-in-Goes-clause-stops
returns-in-Goes-clause-stops g c raw means =
    message-there g.B.Script.dialogue g.B.Script.refuses g.B.Script.waits c.args.self.now c.in-Goes.script c.in-Goes.is (c.message.ensures.stops raw means)
