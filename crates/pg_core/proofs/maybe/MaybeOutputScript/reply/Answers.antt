use Rattle.std.proofs.Common.{◌≡◌}
use Rattle.pg_query.specs.Scripts.{heard}
use Rattle.pg_core.proofs.Mays.{goes-reply, reply-falls}
use Rattle.pg_core.proofs.maybe.MaybeOutputScript.reply.Goals as goal

pub returns-in-Goes-clause-goes_on : goal.returns-in-Goes-clause-goes_on
returns-in-Goes-clause-goes_on g c =
    goes-reply g.B.Script.dialogue g.B.Script.refuses g.B.Script.waits c.args.self.now c.in-Goes.script c.in-Goes.is (heard c.args.reply)
    c.reply.result c.reply.new.self c.reply.ensures.goes_on

pub returns-in-Goes-clause-falls : goal.returns-in-Goes-clause-falls
returns-in-Goes-clause-falls g c =
    reply-falls g.B.Script.dialogue g.B.Script.refuses g.B.Script.waits g.B.Script.steps c.args.self.now c.in-Goes.script c.in-Goes.is
    c.reply.result c.reply.new.self c.reply.ensures.falls
