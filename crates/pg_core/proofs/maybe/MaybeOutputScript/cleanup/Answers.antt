use Rattle.std.proofs.Common.{◌≡◌, IfOk, List}
use Rattle.pg_query.specs.declared.desk_call.Cleanup.{Cleanup}
use Rattle.pg_core.proofs.Mays.{goes-left}
use Rattle.pg_core.proofs.maybe.MaybeOutputScript.cleanup.Goals as goal

pub returns-in-Goes : goal.returns-in-Goes
returns-in-Goes g c =
    goes-left g.B.Script.dialogue g.B.Script.refuses g.B.Script.waits (λ (l : List Cleanup). IfOk c.cleanup.result (λ left. left.items ≡ l)) c.args.self.now c.in-Goes.script c.in-Goes.is c.cleanup.ensures
