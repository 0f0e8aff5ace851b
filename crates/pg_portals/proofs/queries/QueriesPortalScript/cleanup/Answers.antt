use Rattle.std.proofs.Common.{◌≡◌, IfOk, List}
use Rattle.pg_query.specs.declared.desk_call.Cleanup.{Cleanup}
use Rattle.pg_portals.proofs.Querying.{rows-left}
use Rattle.pg_portals.proofs.queries.QueriesPortalScript.cleanup.Goals as goal

pub returns-in-Asks : goal.returns-in-Asks
returns-in-Asks c = rows-left (λ (l : List Cleanup). IfOk c.cleanup.result (λ left. left.items ≡ l)) c.args.self.now c.in-Asks.asked c.in-Asks.is c.cleanup.ensures
