use Rattle.std.proofs.Common.{◌≡◌, IfOk, List}
use Rattle.pg_query.specs.declared.desk_call.Cleanup.{Cleanup}
use Rattle.pg_execute.specs.Parameters.{params}
use Rattle.pg_execute.proofs.TypedExecutes.{asks-left}
use Rattle.pg_execute.proofs.execute_typed.ExecuteTypedScript.cleanup.Goals as goal

pub returns-in-Asks : goal.returns-in-Asks
returns-in-Asks g c =
    asks-left (λ p. params (g.P.Params.count p) (g.P.Params.gives_at p)) (λ (l : List Cleanup). IfOk c.cleanup.result (λ left. left.items ≡ l)) c.args.self.now c.in-Asks.asks c.in-Asks.is c.cleanup.ensures
