use Rattle.pg_execute.specs.Parameters.{params}
use Rattle.pg_execute.proofs.TypedExecutes.{asks-message, asks-there}
use Rattle.pg_execute.proofs.execute_typed.ExecuteTypedScript.message.Goals as goal

pub returns-in-Asks-clause-goes_on : goal.returns-in-Asks-clause-goes_on
returns-in-Asks-clause-goes_on g c raw means =
    asks-message (λ p. params (g.P.Params.count p) (g.P.Params.gives_at p)) c.args.self.now c.in-Asks.asks c.in-Asks.is raw c.message.result c.message.new.self (c.message.ensures.goes_on raw means)

pub returns-in-Asks-clause-stops : goal.returns-in-Asks-clause-stops
returns-in-Asks-clause-stops g c raw means =
    asks-there (λ p. params (g.P.Params.count p) (g.P.Params.gives_at p)) c.args.self.now c.in-Asks.asks c.in-Asks.is (c.message.ensures.stops raw means)
