use Rattle.std.proofs.Common.{◌≡◌, sym, ◌∙◌}
use Rattle.pg_execute.specs.Parameters.{params}
use Rattle.pg_execute.proofs.TypedQueries.{begun-at}
use Rattle.pg_execute.proofs.query_typed.QueryTyped+F+F+Search+P.begin.Goals as goal

pub returns-in_ok-request-in-Some-clause-goes_on : goal.returns-in_ok-request-in-Some-clause-goes_on
returns-in_ok-request-in-Some-clause-goes_on g c =
    begun-at g.F.Finder.finds g.F.Search.Script.dialogue g.F.Search.Script.refuses g.F.Search.Script.waits (λ p. params (g.P.Params.count p) (g.P.Params.gives_at p)) c.args.self.now c.replace.result c.replace.ensures.value (sym c.into_request.ensures ∙ c.in-Some.is) _ c.in_ok-request-in-Some.ensures c.asks.result c.asks.new.self c.asks.ensures.goes_on
