use Rattle.std.proofs.Common.{◌+◌, ◌^◌}
use Rattle.pg_execute.specs.Parameters.{params}
use Rattle.pg_execute.proofs.Typed.{asked-at}
use Rattle.pg_execute.proofs.PassingOn.{falls-within}
use Rattle.pg_execute.proofs.TypedQueries.{goes-at}
use Rattle.pg_execute.proofs.query_typed.QueryTyped+F+F+Search+P.asks.Goals as goal

pub returns-clause-goes_on : goal.returns-clause-goes_on
returns-clause-goes_on g c =
    goes-at g.F.Finder.finds g.F.Search.Script.dialogue g.F.Search.Script.refuses g.F.Search.Script.waits (λ p. params (g.P.Params.count p) (g.P.Params.gives_at p)) _ _ (asked-at (g.F.Finder.finds c.args.finder) c.args.how_many c.args.request _ c.ask-asks.ensures.dialogue)
    c.headed.result c.headed.new.self (c.headed.ensures.goes_on _ c.in_ok-want.ensures.goes_on)

pub returns-clause-falls : goal.returns-clause-falls
returns-clause-falls g c = falls-within c.headed.result _ 2 (2 ^ 64 + g.F.Finder.most c.args.finder) _ c.ask-asks.ensures.steps (c.headed.ensures.falls _ c.in_ok-want.ensures.falls)
