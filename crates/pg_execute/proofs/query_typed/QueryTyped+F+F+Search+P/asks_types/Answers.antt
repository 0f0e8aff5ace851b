use Rattle.std.proofs.Common.{◌^◌}
use Rattle.pg_execute.specs.Parameters.{params}
use Rattle.pg_execute.proofs.Typed.{head-at}
use Rattle.pg_execute.proofs.PassingOn.{falls-within}
use Rattle.pg_execute.proofs.TypedQueries.{goes-at}
use Rattle.pg_execute.proofs.query_typed.QueryTyped+F+F+Search+P.asks_types.Goals as goal

pub returns-clause-goes_on : goal.returns-clause-goes_on
returns-clause-goes_on g c =
    goes-at g.F.Finder.finds g.F.Search.Script.dialogue g.F.Search.Script.refuses g.F.Search.Script.waits (λ p. params (g.P.Params.count p) (g.P.Params.gives_at p)) _ _
    (head-at (g.F.Finder.finds c.args.finder) c.args.how_many c.args.columns c.in_ok-oids.oids.items _ (rw c.as_slice.ensures at c.in_ok-oids.ensures) c.new-asks.ensures.dialogue)
    c.known.result c.known.new.self (c.known.ensures.goes_on _ c.in_ok-want.ensures.goes_on)

pub returns-clause-falls : goal.returns-clause-falls
returns-clause-falls g c = falls-within c.known.result _ (2 ^ 64) (g.F.Finder.most c.args.finder) _ c.new-asks.ensures.steps (c.known.ensures.falls _ c.in_ok-want.ensures.falls)
