use Rattle.std.proofs.Common.{map, refl}
use Rattle.pg_execute.specs.Parameters.{params}
use Rattle.pg_execute.proofs.Typed.{found-at}
use Rattle.pg_execute.proofs.PassingOn.{falls-in}
use Rattle.pg_execute.proofs.TypedQueries.{goes-at}
use Rattle.pg_execute.proofs.query_typed.QueryTyped+F+F+Search+P.finds.Goals as goal

pub returns-clause-goes_on : goal.returns-clause-goes_on
returns-clause-goes_on g c =
    goes-at g.F.Finder.finds g.F.Search.Script.dialogue g.F.Search.Script.refuses g.F.Search.Script.waits (λ p. params (g.P.Params.count p) (g.P.Params.gives_at p)) _ _
    (found-at (g.F.Finder.finds c.args.finder) c.args.columns c.args.told (map (λ f. f.type_oid) c.args.columns) _ refl (rw c.as_slice.ensures at c.in_ok-search.ensures.finds))
    c.found.result c.found.new.self (c.found.ensures.goes_on _ c.in_ok-want.ensures.goes_on)

pub returns-clause-falls : goal.returns-clause-falls
returns-clause-falls g c = falls-in c.found.result _ (g.F.Finder.most c.args.finder) _ c.in_ok-search.ensures.most (c.found.ensures.falls _ c.in_ok-want.ensures.falls)
