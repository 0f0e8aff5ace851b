use Rattle.std.proofs.Common.{refl}
use Rattle.pg_execute.specs.Parameters.{params}
use Rattle.pg_execute.proofs.Typed.{rest-at}
use Rattle.pg_execute.proofs.PassingOn.{falls-alone}
use Rattle.pg_execute.proofs.TypedQueries.{goes-at}
use Rattle.pg_execute.proofs.query_typed.QueryTyped+F+F+Search+P.takes.Goals as goal

pub returns-clause-goes_on : goal.returns-clause-goes_on
returns-clause-goes_on g c =
    goes-at g.F.Finder.finds g.F.Search.Script.dialogue g.F.Search.Script.refuses g.F.Search.Script.waits (λ p. params (g.P.Params.count p) (g.P.Params.gives_at p)) _ _
    (rest-at (g.F.Finder.finds c.args.finder) c.args.how_many c.args.columns _ _ refl (rw c.as_slice-count.ensures at c.new-rest.ensures))
    c.rested.result c.rested.new.self (c.rested.ensures.goes_on _ c.in_ok-want.ensures.goes_on)

pub returns-clause-falls : goal.returns-clause-falls
returns-clause-falls g c = falls-alone c.rested.result (g.F.Finder.most c.args.finder) _ (c.rested.ensures.falls 0 c.in_ok-want.ensures.falls)
