use Rattle.std.proofs.Common.{◌≡◌, List, Option, ap, sym}
use Rattle.pg_types.specs.declared.pg_type.PgType.{PgType}
use Rattle.pg_execute.specs.Parameters.{params}
use Rattle.pg_execute.specs.Typing.{by_known}
use Rattle.pg_execute.proofs.TypedQueries.{goes-at}
use Rattle.pg_execute.proofs.query_typed.QueryTyped+F+F+Search+P.goes_by.Goals as goal

pub returns-in-Some-clause-goes_on : goal.returns-in-Some-clause-goes_on
returns-in-Some-clause-goes_on g c =
    goes-at g.F.Finder.finds g.F.Search.Script.dialogue g.F.Search.Script.refuses g.F.Search.Script.waits (λ p. params (g.P.Params.count p) (g.P.Params.gives_at p)) _ _
    (ap (λ (o : Option (List PgType)). by_known (g.F.Finder.finds c.args.finder) c.args.how_many c.args.columns o) (sym c.in-Some.is))
    c.reads.result c.reads.new.self c.reads.ensures.goes_on
