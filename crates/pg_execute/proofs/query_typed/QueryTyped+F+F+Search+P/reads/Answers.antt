use Rattle.pg_execute.specs.Parameters.{params}
use Rattle.pg_execute.proofs.TypedQueries.{rows-go}
use Rattle.pg_execute.proofs.query_typed.QueryTyped+F+F+Search+P.reads.Goals as goal

pub returns-clause-goes_on : goal.returns-clause-goes_on
returns-clause-goes_on g c = rows-go g.F.Finder.finds g.F.Search.Script.dialogue g.F.Search.Script.refuses g.F.Search.Script.waits (λ p. params (g.P.Params.count p) (g.P.Params.gives_at p)) c.next.new.self _ _ c.in_ok-rows.ensures c.in_ok-want.want c.in_ok-want.ensures.goes_on
