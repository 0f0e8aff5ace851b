use Rattle.pg_execute.specs.Parameters.{params}
use Rattle.pg_execute.proofs.TypedQueries.{head-passes}
use Rattle.pg_execute.proofs.query_typed.QueryTyped+F+F+Search+P.headed.Goals as goal

pub returns-in-Err-clause-goes_on : goal.returns-in-Err-clause-goes_on
returns-in-Err-clause-goes_on g c d h = head-passes g.F.Finder.finds g.F.Search.Script.dialogue g.F.Search.Script.refuses g.F.Search.Script.waits (λ p. params (g.P.Params.count p) (g.P.Params.gives_at p)) c.args.self.now d c.args.want c.in-Err.want (rw c.in-Err.is at c.value_of.ensures) h
