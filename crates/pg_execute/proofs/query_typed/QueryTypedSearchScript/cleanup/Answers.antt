use Rattle.std.proofs.Common.{◌≡◌, IfOk, List}
use Rattle.pg_query.specs.declared.desk_call.Cleanup.{Cleanup}
use Rattle.pg_execute.specs.Parameters.{params}
use Rattle.pg_execute.proofs.TypedQueries.{find-left, head-left, rest-left, rows-left}
use Rattle.pg_execute.proofs.query_typed.QueryTypedSearchScript.cleanup.Goals as goal

pub returns-in-Heads : goal.returns-in-Heads
returns-in-Heads g c = head-left g.F.Finder.finds g.F.Search.Script.dialogue g.F.Search.Script.refuses g.F.Search.Script.waits (λ p. params (g.P.Params.count p) (g.P.Params.gives_at p)) (λ (l : List Cleanup). IfOk c.cleanup.result (λ left. left.items ≡ l)) c.args.self.now c.in-Heads.is c.cleanup.ensures

pub returns-in-Rows : goal.returns-in-Rows
returns-in-Rows g c = rows-left g.F.Finder.finds g.F.Search.Script.dialogue g.F.Search.Script.refuses g.F.Search.Script.waits (λ p. params (g.P.Params.count p) (g.P.Params.gives_at p)) (λ (l : List Cleanup). IfOk c.cleanup-in-Rows.result (λ left. left.items ≡ l)) c.args.self.now c.in-Rows.is c.cleanup-in-Rows.ensures

pub returns-in-Rests : goal.returns-in-Rests
returns-in-Rests g c = rest-left g.F.Finder.finds g.F.Search.Script.dialogue g.F.Search.Script.refuses g.F.Search.Script.waits (λ p. params (g.P.Params.count p) (g.P.Params.gives_at p)) (λ (l : List Cleanup). IfOk c.cleanup-in-Rests.result (λ left. left.items ≡ l)) c.args.self.now c.in-Rests.is c.cleanup-in-Rests.ensures

pub returns-in-Finds : goal.returns-in-Finds
returns-in-Finds g c = find-left g.F.Finder.finds g.F.Search.Script.dialogue g.F.Search.Script.refuses g.F.Search.Script.waits (λ p. params (g.P.Params.count p) (g.P.Params.gives_at p)) (λ (l : List Cleanup). IfOk c.cleanup-in-Finds.result (λ left. left.items ≡ l)) c.args.self.now c.in-Finds.is c.cleanup-in-Finds.ensures
