use Rattle.std.proofs.Common.{length, false}
use Rattle.pg_core.specs.Cells.{value_at, text_in}
use Rattle.pg_core.specs.Lookups.{oid_request}
use Rattle.pg_core.specs.QueryReplies.{all_rows}
use Rattle.pg_search.proofs.Behinds.{asked}
use Rattle.pg_search.proofs.asks.AsksLabelsGo.go.Goals as goal

pub returns-clause-goes : goal.returns-clause-goes
returns-clause-goes c =
    let s = c.args.statement in
    asked false c.in_ok-request.request (oid_request s.name s.params c.args.self.oid) _ (all_rows (λ cells. value_at text_in c.args.statement.columns cells 0) (length c.args.statement.columns)) _ c.ask-one.ensures.dialogue (c.in_ok-request.ensures _ c.oid_request.ensures) c.new.ensures
