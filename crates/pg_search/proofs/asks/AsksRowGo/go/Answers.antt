use Rattle.std.proofs.Common.{length, true}
use Rattle.pg_core.specs.Lookups.{oid_request, type_row}
use Rattle.pg_core.specs.QueryReplies.{first_row}
use Rattle.pg_search.proofs.Behinds.{asked}
use Rattle.pg_search.proofs.asks.AsksRowGo.go.Goals as goal

pub returns-clause-goes : goal.returns-clause-goes
returns-clause-goes c =
    let s = c.args.statement in
    asked true c.in_ok-request.request (oid_request s.name s.params c.args.self.oid) _ (first_row (type_row c.args.statement.columns) (length c.args.statement.columns)) _ c.ask-one.ensures.dialogue (c.in_ok-request.ensures _ c.oid_request.ensures) c.new.ensures
