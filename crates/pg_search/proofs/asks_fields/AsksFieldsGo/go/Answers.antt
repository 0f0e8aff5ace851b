use Rattle.std.proofs.Common.{length, false, Ok, List}
use Rattle.pg_query.specs.Dialogue.{Answer}
use Rattle.pg_core.specs.Cells.{Cells}
use Rattle.pg_core.specs.Lookups.{oid_request, asks_oid}
use Rattle.pg_query.specs.Reading.{reads}
use Rattle.pg_core.specs.QueryReplies.{all_rows}
use Rattle.pg_search.specs.CatalogReadings.{whole_row}
use Rattle.pg_search.proofs.Behinds.{asked, then-same}
use Rattle.pg_search.proofs.asks_fields.AsksFieldsGo.go.Goals as goal

pub returns-clause-goes : goal.returns-clause-goes
returns-clause-goes c =
    let s = c.args.statement in
    then-same _ (asks_oid s c.args.self.relation (reads false (all_rows whole_row (length s.columns)))) (λ (rows : List Cells). Answer (Ok (record { columns = s.columns; rows = rows })))
    (asked false c.in_ok-request.request (oid_request s.name s.params c.args.self.relation) _ (all_rows whole_row (length s.columns)) _ c.ask-one.ensures.dialogue (c.in_ok-request.ensures _ c.oid_request.ensures) c.new.ensures)
