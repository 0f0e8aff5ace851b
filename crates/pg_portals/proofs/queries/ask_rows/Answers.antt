use Rattle.std.proofs.Common.{◌≡◌, ◌∙◌, ℕ, ℤ, false, length, Result, Option, List, ap, to_z, of_z}
use Rattle.std.specs.Int.{w32}
use Rattle.std.proofs.lemmas.Int.{of_z-to_z}
use Rattle.pg_spec.specs.RawMessages.{RawMessage}
use Rattle.pg_types.specs.declared.error.Error.{Error}
use Rattle.pg_desk.specs.declared.statement.Described.{Described}
use Rattle.pg_query.specs.Reading.{reads}
use Rattle.pg_core.specs.Composing.{asks_for}
use Rattle.pg_execute.specs.Executes.{whole_rows}
use Rattle.pg_execute.specs.Rows.{rows_read}
use Rattle.pg_execute.specs.Typed.{columns_came}
use Rattle.pg_execute.specs.declared.how_many.HowMany.TheVariants.{Any}
use Rattle.pg_execute.specs.declared.result_set.ResultSet.{ResultSet}
use Rattle.pg_portals.specs.Querying.{reading_of}
use Rattle.pg_portals.specs.Requests.{portal_request}
use Rattle.pg_portals.proofs.queries.ask_rows.Goals as goal

abbrev Told : Type 0
Told = List RawMessage → Option (Result ResultSet Error)

pub returns-clause-asks : goal.returns-clause-asks
returns-clause-asks c =
    let request : c.in_ok-request.request ≡ portal_request c.args.portal.now.number (to_z w32 c.args.limit) =
    c.in_ok-request.ensures ∙ ap (λ (z : ℤ). portal_request c.args.portal.now.number (to_z w32 (of_z w32 z))) c.cast_signed.ensures ∙ ap (λ (n : ℕ). portal_request c.args.portal.now.number (to_z w32 n)) (of_z-to_z w32 c.args.limit c.ranges.limit.fits) in
    let told : reading_of c.behind_columns-reading.result ≡ rows_read Any (length c.args.portal.now.statement.columns) (whole_rows c.args.portal.now.statement) columns_came =
    c.behind_columns-reading.ensures ∙ ap (λ (s : Described). let t : Told = rows_read Any (length s.columns) (whole_rows s) columns_came in t) c.in-Ok.ensures in
    c.ask.ensures.dialogue ∙ (λ i. asks_for (request i) (reads false (told i)))
