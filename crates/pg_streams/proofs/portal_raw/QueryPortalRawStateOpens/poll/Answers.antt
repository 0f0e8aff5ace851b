use mir.Syntax.{w32}
use mir.Val.{SFits}
use Rattle.std.proofs.Common.{ℤ, Ok, None, true, false, sym, ◌∙◌, ap, rules}
use Rattle.std.proofs.lemmas.Int.{to_z-of_z}
use Rattle.pg_portals.specs.Requests.{portal_request}
use Rattle.pg_query.specs.Reading.{reads}
use Rattle.pg_streams.specs.Handing.{alone}
use Rattle.pg_streams.specs.Hearing.{IsNoItem}
use Rattle.pg_streams.specs.PortalStreams.{asks_portal, portal_first}
use Rattle.pg_streams.specs.RowStreams.{rows_from}
use Rattle.pg_streams.proofs.Asking.{asks-refused, lacks}
use Rattle.pg_streams.proofs.Portals.{portal-booked, portal-by, portal-refused}
use Rattle.pg_streams.proofs.portal_raw.QueryPortalRawStateOpens.poll.Goals as goal

pub returns-in_default-clause-opens : goal.returns-in_default-clause-opens
returns-in_default-clause-opens g c k said =
    let s = c.args.self.now in
    lacks g.D.Desk.becomes g.met.D.Desk.stays c.args.stamp c.args.desk.now (alone (record { dialogue = asks_portal s.over s.portal.now s.max_rows; reads = 0 }) portal_first) (λ first. IsNoItem first.told)

pub returns-in-Err-clause-opens : goal.returns-in-Err-clause-opens
returns-in-Err-clause-opens g c k said =
    let s = c.args.self.now in
    lacks g.D.Desk.becomes g.met.D.Desk.stays c.args.stamp c.args.desk.now (alone (record { dialogue = asks_portal s.over s.portal.now s.max_rows; reads = 0 }) portal_first) (λ first. IsNoItem first.told)

pub returns-in-Ok-Err-clause-opens : goal.returns-in-Ok-Err-clause-opens
returns-in-Ok-Err-clause-opens g c k said =
    let s = c.args.self.now in
    let fits : SFits w32 s.max_rows = search rules in
    portal-refused g.D.Desk.becomes g.met.D.Desk.stays c.args.stamp c.args.desk.now s.over s.portal.now s.max_rows 0 c.in-Ok-Err.error c.requires (sym c.in-Ok-Err.field-0-is ∙ c.in-Ok-Err.ensures ∙ ap (λ (z : ℤ). portal_request s.portal.now.number z) (to_z-of_z w32 s.max_rows fits))

pub returns-in-Ok-book-clause-opens : goal.returns-in-Ok-book-clause-opens
returns-in-Ok-book-clause-opens g c k said =
    let s = c.args.self.now in
    let fits : SFits w32 s.max_rows = search rules in
    let stream = c.behind_columns.ensures in (
      portal-booked g.D.Desk.becomes c.args.stamp c.args.desk.now c.book.new.self s.over s.portal.now s.max_rows c.in-Ok-Ok.request c.in-Ok-book.id c.in-Ok.statement c.empty-batch.result c.behind_columns.result c.requires (sym c.in-Ok-Ok.field-0-is ∙ c.in-Ok-Ok.ensures ∙ ap (λ (z : ℤ). portal_request s.portal.now.number z) (to_z-of_z w32 s.max_rows fits))
          (c.in-Ok.ensures ∙ c.statement.ensures) c.empty-batch.ensures c.in-Ok-book.ensures.event stream.stands stream.unread,
      (stream.on, stream.affected),
    )

pub returns-in-Err-book-clause-opens : goal.returns-in-Err-book-clause-opens
returns-in-Err-book-clause-opens g c k said =
    let s = c.args.self.now in
    let fits : SFits w32 s.max_rows = search rules in
    asks-refused g.D.Desk.becomes c.args.stamp c.args.desk.now c.book.new.self (asks_portal s.over s.portal.now s.max_rows) (reads false (rows_from s.portal.now.statement true None)) 0 c.in-Ok-Ok.request c.in-Err-book.fault c.error_of.result portal_first (λ first. IsNoItem first.told)
    (portal-by s.over s.portal.now s.max_rows (Ok c.in-Ok-Ok.request) c.requires (sym c.in-Ok-Ok.field-0-is ∙ c.in-Ok-Ok.ensures ∙ ap (λ (z : ℤ). portal_request s.portal.now.number z) (to_z-of_z w32 s.max_rows fits))) c.in-Err-book.ensures.event c.error_of.ensures tt
