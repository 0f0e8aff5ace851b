use Rattle.pg_streams.specs.PortalStreams.{asks_portal}
use Rattle.pg_streams.proofs.Asking.{nothing-left}
use Rattle.pg_streams.proofs.Portals.{portal-cleanup}
use Rattle.pg_streams.proofs.portal_raw.QueryPortalRawStateOpens.hang_up.Goals as goal

pub returns : goal.returns
returns g c =
    let s = c.args.self in
    nothing-left g.D.Desk.becomes g.met.D.Desk.stays c.args.stamp c.args.desk.now (asks_portal s.over s.portal.now s.max_rows) 0 (portal-cleanup s.over s.portal.now s.max_rows)
