use Rattle.pg_portals.proofs.Beginning.{close-clean}
use Rattle.pg_portals.proofs.states.close_portal_state.Goals as goal

pub new-requires : goal.new-requires
new-requires c = close-clean c.args.portal
