use Rattle.pg_hub.proofs.Beside.{over, portal-keeps}
use Rattle.pg_hub.proofs.hub.HubDesk.next_portal.Goals as goal

pub returns-clause-event : goal.returns-clause-event
returns-clause-event c = over c.self.inside.book c.self.inside.book c.self.inside.pipeline c.next_portal.new.self c.args.self.now _ c.self.view_is c.next_portal.ensures.event (λ s h. portal-keeps s c.self.inside.book c.next_portal.result h)
