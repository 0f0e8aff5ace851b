use Rattle.pg_hub.proofs.Beside.{over}
use Rattle.pg_hub.proofs.hub.HubDesk.set_type.Goals as goal

pub returns-clause-event : goal.returns-clause-event
returns-clause-event c = over c.self.inside.book c.self.inside.book c.self.inside.pipeline c.set_type.new.self c.args.self.now _ c.self.view_is c.set_type.ensures.event (λ s h. h)
