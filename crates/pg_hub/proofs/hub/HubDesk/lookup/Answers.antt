use Rattle.pg_hub.proofs.Beside.{over}
use Rattle.pg_hub.proofs.hub.HubDesk.lookup.Goals as goal

pub returns-clause-event : goal.returns-clause-event
returns-clause-event c = over c.self.inside.book c.self.inside.book c.self.inside.pipeline c.lookup.new.self c.args.self.now _ c.self.view_is c.lookup.ensures.event (λ s h. h)
