use Rattle.pg_hub.proofs.Beside.{over}
use Rattle.pg_hub.proofs.hub.HubDesk.type_.Goals as goal

pub returns-clause-event : goal.returns-clause-event
returns-clause-event c = over c.self.inside.book c.self.inside.book c.self.inside.pipeline c.type_.new.self c.args.self.now _ c.self.view_is c.type_.ensures.event (λ s h. h)
