use Rattle.pg_hub.proofs.Beside.{over}
use Rattle.pg_hub.proofs.hub.HubDesk.clear_type_cache.Goals as goal

pub returns-clause-event : goal.returns-clause-event
returns-clause-event c = over c.self.inside.book c.self.inside.book c.self.inside.pipeline c.clear_type_cache.new.self c.args.self.now _ c.self.view_is c.clear_type_cache.ensures.event (λ s h. h)
