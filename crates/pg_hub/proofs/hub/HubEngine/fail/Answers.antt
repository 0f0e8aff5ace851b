use Rattle.pg_hub.proofs.Beside.{over, fail-keeps}
use Rattle.pg_hub.proofs.hub.HubEngine.fail.Goals as goal

pub returns-clause-event : goal.returns-clause-event
returns-clause-event c = over c.self.inside.book c.self.inside.book c.self.inside.pipeline c.fail.new.self c.args.self.now _ c.self.view_is c.fail.ensures.event (λ s h. fail-keeps s c.self.inside.book c.fail.result h)
