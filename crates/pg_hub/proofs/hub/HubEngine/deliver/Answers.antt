use Rattle.pg_hub.proofs.Beside.{over, deliver-keeps}
use Rattle.pg_hub.proofs.hub.HubEngine.deliver.Goals as goal

pub returns-clause-event : goal.returns-clause-event
returns-clause-event c = over c.self.inside.book c.self.inside.book c.self.inside.pipeline c.deliver.new.self c.args.self.now _ c.self.view_is c.deliver.ensures.event (λ s h. deliver-keeps s c.self.inside.book c.args.batch c.args.complete c.deliver.result h)
