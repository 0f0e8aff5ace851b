use Rattle.pg_hub.proofs.Beside.{over, close-keeps}
use Rattle.pg_hub.proofs.hub.HubEngine.close_requests.Goals as goal

pub returns-clause-event : goal.returns-clause-event
returns-clause-event c = over c.self.inside.book c.self.inside.book c.self.inside.pipeline c.close_requests.new.self c.args.self.now _ c.self.view_is c.close_requests.ensures.event (λ s h. close-keeps s c.self.inside.book c.close_requests.result h)
