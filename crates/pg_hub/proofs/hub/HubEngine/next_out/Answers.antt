use Rattle.pg_hub.proofs.Beside.{over, out-keeps}
use Rattle.pg_hub.proofs.hub.HubEngine.next_out.Goals as goal

pub returns-clause-event : goal.returns-clause-event
returns-clause-event c = over c.self.inside.book c.self.inside.book c.self.inside.pipeline c.next_out.new.self c.args.self.now _ c.self.view_is c.next_out.ensures.event (λ s h. out-keeps s c.self.inside.book c.next_out.result h)
