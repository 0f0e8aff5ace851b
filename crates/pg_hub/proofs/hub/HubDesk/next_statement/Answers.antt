use Rattle.pg_hub.proofs.Beside.{over, statement-keeps}
use Rattle.pg_hub.proofs.hub.HubDesk.next_statement.Goals as goal

pub returns-clause-event : goal.returns-clause-event
returns-clause-event c = over c.self.inside.book c.self.inside.book c.self.inside.pipeline c.next_statement.new.self c.args.self.now _ c.self.view_is c.next_statement.ensures.event (λ s h. statement-keeps s c.self.inside.book c.next_statement.result h)
