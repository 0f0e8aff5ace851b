use Rattle.std.proofs.Common.{sym, ◌∙◌}
use Rattle.pg_hub.proofs.Beside.{still, book-closed, book-unmade}
use Rattle.pg_hub.proofs.hub.HubDesk.book.Goals as goal

pub returns-then-is_closed-clause-event : goal.returns-then-is_closed-clause-event
returns-then-is_closed-clause-event c = still c.self.inside.book c.self.inside.pipeline c.args.self.now _ c.self.view_is (book-closed c.self.inside.pipeline c.args.stamp c.args.part c.args.copying (sym c.is_closed.ensures ∙ c.if-is_closed.true)) (λ s h. h)

pub returns-in_default-clause-event : goal.returns-in_default-clause-event
returns-in_default-clause-event c = still c.self.inside.book c.self.inside.pipeline c.args.self.now _ c.self.view_is (book-unmade c.self.inside.pipeline c.args.stamp c.args.part c.args.copying (sym c.is_closed.ensures ∙ c.if-is_closed.false)) (λ s h. h)
