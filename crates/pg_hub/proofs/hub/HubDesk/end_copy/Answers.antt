use Rattle.std.proofs.Common.{List, [], ◌∷◌, sym, subst, ◌∙◌, ap}
use Rattle.pg_desk.specs.declared.event.Event.TheVariants as call
use Rattle.pg_desk.specs.declared.event.Put.TheVariants as putting
use Rattle.pg_desk.specs.History.{extended}
use Rattle.pg_desk.specs.declared.event.Booking.{Booking}
use Rattle.pg_hub.specs.Fits.{PipelineBecomes}
use Rattle.pg_hub.specs.Standing.{InFlight}
use Rattle.pg_hub.proofs.Beside.{over, still}
use Rattle.pg_hub.proofs.Copies.{end-gone, end-unmade, end-took}
use Rattle.pg_hub.proofs.hub.HubDesk.end_copy.Goals as goal

pub returns-then-not-takes_parts-clause-event : goal.returns-then-not-takes_parts-clause-event
returns-then-not-takes_parts-clause-event c = still c.self.inside.book c.self.inside.pipeline c.args.self.now _ c.self.view_is (end-gone c.self.inside.pipeline c.args.id c.args.part c.if-not-takes_parts.ensures) (λ s h. h)

pub returns-in_default-clause-event : goal.returns-in_default-clause-event
returns-in_default-clause-event c = still c.self.inside.book c.self.inside.pipeline c.args.self.now _ c.self.view_is (end-unmade c.self.inside.pipeline c.args.id c.args.part c.if-not-takes_parts.ensures) (λ s h. h)

pub returns-then-not-shows-clause-event : goal.returns-then-not-shows-clause-event
returns-then-not-shows-clause-event c = over c.self.inside.book c.shows.new.book c.self.inside.pipeline c.self.inside.pipeline c.args.self.now _ c.self.view_is
    (end-unmade c.self.inside.pipeline c.args.id c.args.part c.if-not-takes_parts.ensures) (λ s h. c.if-not-shows.ensures ∙ h)

pub returns-clause-event : goal.returns-clause-event
returns-clause-event c = over c.self.inside.book c.shows.new.book c.self.inside.pipeline c.close_counted.new.self c.args.self.now _ c.self.view_is
    (subst (λ (q : InFlight). PipelineBecomes c.self.inside.pipeline (call.EndCopy c.args.id c.args.part putting.Took ∷ []) q) (sym c.close_counted.ensures)
    (end-took c.self.inside.pipeline c.args.id c.args.part c.in-Some.unsent c.if-not-takes_parts.ensures c.in-Some.ensures))
    (λ s h. c.if-not-shows.ensures ∙ ap (λ (l : List Booking). extended c.args.id c.args.part l) h)
