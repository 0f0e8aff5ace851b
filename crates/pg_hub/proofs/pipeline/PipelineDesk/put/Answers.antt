use Rattle.std.proofs.Common.{[], ◌∷◌, sym, subst}
use Rattle.pg_desk.specs.declared.event.Event.TheVariants as call
use Rattle.pg_desk.specs.declared.event.Put.TheVariants as putting
use Rattle.pg_hub.specs.Fits.{PipelineBecomes}
use Rattle.pg_hub.specs.Standing.{InFlight}
use Rattle.pg_hub.proofs.Copies.{put-gone, put-full, put-unmade, put-took}
use Rattle.pg_hub.proofs.pipeline.PipelineDesk.put.Goals as goal

pub returns-then-not-takes_parts-clause-event : goal.returns-then-not-takes_parts-clause-event
returns-then-not-takes_parts-clause-event c = put-gone c.args.self.now c.args.id c.args.part c.if-not-takes_parts.ensures

pub returns-then-is_full-clause-event : goal.returns-then-is_full-clause-event
returns-then-is_full-clause-event c = put-full c.args.self.now c.args.id c.args.part c.if-not-takes_parts.ensures c.if-is_full.ensures

pub returns-in_default-clause-event : goal.returns-in_default-clause-event
returns-in_default-clause-event c = put-unmade c.args.self.now c.args.id c.args.part c.if-not-takes_parts.ensures c.if-is_full.ensures

pub returns-clause-event : goal.returns-clause-event
returns-clause-event c = subst (λ (q : InFlight). PipelineBecomes c.args.self.now (call.Put c.args.id c.args.part putting.Took ∷ []) q) (sym c.put_counted.ensures)
    (put-took c.args.self.now c.args.id c.args.part c.in-Some.unsent c.if-not-takes_parts.ensures c.if-is_full.ensures c.in-Some.ensures)
