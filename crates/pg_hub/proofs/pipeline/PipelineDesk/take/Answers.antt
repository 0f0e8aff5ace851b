use Rattle.std.proofs.Common.{◌≡◌, true, ◌<◌, ◌+◌, length, Some, None, Ok, false, refl, sym, subst, ◌∙◌, ap, arith, slice_set}
use Rattle.std.proofs.lemmas.Grind.{common_steps}
use Rattle.pg_desk.specs.declared.event.Event.TheVariants as call
use Rattle.pg_desk.specs.declared.event.Take.TheVariants as taking
use Rattle.pg_desk.specs.History.{after, take_answer}
use Rattle.pg_hub.specs.InFlight.{in_flight}
use Rattle.pg_hub.specs.Standing.{InFlight, with_book}
use Rattle.pg_hub.specs.Fits.{PipelineFits}
use Rattle.pg_hub.specs.Mail.{Mail, at, first_of, rest_of, is_gone}
use Rattle.pg_hub.specs.Waiting.{undelivered_in, undelivered_in_flight}
use Rattle.pg_hub.proofs.Mailing.{one-less}
use Rattle.pg_hub.proofs.Simulation.{took, waited-on, none-over, none-empty}
use Rattle.pg_hub.proofs.pipeline.PipelineDesk.take.Goals as goal

pub returns-in-Some-clause-event : goal.returns-in-Some-clause-event
returns-in-Some-clause-event c = record {
  stands = λ s f.
      let g : PipelineFits s (in_flight c.self.inside) = subst (λ (q : InFlight). PipelineFits s q) (sym c.self.view_is) f in
      let low : c.args.id < length c.self.inside.replies.boxes = grind (arith, common_steps) in
      let first : first_of (at c.self.inside.replies.boxes c.args.id) ≡ Some c.in-Some.batch = grind (arith, common_steps) in
      subst (λ (m : Mail). ((taking.Batch c.in-Some.batch ≡ take_answer s c.args.id) × Unit {0} × Unit {0})
      × PipelineFits (after s (call.Take c.args.id (Ok (taking.Batch c.in-Some.batch)))) (record (in_flight c.self.inside) { mail = m.boxes; finished = m.finished; touched = true }))
      (sym c.take.ensures.rest) (took s (with_book s.book (in_flight c.self.inside)) c.args.id c.in-Some.batch _ g low first refl);
  touched = λ s f. refl;
}

pub returns-in-Some-clause-count : goal.returns-in-Some-clause-count
returns-in-Some-clause-count c =
    let low : c.args.id < length c.self.inside.replies.boxes = grind (arith, common_steps) in
    let first : first_of (at c.self.inside.replies.boxes c.args.id) ≡ Some c.in-Some.batch = grind (arith, common_steps) in
    let mail : c.take.new.self.boxes ≡ slice_set c.self.inside.replies.boxes c.args.id (rest_of (at c.self.inside.replies.boxes c.args.id)) = grind (arith, common_steps) in
    let less : undelivered_in c.take.new.self.boxes + 1 ≡ undelivered_in c.self.inside.replies.boxes = one-less _ _ _ _ low first mail in
    let before : undelivered_in c.self.inside.replies.boxes ≡ undelivered_in_flight c.args.self.now = ap undelivered_in_flight c.self.view_is in
    omega arith

pub returns-in-Some-clause-falls : goal.returns-in-Some-clause-falls
returns-in-Some-clause-falls c took_one =
    let low : c.args.id < length c.self.inside.replies.boxes = grind (arith, common_steps) in
    let first : first_of (at c.self.inside.replies.boxes c.args.id) ≡ Some c.in-Some.batch = grind (arith, common_steps) in
    let mail : c.take.new.self.boxes ≡ slice_set c.self.inside.replies.boxes c.args.id (rest_of (at c.self.inside.replies.boxes c.args.id)) = grind (arith, common_steps) in
    let less : undelivered_in c.take.new.self.boxes + 1 ≡ undelivered_in c.self.inside.replies.boxes = one-less _ _ _ _ low first mail in
    let before : undelivered_in c.self.inside.replies.boxes ≡ undelivered_in_flight c.args.self.now = ap undelivered_in_flight c.self.view_is in
    omega arith

pub returns-then-id-finished-clause-event : goal.returns-then-id-finished-clause-event
returns-then-id-finished-clause-event c = record {
  stands = λ s f.
      let g : PipelineFits s (in_flight c.self.inside) = subst (λ (q : InFlight). PipelineFits s q) (sym c.self.view_is) f in
      let low : c.args.id < length c.self.inside.replies.boxes = grind (arith, common_steps) in
      let here : is_gone (at c.self.inside.replies.boxes c.args.id) ≡ false = grind (arith, common_steps) in
      let none : first_of (at c.self.inside.replies.boxes c.args.id) ≡ None = grind (arith, common_steps) in
      let w = waited-on s (with_book s.book (in_flight c.self.inside)) c.args.id _ g low here none refl in
      let stays = subst (λ (m : Mail). PipelineFits s (record (in_flight c.self.inside) { mail = m.boxes; finished = m.finished })) (sym c.take.ensures.rest) w.1 in
      ((none-over s (with_book s.book (in_flight c.self.inside)) c.args.id g c.if-self.false (grind (arith, common_steps)) ∙ sym w.0, tt, tt), stays);
  touched = λ s f. ap (λ (q : InFlight). q.touched) c.self.view_is;
}

pub returns-clause-event : goal.returns-clause-event
returns-clause-event c = record {
  stands = λ s f.
      let g : PipelineFits s (in_flight c.self.inside) = subst (λ (q : InFlight). PipelineFits s q) (sym c.self.view_is) f in
      let low : c.args.id < length c.self.inside.replies.boxes = grind (arith, common_steps) in
      let here : is_gone (at c.self.inside.replies.boxes c.args.id) ≡ false = grind (arith, common_steps) in
      let none : first_of (at c.self.inside.replies.boxes c.args.id) ≡ None = grind (arith, common_steps) in
      let w = waited-on s (with_book s.book (in_flight c.self.inside)) c.args.id _ g low here none refl in
      let stays = subst (λ (m : Mail). PipelineFits s (record (in_flight c.self.inside) { mail = m.boxes; finished = m.finished })) (sym c.take.ensures.rest) w.1 in
      ((none-empty s (with_book s.book (in_flight c.self.inside)) c.args.id g c.if-self.false (grind (arith, common_steps)) ∙ sym w.0, tt, tt), stays);
  touched = λ s f. ap (λ (q : InFlight). q.touched) c.self.view_is;
}
