use Rattle.std.proofs.Common.{◌≡◌, true, ◌<◌, ◌+◌, length, Bool, false, ◌||◌, inl, inr, Ok, refl, sym, subst, ap, arith, slice_set}
use Rattle.std.proofs.lemmas.Grind.{common_steps}
use Rattle.pg_hub.specs.declared.mailbox.Mailbox.TheVariants.{HungUp}
use Rattle.pg_hub.specs.InFlight.{in_flight}
use Rattle.pg_hub.specs.Standing.{InFlight, with_book}
use Rattle.pg_hub.specs.Fits.{PipelineFits}
use Rattle.pg_hub.specs.Mail.{Mail, at, waits, is_gone}
use Rattle.pg_hub.specs.Waiting.{undelivered_in, undelivered_in_flight}
use Rattle.pg_hub.proofs.Mailing.{count-set}
use Rattle.pg_desk.specs.declared.event.Event.TheVariants as call
use Rattle.pg_desk.specs.History.{State, after, may_let_go}
use Rattle.pg_hub.proofs.Simulation.{hung-up, may-let-go, may-not, not-hung-up}
use Rattle.pg_hub.proofs.pipeline.PipelineDesk.hang_up.Goals as goal

pub returns-clause-event : goal.returns-clause-event
returns-clause-event c = record {
  stands = λ s f.
      let g : PipelineFits s (in_flight c.self.inside) = subst (λ (q : InFlight). PipelineFits s q) (sym c.self.view_is) f in
      let low : c.args.id < length c.self.inside.replies.boxes = grind (arith, common_steps) in
      let here : is_gone (at c.self.inside.replies.boxes c.args.id) ≡ false = grind (arith, common_steps) in (
        (tt, tt, tt),
        subst (λ (m : Mail). PipelineFits (after s (call.HangUp c.args.id (Ok tt))) (record (in_flight c.self.inside) { mail = m.boxes; finished = m.finished; touched = true }))
            (sym c.hang_up.ensures) (hung-up s (with_book s.book (in_flight c.self.inside)) c.args.id _ g low here refl),
      );
  touched = λ s f.
      let g : PipelineFits s (in_flight c.self.inside) = subst (λ (q : InFlight). PipelineFits s q) (sym c.self.view_is) f in
      let low : c.args.id < length c.self.inside.replies.boxes = grind (arith, common_steps) in
      let here : is_gone (at c.self.inside.replies.boxes c.args.id) ≡ false = grind (arith, common_steps) in
      sym (ap (λ (b : Bool). (b || false) || c.args.self.now.touched) (may-let-go s (with_book s.book (in_flight c.self.inside)) c.args.id g low here));
}

pub returns-clause-count : goal.returns-clause-count
returns-clause-count c =
    let low : c.args.id < length c.self.inside.replies.boxes = grind (arith, common_steps) in
    let mail : c.hang_up.new.self.boxes ≡ slice_set c.self.inside.replies.boxes c.args.id HungUp = grind (arith, common_steps) in
    let count : undelivered_in (slice_set c.self.inside.replies.boxes c.args.id HungUp) + length (waits (at c.self.inside.replies.boxes c.args.id)) ≡ undelivered_in c.self.inside.replies.boxes + 0 = count-set c.self.inside.replies.boxes c.args.id HungUp low in
    let same : undelivered_in c.hang_up.new.self.boxes ≡ undelivered_in (slice_set c.self.inside.replies.boxes c.args.id HungUp) = ap undelivered_in mail in
    let before : undelivered_in c.self.inside.replies.boxes ≡ undelivered_in_flight c.args.self.now = ap undelivered_in_flight c.self.view_is in
    omega arith

pub returns-then-place-len-clause-event : goal.returns-then-place-len-clause-event
returns-then-place-len-clause-event c =
    let not_booked : (s : State) → PipelineFits s c.args.self.now → may_let_go s c.args.id ≡ false = λ s f.
    may-not s (with_book s.book (in_flight c.self.inside)) c.args.id (subst (λ (q : InFlight). PipelineFits s q) (sym c.self.view_is) f) (inl (grind (arith, common_steps))) in
    record {
      stands = λ s f. ((tt, tt, tt), not-hung-up s (with_book s.book c.args.self.now) c.args.id f (not_booked s f));
      touched = λ s f. sym (ap (λ (b : Bool). (b || false) || c.args.self.now.touched) (not_booked s f));
    }

pub returns-then-is_hung_up-clause-event : goal.returns-then-is_hung_up-clause-event
returns-then-is_hung_up-clause-event c =
    let hung_up : (s : State) → PipelineFits s c.args.self.now → may_let_go s c.args.id ≡ false = λ s f.
    let low : c.args.id < length c.self.inside.replies.boxes = grind (arith, common_steps) in
    may-not s (with_book s.book (in_flight c.self.inside)) c.args.id (subst (λ (q : InFlight). PipelineFits s q) (sym c.self.view_is) f) (inr (low, grind (arith, common_steps))) in
    record {
      stands = λ s f. ((tt, tt, tt), not-hung-up s (with_book s.book c.args.self.now) c.args.id f (hung_up s f));
      touched = λ s f. sym (ap (λ (b : Bool). (b || false) || c.args.self.now.touched) (hung_up s f));
    }
