use Rattle.std.proofs.Common.{◌≡◌, ◌≤◌, ◌<◌, ◌+◌, ℕ, Some, refl, nat_lt, false, sym, subst, ◌∙◌, ap, arith, slice_set, true, Bool, if◌then◌else◌}
use Rattle.std.proofs.lemmas.Grind.{common_steps}
use Rattle.pg_desk.specs.declared.event.Deliver.TheVariants as delivering
use Rattle.pg_desk.specs.declared.event.Event.TheVariants as call
use Rattle.pg_desk.specs.History.{after, Allows}
use Rattle.pg_spec.specs.Batches.{is_batch}
use Rattle.pg_hub.specs.declared.mailbox.Mailbox.{Mailbox}
use Rattle.pg_hub.specs.InFlight.{in_flight}
use Rattle.pg_hub.specs.Standing.{InFlight, with_book}
use Rattle.pg_hub.specs.Fits.{PipelineFits}
use Rattle.pg_hub.specs.Mail.{Mail, at, received_by}
use Rattle.std.proofs.lemmas.Bool.Decides.{nat_tests}
use Rattle.pg_hub.proofs.Simulation.{delivered, open-is, full}
use Rattle.pg_hub.proofs.pipeline.PipelineEngine.deliver.Goals as goal

-- one more at most
more : (b : Bool) (n m : ℕ) → n < m → (if b then 1 else 0) + n ≤ m
more true n m low = omega arith
more false n m low = omega arith

pub returns-in-None-clause-event : goal.returns-in-None-clause-event
returns-in-None-clause-event c = record {
  stands = λ s f.
      let g : PipelineFits s (in_flight c.self.inside) = subst (λ (q : InFlight). PipelineFits s q) (sym c.self.view_is) f in
      let low : c.self.inside.replies.finished < c.self.inside.started = grind (arith, common_steps) in
      let put : (m : Mailbox) × (received_by (at c.self.inside.replies.boxes c.self.inside.replies.finished) c.args.batch ≡ Some m)
      × (c.put.new.self ≡ record { boxes = slice_set c.self.inside.replies.boxes c.self.inside.replies.finished m; finished = (if c.args.complete then 1 else 0) + c.self.inside.replies.finished }) = c.in-None.ensures in
      subst (λ (m : Mail). (Allows s (call.Deliver c.args.batch c.args.complete delivering.Taken) × Unit {0} × Unit {0})
      × PipelineFits (after s (call.Deliver c.args.batch c.args.complete delivering.Taken)) (record (in_flight c.self.inside) { mail = m.boxes; finished = m.finished; touched = true }))
      (sym put.2)
      (delivered s (with_book s.book (in_flight c.self.inside)) c.args.batch c.args.complete put.0 _ _ g (subst (λ (b : Bool). is_batch b c.args.batch ≡ true) (sym c.requires.ends) c.batch_law.ensures) low put.1 refl refl
      (more c.args.complete c.self.inside.replies.finished c.self.inside.started low));
  touched = λ s f. refl;
}

pub returns-then-finished-self-clause-event : goal.returns-then-finished-self-clause-event
returns-then-finished-self-clause-event c = record {
  stands = λ s f.
      let g : PipelineFits s (in_flight c.self.inside) = subst (λ (q : InFlight). PipelineFits s q) (sym c.self.view_is) f in
      (((refl, open-is s (with_book s.book (in_flight c.self.inside)) g ∙ not-less c.self.inside.replies.finished c.self.inside.started (grind (arith, common_steps))), tt, tt), f);
  touched = λ s f. refl;
}
  where
    not-less : (a b : ℕ) → b ≤ a → nat_lt a b ≡ false
    not-less a b high = grind (arith, nat_tests)

pub returns-in-Some-clause-event : goal.returns-in-Some-clause-event
returns-in-Some-clause-event c = record {
  stands = λ s f.
      let g : PipelineFits s (in_flight c.self.inside) = subst (λ (q : InFlight). PipelineFits s q) (sym c.self.view_is) f in
      let back = c.in-Some.ensures in
      let low : c.self.inside.replies.finished < c.self.inside.started = grind (arith, common_steps) in (
        (full s (with_book s.book (in_flight c.self.inside)) c.args.batch c.args.complete c.in-Some.back g low back.0 back.2, tt, tt),
        subst (λ (m : Mail). PipelineFits s (record (in_flight c.self.inside) { mail = m.boxes; finished = m.finished })) (sym back.1) g,
      );
  touched = λ s f. ap (λ (q : InFlight). q.touched) c.self.view_is;
}
