use Rattle.std.proofs.Common.{◌≡◌, true, ◌≤◌, ◌+◌, ◌++◌, [], ◌∷◌, ℕ, length, Ok, refl, sym, subst, ◌∙◌, ap, arith}
use Rattle.std.proofs.lemmas.List.{length_push}
use Rattle.pg_hub.specs.declared.mailbox.Mailbox.TheVariants.{Empty}
use Rattle.pg_desk.specs.declared.event.Event.TheVariants as call
use Rattle.pg_desk.specs.History.{after}
use Rattle.pg_hub.specs.Mail.{Mail}
use Rattle.pg_hub.specs.Rests.{Outbound}
use Rattle.pg_hub.specs.InFlight.{in_flight}
use Rattle.pg_hub.specs.Standing.{InFlight, StandsOut, with_book}
use Rattle.pg_hub.specs.Fits.{PipelineFits}
use Rattle.pg_hub.specs.Waiting.{undelivered_in, undelivered_in_flight}
use Rattle.pg_hub.proofs.Mailing.{count-more}
use Rattle.pg_hub.proofs.Simulation.{booked, neither, stands-booked}
use Rattle.pg_hub.proofs.pipeline.PipelineDesk.book.Goals as goal

pub returns-clause-event : goal.returns-clause-event
returns-clause-event c = record {
  stands = λ s f.
      let g : PipelineFits s (in_flight c.self.inside) = subst (λ (q : InFlight). PipelineFits s q) (sym c.self.view_is) f in
      let all : length c.self.inside.replies.boxes ≡ length s.book = g.standing.mail in
      let number : c.len-id.result ≡ length s.book = c.len-id.ensures ∙ all in (
        ((neither s.closed s.failed (sym g.closed ∙ c.if-self.false) (sym g.failed ∙ c.if-self-2.false), number), tt, tt),
        subst (λ (o : Outbound). PipelineFits (after s (call.Book c.args._stamp c.args.part c.args.copying (Ok 0)))
            (record (in_flight c.self.inside) { mail = c.push.new.replies.boxes; finished = c.push.new.replies.finished; outgoing = o.rests; whole = o.whole; unsent = c.in-Some.unsent; touched = true })) (sym c.if-not-push.ensures.0)
            (subst (λ (m : Mail). PipelineFits (after s (call.Book c.args._stamp c.args.part c.args.copying (Ok 0)))
            (record (in_flight c.self.inside) { mail = m.boxes; finished = m.finished; outgoing = c.self.inside.outbox.rests ++ record { parts = c.args.part ∷ []; copying = c.args.copying } ∷ []; unsent = c.in-Some.unsent; touched = true }))
            (sym c.if-not-push.ensures.1)
            (booked s (with_book s.book (in_flight c.self.inside)) c.args._stamp c.args.part c.args.copying _ _ _ c.in-Some.unsent g refl refl refl c.in-Some.ensures)),
      );
  touched = λ s f. refl;
}

pub invariant_of-self-2 : goal.invariant_of-self-2
invariant_of-self-2 c =
    let v = c.self.invariant in
    let out = ap (λ (o : Outbound). o.rests) c.if-not-push.ensures.0 in
    let whole = ap (λ (o : Outbound). o.whole) c.if-not-push.ensures.0 in
    let mail = ap (λ (m : Mail). length m.boxes) c.if-not-push.ensures.1 ∙ length_push c.self.inside.replies.boxes Empty in
    let over = ap (λ (m : Mail). m.finished) c.if-not-push.ensures.1 in
    let size : length c.push.new.self.rests ≡ length c.self.inside.outbox.rests + 1 = ap length out ∙ length_push c.self.inside.outbox.rests (record { parts = c.args.part ∷ []; copying = c.args.copying }) in
    record {
      mail = omega (arith, v.mail, mail, size);
      out = subst (λ (n : ℕ). StandsOut n c.push.new.self.rests c.in-Some.unsent c.push.new.self.whole c.self.inside.started) (sym size)
          (subst (λ (n : ℕ). StandsOut (length c.self.inside.outbox.rests + 1) c.push.new.self.rests c.in-Some.unsent n c.self.inside.started) (sym whole)
          (stands-booked (length c.self.inside.outbox.rests) c.self.inside.outbox.rests _ c.self.inside.unsent _ c.self.inside.outbox.whole c.self.inside.started c.args.part c.args.copying v.out out c.in-Some.ensures));
      finished = subst (λ (n : ℕ). n ≤ c.self.inside.started) (sym over) v.finished;
    }

pub returns-clause-count : goal.returns-clause-count
returns-clause-count c =
    let mail = ap (λ (m : Mail). m.boxes) c.if-not-push.ensures.1 in
    let same : undelivered_in c.push.new.replies.boxes ≡ undelivered_in_flight c.args.self.now = ap undelivered_in mail ∙ count-more c.self.inside.replies.boxes ∙ ap undelivered_in_flight c.self.view_is in
    omega arith
