use Rattle.std.proofs.Common.{◌≡◌, true, false, ◌<◌, ◌≤◌, ◌+◌, [], List, ℕ, length, Ok, refl, sym, subst, ◌∙◌, ap, arith}
use Rattle.std.proofs.lemmas.Grind.{common_steps}
use Rattle.pg_desk.specs.declared.event.Event.TheVariants as call
use Rattle.pg_desk.specs.declared.event.Out.TheVariants as out
use Rattle.pg_desk.specs.History.{first_part, out_answer, after}
use Rattle.pg_hub.specs.Rests.{Outbound, rest_at, PopsFirst}
use Rattle.pg_hub.specs.InFlight.{in_flight}
use Rattle.pg_hub.specs.Standing.{InFlight, StandsOut, with_book}
use Rattle.pg_hub.specs.Waiting.{parts_in, parts_in_flight}
use Rattle.pg_hub.specs.Fits.{PipelineFits}
use Rattle.pg_hub.proofs.Sending.{pops-less, pops-lighter, pops-size, pops-stands}
use Rattle.pg_hub.proofs.Simulation.{out-last, out-first, last-open, last-closed, last-waits, went-fits}
use Rattle.pg_hub.proofs.pipeline.PipelineEngine.next_out.Goals as goal

pub returns-then-finished-self-clause-event : goal.returns-then-finished-self-clause-event
returns-then-finished-self-clause-event c = record {
  stands = λ s f.
      let g : PipelineFits s (in_flight c.self.inside) = subst (λ (q : InFlight). PipelineFits s q) (sym c.self.view_is) f in
      let v = c.self.invariant.mail in
      let all : length c.self.inside.outbox.rests ≤ c.self.inside.outbox.whole = omega (arith, v, c.len-booked.ensures, c.whole-whole.ensures, c.if-whole-booked.true) in
      (((sym g.failed ∙ c.if-self.false, sym (out-last s (with_book s.book (in_flight c.self.inside)) g all ∙ last-open s (with_book s.book (in_flight c.self.inside)) g (grind (arith, common_steps)))), tt, tt), f);
  touched = λ s f. refl;
}

pub returns-then-self-2-clause-event : goal.returns-then-self-2-clause-event
returns-then-self-2-clause-event c = record {
  stands = λ s f.
      let g : PipelineFits s (in_flight c.self.inside) = subst (λ (q : InFlight). PipelineFits s q) (sym c.self.view_is) f in
      let v = c.self.invariant.mail in
      let all : length c.self.inside.outbox.rests ≤ c.self.inside.outbox.whole = omega (arith, v, c.len-booked.ensures, c.whole-whole.ensures, c.if-whole-booked.true) in
      (((sym g.failed ∙ c.if-self.false, sym (out-last s (with_book s.book (in_flight c.self.inside)) g all ∙ last-closed s (with_book s.book (in_flight c.self.inside)) g (grind (arith, common_steps)) c.if-self-2.true)), tt, tt), f);
  touched = λ s f. refl;
}

pub returns-then-whole-booked-clause-event : goal.returns-then-whole-booked-clause-event
returns-then-whole-booked-clause-event c = record {
  stands = λ s f.
      let g : PipelineFits s (in_flight c.self.inside) = subst (λ (q : InFlight). PipelineFits s q) (sym c.self.view_is) f in
      let v = c.self.invariant.mail in
      let all : length c.self.inside.outbox.rests ≤ c.self.inside.outbox.whole = omega (arith, v, c.len-booked.ensures, c.whole-whole.ensures, c.if-whole-booked.true) in
      (((sym g.failed ∙ c.if-self.false, sym (out-last s (with_book s.book (in_flight c.self.inside)) g all ∙ last-waits s (with_book s.book (in_flight c.self.inside)) g (grind (arith, common_steps)) c.if-self-2.false)), tt, tt), f);
  touched = λ s f. refl;
}

pub returns-in_default-clause-event : goal.returns-in_default-clause-event
returns-in_default-clause-event c = record {
  stands = λ s f.
      let g : PipelineFits s (in_flight c.self.inside) = subst (λ (q : InFlight). PipelineFits s q) (sym c.self.view_is) f in
      let v = c.self.invariant.mail in
      let low : c.self.inside.outbox.whole < length c.self.inside.outbox.rests = omega (arith, v, c.len-booked.ensures, c.whole-whole.ensures, c.if-whole-booked.false) in
      let none : ((rest_at c.self.inside.outbox.rests c.self.inside.outbox.whole).parts ≡ []) × (c.pop.new.self ≡ c.self.inside.outbox) = c.in_default.ensures in (
        ((sym g.failed ∙ c.if-self.false, sym (out-first s (with_book s.book (in_flight c.self.inside)) g low ∙ ap (λ (l : List (List ℕ)). first_part l out.CopyWaits) none.0)), tt, tt),
        subst (λ (o : Outbound). PipelineFits s (record (in_flight c.self.inside) { outgoing = o.rests; whole = o.whole })) (sym none.1) g,
      );
  touched = λ s f. ap (λ (q : InFlight). q.touched) c.self.view_is;
}

pub without_part-self-inside-requires : goal.without_part-self-inside-requires
without_part-self-inside-requires c =
    let v = c.self.invariant in
    let low : c.self.inside.outbox.whole < length c.self.inside.outbox.rests = let m = v.mail in omega (arith, m, c.len-booked.ensures, c.whole-whole.ensures, c.if-whole-booked.false) in
    let less = pops-lighter c.self.inside.outbox c.pop.new.self c.in-Some.part c.in-Some.ensures low in
    let is = v.out.unsent in
    omega (arith, less, is)

pub invariant_of-self-2 : goal.invariant_of-self-2
invariant_of-self-2 c =
    let v = c.self.invariant in
    let low : c.self.inside.outbox.whole < length c.self.inside.outbox.rests = let m = v.mail in omega (arith, m, c.len-booked.ensures, c.whole-whole.ensures, c.if-whole-booked.false) in
    record {
      mail = v.mail ∙ sym (pops-size c.self.inside.outbox c.pop.new.self c.in-Some.part c.in-Some.ensures);
      out = subst (λ (n : ℕ). StandsOut (length c.pop.new.self.rests) c.pop.new.self.rests c.without_part-self-inside.result c.pop.new.self.whole (n + 1)) (sym c.whole-whole.ensures)
          (pops-stands c.self.inside.outbox c.pop.new.self c.self.inside.unsent c.without_part-self-inside.result c.self.inside.started c.in-Some.part c.in-Some.ensures low v.out c.without_part-self-inside.ensures);
      finished = let a = v.finished in let b = v.out.near in omega (arith, a, b, c.whole-whole.ensures);
    }

pub returns-clause-event : goal.returns-clause-event
returns-clause-event c = record {
  stands = λ s f.
      let g : PipelineFits s (in_flight c.self.inside) = subst (λ (q : InFlight). PipelineFits s q) (sym c.self.view_is) f in
      let v = c.self.invariant.mail in
      let low : c.self.inside.outbox.whole < length c.self.inside.outbox.rests = omega (arith, v, c.len-booked.ensures, c.whole-whole.ensures, c.if-whole-booked.false) in
      let p : PopsFirst c.self.inside.outbox c.pop.new.self c.in-Some.part = c.in-Some.ensures in
      subst (λ (n : ℕ). (((s.failed ≡ false) × (out.Part c.in-Some.part ≡ out_answer s)) × Unit {0} × Unit {0})
      × PipelineFits (after s (call.NextOut (Ok (out.Part c.in-Some.part)))) (record (in_flight c.self.inside) { outgoing = c.pop.new.self.rests; unsent = c.without_part-self-inside.result; whole = c.pop.new.self.whole; started = n + 1; touched = true }))
      (sym c.whole-whole.ensures)
      (went-fits s (with_book s.book (in_flight c.self.inside)) c.in-Some.part p.left _ _ _ g c.if-self.false low p.parts p.copying p.rests c.without_part-self-inside.ensures p.whole);
  touched = λ s f. refl;
}

pub returns-clause-parts : goal.returns-clause-parts
returns-clause-parts c =
    let v = c.self.invariant.mail in
    let low : c.self.inside.outbox.whole < length c.self.inside.outbox.rests = omega (arith, v, c.len-booked.ensures, c.whole-whole.ensures, c.if-whole-booked.false) in
    let less = pops-less c.self.inside.outbox c.pop.new.self c.in-Some.part c.in-Some.ensures low in
    let before : parts_in c.self.inside.outbox.rests ≡ parts_in_flight c.args.self.now = ap parts_in_flight c.self.view_is in
    omega arith

pub returns-clause-falls : goal.returns-clause-falls
returns-clause-falls c h =
    let v = c.self.invariant.mail in
    let low : c.self.inside.outbox.whole < length c.self.inside.outbox.rests = omega (arith, v, c.len-booked.ensures, c.whole-whole.ensures, c.if-whole-booked.false) in
    let less = pops-less c.self.inside.outbox c.pop.new.self c.in-Some.part c.in-Some.ensures low in
    let before : parts_in c.self.inside.outbox.rests ≡ parts_in_flight c.args.self.now = ap parts_in_flight c.self.view_is in
    omega arith
