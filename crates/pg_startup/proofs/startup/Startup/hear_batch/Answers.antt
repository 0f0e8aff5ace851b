use Rattle.std.proofs.Common.{◌∷◌, [], ◌++◌, refl, inl, sym, subst, Ok, Err, ap, ◌∙◌, arith}
use Rattle.pg_types.specs.declared.error.Error.{Error}
use Rattle.pg_startup.proofs.Batches.{IsRest, last-of-batch, rest-of-batch}
use Rattle.pg_connect.proofs.Tags.{is_ready_message}
use Rattle.pg_startup.specs.Startups.{Hears}
use Rattle.pg_startup.proofs.Walking.{calm-first, hears-then, malformed-later, queues-none, queues-then, stops-later, walked-all, walked-ends, walked-none, walked-on}
use Rattle.pg_startup.proofs.startup.Startup.hear_batch.Goals as goal

pub messages-init : goal.messages-init
messages-init c = record {
  same = refl;
  end = refl;
  queues = queues-none c.args.self.now c.args.self.now refl refl refl;
  lower = omega arith;
  rest = λ complete cut. inl cut;
  walked = λ l first read complete cut stands going. walked-none l first read c.args.batch c.args.self.now stands going;
}

pub returns-in-Ok-Done-clause-heard : goal.returns-in-Ok-Done-clause-heard
returns-in-Ok-Done-clause-heard c l first read complete cut stands going =
    let t = rw c.in-Ok-Some.field-0-is at c.in-Ok-Some.ensures in
    let w = c.messages.invariant.walked l first read complete cut stands going in
    let rest = subst (λ ms. IsRest complete ms) t.front (c.messages.invariant.rest complete cut) in
    let h = rw c.in-Ok-Done.field-0-is at (c.in-Ok-Done.ensures.heard l first (read ++ w.front) t.raw w.stands w.going (calm-first complete t.raw _ rest) t.means) in
    let last = rw c.in-Ok-Done.field-0-is at c.in-Ok-Done.ensures.last in
    walked-ends l first read _ _ (t.raw ∷ []) [] c.messages.self c.hear.new.self w
    (t.front ∙ ap (λ ms. t.raw ∷ ms) (last-of-batch complete t.raw _ rest (is_ready_message t.raw last.0 (t.means ∙ ap (λ m. Ok m) last.1)))) h

pub returns-in-Ok-Done-clause-end : goal.returns-in-Ok-Done-clause-end
returns-in-Ok-Done-clause-end c = rw c.in-Ok-Done.field-0-is at c.in-Ok-Done.ensures.end

pub returns-in-Ok-Done-clause-queues : goal.returns-in-Ok-Done-clause-queues
returns-in-Ok-Done-clause-queues c = queues-then c.args.self.now c.messages.self c.hear.new.self c.messages.invariant.queues c.in-Ok-Done.ensures.queues

pub returns-in-Ok-Done-clause-same : goal.returns-in-Ok-Done-clause-same
returns-in-Ok-Done-clause-same c = hears-then c.args.self.now c.messages.self c.hear.new.self c.messages.invariant.same c.in-Ok-Done.ensures.same

pub returns-in-Err-hear-clause-heard : goal.returns-in-Err-hear-clause-heard
returns-in-Err-hear-clause-heard c l first read complete cut stands going =
    let t = rw c.in-Ok-Some.field-0-is at c.in-Ok-Some.ensures in
    let w = c.messages.invariant.walked l first read complete cut stands going in
    let rest = subst (λ ms. IsRest complete ms) t.front (c.messages.invariant.rest complete cut) in
    stops-later l first read _ _ (t.raw ∷ []) _ [] c.messages.self c.hear.new.self c.in-Err-hear.error w t.front
    (c.in-Err-hear.ensures.heard l first (read ++ w.front) t.raw w.stands w.going (calm-first complete t.raw _ rest) t.means)

pub returns-in-Err-hear-clause-end : goal.returns-in-Err-hear-clause-end
returns-in-Err-hear-clause-end c = c.in-Err-hear.ensures.end ∙ c.messages.invariant.end

pub returns-in-Err-hear-clause-queues : goal.returns-in-Err-hear-clause-queues
returns-in-Err-hear-clause-queues c = queues-then c.args.self.now c.messages.self c.hear.new.self c.messages.invariant.queues c.in-Err-hear.ensures.queues

pub returns-in-Err-hear-clause-same : goal.returns-in-Err-hear-clause-same
returns-in-Err-hear-clause-same c = hears-then c.args.self.now c.messages.self c.hear.new.self c.messages.invariant.same c.in-Err-hear.ensures.same

pub messages-preserved : goal.messages-preserved
messages-preserved c =
    let t = rw c.in-Ok-Some.field-0-is at c.in-Ok-Some.ensures in
    record {
      same = hears-then c.args.self.now c.messages.self c.hear.new.self c.messages.invariant.same c.in-Ok-More.ensures.same;
      end = (rw c.in-Ok-More.field-0-is at c.in-Ok-More.ensures.end) ∙ c.messages.invariant.end;
      queues = queues-then c.args.self.now c.messages.self c.hear.new.self c.messages.invariant.queues c.in-Ok-More.ensures.queues;
      lower = omega (arith, c.messages.invariant.lower, c.in-Ok-More.ensures.lower);
      rest = λ complete cut. rest-of-batch complete t.raw _ (subst (λ ms. IsRest complete ms) t.front (c.messages.invariant.rest complete cut));
      walked = λ l first read complete cut stands going.
          let w = c.messages.invariant.walked l first read complete cut stands going in
          let calm = calm-first complete t.raw _ (subst (λ ms. IsRest complete ms) t.front (c.messages.invariant.rest complete cut)) in
          walked-on l first read _ _ (t.raw ∷ []) _ c.messages.self c.hear.new.self w t.front
          (rw c.in-Ok-More.field-0-is at (c.in-Ok-More.ensures.heard l first (read ++ w.front) t.raw w.stands w.going calm t.means));
    }

pub returns-in-Ok-None-clause-heard : goal.returns-in-Ok-None-clause-heard
returns-in-Ok-None-clause-heard c l first read complete cut stands going =
    let t = rw c.in-Ok-None.field-0-is at c.in-Ok-None.ensures in
    walked-all l first read _ _ c.messages.self (c.messages.invariant.walked l first read complete cut stands going) t.0

pub returns-in-Err-clause-heard : goal.returns-in-Err-clause-heard
returns-in-Err-clause-heard c l first read complete cut stands going =
    subst (λ (e : Error). Hears l first read c.args.batch [] [] c.messages.self (Err e)) (sym c.refusal.ensures)
    (malformed-later l first read _ _ _ c.messages.self c.in-Err.fault (c.messages.invariant.walked l first read complete cut stands going) c.in-Err.ensures)
