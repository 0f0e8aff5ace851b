use Rattle.std.proofs.Common.{[], ◌∷◌, ◌++◌, Err, refl, ap, sym, subst, ◌∙◌, arith}
use Rattle.pg_spec.specs.RawMessages.{bytes_left, messages, has_bad_header}
use Rattle.pg_types.specs.declared.error.Error.{Error}
use Rattle.pg_startup.specs.Startups.{HearsAll}
use Rattle.pg_startup.specs.declared.transfer.Transfer.{Transfer}
use Rattle.pg_startup.proofs.Walking.{buffer-changed, buffer-hears, buffer-then, queues-buffer, queues-none, queues-then, refused-all, stops-later, walked-all, walked-buffer, walked-ends, walked-none, walked-on, with_buffer}
use Rattle.pg_startup.proofs.startup.Startup.hear_all.Goals as goal

pub batches-init : goal.batches-init
batches-init c = record {
  same = refl;
  end = refl;
  queues = queues-none c.args.self.now c.args.self.now refl refl refl;
  lower = omega arith;
  left = refl;
  walked = λ l first read stands going. walked-none l first read (messages c.args.self.now.bytes.buffer.items) c.args.self.now stands going;
}

pub returns-in-Err-hear_batch-clause-heard : goal.returns-in-Err-hear_batch-clause-heard
returns-in-Err-hear_batch-clause-heard c l first read stands going =
    let t = rw c.in-Ok-Some-Normal.field-0-0-is at (rw c.in-Ok-Some-Normal.field-0-is at c.in-Ok-Some-Normal.ensures) in
    let w = walked-buffer l first read _ _ c.batches.self c.decode.new.buf (c.batches.invariant.walked l first read stands going) in
    stops-later l first read _ _ c.in-Ok-Some-Normal.messages _ _ (with_buffer c.batches.self c.decode.new.buf) c.hear_batch.new.self c.in-Err-hear_batch.error w t.cuts.messages
    (c.in-Err-hear_batch.ensures.heard l first (read ++ w.front) _ t.batch w.stands w.going)

pub returns-in-Err-hear_batch-clause-end : goal.returns-in-Err-hear_batch-clause-end
returns-in-Err-hear_batch-clause-end c = c.in-Err-hear_batch.ensures.end ∙ c.batches.invariant.end

pub returns-in-Err-hear_batch-clause-queues : goal.returns-in-Err-hear_batch-clause-queues
returns-in-Err-hear_batch-clause-queues c =
    queues-then c.args.self.now (with_buffer c.batches.self c.decode.new.buf) c.hear_batch.new.self (queues-buffer c.args.self.now c.batches.self c.decode.new.buf c.batches.invariant.queues) c.in-Err-hear_batch.ensures.queues

pub returns-in-Err-hear_batch-clause-same : goal.returns-in-Err-hear_batch-clause-same
returns-in-Err-hear_batch-clause-same c =
    buffer-then c.args.self.now (with_buffer c.batches.self c.decode.new.buf) c.hear_batch.new.self (buffer-changed c.args.self.now c.batches.self c.decode.new.buf c.batches.invariant.same)
    (buffer-hears (with_buffer c.batches.self c.decode.new.buf) c.hear_batch.new.self c.in-Err-hear_batch.ensures.same)

pub returns-in-Err-hear_aside-clause-heard : goal.returns-in-Err-hear_aside-clause-heard
returns-in-Err-hear_aside-clause-heard c l first read stands going =
    let t = rw c.in-Ok-Some-Async.field-0-0-is at (rw c.in-Ok-Some-Async.field-0-is at c.in-Ok-Some-Async.ensures) in
    let w = walked-buffer l first read _ _ c.batches.self c.decode.new.buf (c.batches.invariant.walked l first read stands going) in
    stops-later l first read _ _ (t.raw ∷ []) _ _ (with_buffer c.batches.self c.decode.new.buf) c.hear_aside.new.self c.in-Err-hear_aside.error w t.cuts.messages
    (c.in-Err-hear_aside.ensures.heard l first (read ++ w.front) t.raw w.stands w.going t.aside t.means)

pub returns-in-Err-hear_aside-clause-end : goal.returns-in-Err-hear_aside-clause-end
returns-in-Err-hear_aside-clause-end c = c.in-Err-hear_aside.ensures.end ∙ c.batches.invariant.end

pub returns-in-Err-hear_aside-clause-queues : goal.returns-in-Err-hear_aside-clause-queues
returns-in-Err-hear_aside-clause-queues c =
    queues-then c.args.self.now (with_buffer c.batches.self c.decode.new.buf) c.hear_aside.new.self (queues-buffer c.args.self.now c.batches.self c.decode.new.buf c.batches.invariant.queues) c.in-Err-hear_aside.ensures.queues

pub returns-in-Err-hear_aside-clause-same : goal.returns-in-Err-hear_aside-clause-same
returns-in-Err-hear_aside-clause-same c =
    buffer-then c.args.self.now (with_buffer c.batches.self c.decode.new.buf) c.hear_aside.new.self (buffer-changed c.args.self.now c.batches.self c.decode.new.buf c.batches.invariant.same)
    (buffer-hears (with_buffer c.batches.self c.decode.new.buf) c.hear_aside.new.self c.in-Err-hear_aside.ensures.same)

pub batches-preserved-in-Ok-More : goal.batches-preserved-in-Ok-More
batches-preserved-in-Ok-More c =
    let t = rw c.in-Ok-Some-Normal.field-0-0-is at (rw c.in-Ok-Some-Normal.field-0-is at c.in-Ok-Some-Normal.ensures) in
    let batch = c.in-Ok-Some-Normal.messages in
    let mid = with_buffer c.batches.self c.decode.new.buf in
    let u = c.hear_batch.new.self in
    record {
      same = buffer-then c.args.self.now mid u (buffer-changed c.args.self.now c.batches.self c.decode.new.buf c.batches.invariant.same) (buffer-hears mid u c.in-Ok-More.ensures.same);
      end = (rw c.in-Ok-More.field-0-is at c.in-Ok-More.ensures.end) ∙ c.batches.invariant.end;
      queues = queues-then c.args.self.now mid u (queues-buffer c.args.self.now c.batches.self c.decode.new.buf c.batches.invariant.queues) c.in-Ok-More.ensures.queues;
      lower = omega (arith, c.batches.invariant.lower, c.in-Ok-More.ensures.lower);
      left = ap (λ (x : Transfer). bytes_left x.buffer.items) c.in-Ok-More.ensures.same ∙ sym t.cuts.left ∙ c.batches.invariant.left;
      walked = λ l first read stands going.
          let w = walked-buffer l first read _ _ c.batches.self c.decode.new.buf (c.batches.invariant.walked l first read stands going) in
          walked-on l first read _ _ batch _ mid u w
          (t.cuts.messages ∙ ap (λ (x : Transfer). batch ++ messages x.buffer.items) (sym c.in-Ok-More.ensures.same))
          (rw c.in-Ok-More.field-0-is at (c.in-Ok-More.ensures.heard l first (read ++ w.front) _ t.batch w.stands w.going));
    }

pub batches-preserved : goal.batches-preserved
batches-preserved c =
    let t = rw c.in-Ok-Some-Async.field-0-0-is at (rw c.in-Ok-Some-Async.field-0-is at c.in-Ok-Some-Async.ensures) in
    let mid = with_buffer c.batches.self c.decode.new.buf in
    let u = c.hear_aside.new.self in
    record {
      same = buffer-then c.args.self.now mid u (buffer-changed c.args.self.now c.batches.self c.decode.new.buf c.batches.invariant.same) (buffer-hears mid u c.in-Ok-More-hear_aside.ensures.same);
      end = (rw c.in-Ok-More-hear_aside.field-0-is at c.in-Ok-More-hear_aside.ensures.end) ∙ c.batches.invariant.end;
      queues = queues-then c.args.self.now mid u (queues-buffer c.args.self.now c.batches.self c.decode.new.buf c.batches.invariant.queues) c.in-Ok-More-hear_aside.ensures.queues;
      lower = omega (arith, c.batches.invariant.lower, c.in-Ok-More-hear_aside.ensures.lower);
      left = ap (λ (x : Transfer). bytes_left x.buffer.items) c.in-Ok-More-hear_aside.ensures.same ∙ sym t.cuts.left ∙ c.batches.invariant.left;
      walked = λ l first read stands going.
          let w = walked-buffer l first read _ _ c.batches.self c.decode.new.buf (c.batches.invariant.walked l first read stands going) in
          walked-on l first read _ _ (t.raw ∷ []) _ mid u w
          (t.cuts.messages ∙ ap (λ (x : Transfer). t.raw ∷ messages x.buffer.items) (sym c.in-Ok-More-hear_aside.ensures.same))
          (rw c.in-Ok-More-hear_aside.field-0-is at (c.in-Ok-More-hear_aside.ensures.heard l first (read ++ w.front) t.raw w.stands w.going t.aside t.means));
    }

pub returns-in-Ok-Done-clause-heard : goal.returns-in-Ok-Done-clause-heard
returns-in-Ok-Done-clause-heard c l first read stands going =
    let t = rw c.in-Ok-Some-Normal.field-0-0-is at (rw c.in-Ok-Some-Normal.field-0-is at c.in-Ok-Some-Normal.ensures) in
    let batch = c.in-Ok-Some-Normal.messages in
    let w = walked-buffer l first read _ _ c.batches.self c.decode.new.buf (c.batches.invariant.walked l first read stands going) in (
      ap (λ (x : Transfer). bytes_left x.buffer.items) c.in-Ok-Done.ensures.same ∙ sym t.cuts.left ∙ c.batches.invariant.left,
      walked-ends l first read _ _ batch _ (with_buffer c.batches.self c.decode.new.buf) c.hear_batch.new.self w
          (t.cuts.messages ∙ ap (λ (x : Transfer). batch ++ messages x.buffer.items) (sym c.in-Ok-Done.ensures.same))
          (rw c.in-Ok-Done.field-0-is at (c.in-Ok-Done.ensures.heard l first (read ++ w.front) _ t.batch w.stands w.going)),
    )

pub returns-in-Ok-Done-clause-end : goal.returns-in-Ok-Done-clause-end
returns-in-Ok-Done-clause-end c = rw c.in-Ok-Done.field-0-is at c.in-Ok-Done.ensures.end

pub returns-in-Ok-Done-clause-queues : goal.returns-in-Ok-Done-clause-queues
returns-in-Ok-Done-clause-queues c =
    queues-then c.args.self.now (with_buffer c.batches.self c.decode.new.buf) c.hear_batch.new.self (queues-buffer c.args.self.now c.batches.self c.decode.new.buf c.batches.invariant.queues) c.in-Ok-Done.ensures.queues

pub returns-in-Ok-Done-clause-same : goal.returns-in-Ok-Done-clause-same
returns-in-Ok-Done-clause-same c =
    buffer-then c.args.self.now (with_buffer c.batches.self c.decode.new.buf) c.hear_batch.new.self (buffer-changed c.args.self.now c.batches.self c.decode.new.buf c.batches.invariant.same)
    (buffer-hears (with_buffer c.batches.self c.decode.new.buf) c.hear_batch.new.self c.in-Ok-Done.ensures.same)

pub returns-in-Ok-Done-hear_aside-clause-heard : goal.returns-in-Ok-Done-hear_aside-clause-heard
returns-in-Ok-Done-hear_aside-clause-heard c l first read stands going =
    let t = rw c.in-Ok-Some-Async.field-0-0-is at (rw c.in-Ok-Some-Async.field-0-is at c.in-Ok-Some-Async.ensures) in
    let w = walked-buffer l first read _ _ c.batches.self c.decode.new.buf (c.batches.invariant.walked l first read stands going) in (
      ap (λ (x : Transfer). bytes_left x.buffer.items) c.in-Ok-Done-hear_aside.ensures.same ∙ sym t.cuts.left ∙ c.batches.invariant.left,
      walked-ends l first read _ _ (t.raw ∷ []) _ (with_buffer c.batches.self c.decode.new.buf) c.hear_aside.new.self w
          (t.cuts.messages ∙ ap (λ (x : Transfer). t.raw ∷ messages x.buffer.items) (sym c.in-Ok-Done-hear_aside.ensures.same))
          (rw c.in-Ok-Done-hear_aside.field-0-is at (c.in-Ok-Done-hear_aside.ensures.heard l first (read ++ w.front) t.raw w.stands w.going t.aside t.means)),
    )

pub returns-in-Ok-Done-hear_aside-clause-end : goal.returns-in-Ok-Done-hear_aside-clause-end
returns-in-Ok-Done-hear_aside-clause-end c = rw c.in-Ok-Done-hear_aside.field-0-is at c.in-Ok-Done-hear_aside.ensures.end

pub returns-in-Ok-Done-hear_aside-clause-queues : goal.returns-in-Ok-Done-hear_aside-clause-queues
returns-in-Ok-Done-hear_aside-clause-queues c =
    queues-then c.args.self.now (with_buffer c.batches.self c.decode.new.buf) c.hear_aside.new.self (queues-buffer c.args.self.now c.batches.self c.decode.new.buf c.batches.invariant.queues) c.in-Ok-Done-hear_aside.ensures.queues

pub returns-in-Ok-Done-hear_aside-clause-same : goal.returns-in-Ok-Done-hear_aside-clause-same
returns-in-Ok-Done-hear_aside-clause-same c =
    buffer-then c.args.self.now (with_buffer c.batches.self c.decode.new.buf) c.hear_aside.new.self (buffer-changed c.args.self.now c.batches.self c.decode.new.buf c.batches.invariant.same)
    (buffer-hears (with_buffer c.batches.self c.decode.new.buf) c.hear_aside.new.self c.in-Ok-Done-hear_aside.ensures.same)

pub returns-in-Ok-None-clause-none : goal.returns-in-Ok-None-clause-none
returns-in-Ok-None-clause-none c =
    let t = rw c.in-Ok-None.field-0-is at c.in-Ok-None.ensures in
    (ap messages t.same ∙ t.none, ap bytes_left t.same ∙ t.left ∙ sym t.same, ap has_bad_header t.same ∙ t.header)

pub returns-in-Ok-None-clause-heard : goal.returns-in-Ok-None-clause-heard
returns-in-Ok-None-clause-heard c l first read stands going =
    let t = rw c.in-Ok-None.field-0-is at c.in-Ok-None.ensures in
    let w = walked-buffer l first read _ _ c.batches.self c.decode.new.buf (c.batches.invariant.walked l first read stands going) in
    let h = walked-all l first read _ _ (with_buffer c.batches.self c.decode.new.buf) w t.none in
    record {
      left = ap bytes_left t.same ∙ c.batches.invariant.left;
      none = ap messages t.same ∙ t.none;
      whole = ap bytes_left t.same ∙ t.left ∙ sym t.same;
      header = ap has_bad_header t.same ∙ t.header;
      going = h.1;
      stands = h.2;
    }

pub returns-in-Ok-None-clause-queues : goal.returns-in-Ok-None-clause-queues
returns-in-Ok-None-clause-queues c = queues-buffer c.args.self.now c.batches.self c.decode.new.buf c.batches.invariant.queues

pub returns-in-Ok-None-clause-same : goal.returns-in-Ok-None-clause-same
returns-in-Ok-None-clause-same c = buffer-changed c.args.self.now c.batches.self c.decode.new.buf c.batches.invariant.same

pub returns-in-Err-clause-heard : goal.returns-in-Err-clause-heard
returns-in-Err-clause-heard c l first read stands going =
    let old = c.args.self.now.bytes.buffer.items in
    let new = c.decode.new.buf.items in
    let t = with_buffer c.batches.self c.decode.new.buf in
    subst (λ (e : Error). HearsAll l first read old new t (Err e)) (sym c.refusal.ensures)
    (refused-all l first read old c.batches.self.bytes.buffer.items new c.batches.self t c.in-Err.fault c.batches.invariant.left refl
    (c.batches.invariant.walked l first read stands going) c.in-Err.ensures)

pub returns-in-Err-clause-queues : goal.returns-in-Err-clause-queues
returns-in-Err-clause-queues c = queues-buffer c.args.self.now c.batches.self c.decode.new.buf c.batches.invariant.queues

pub returns-in-Err-clause-same : goal.returns-in-Err-clause-same
returns-in-Err-clause-same c = buffer-changed c.args.self.now c.batches.self c.decode.new.buf c.batches.invariant.same
