use Rattle.std.proofs.Common.{◌≡◌, ◌-◌, ◌∙◌, ℕ, length, arith, sym, ap, subst, suc, drop, false}
use Rattle.pg_core.specs.Searches.{oid_of}
use Rattle.pg_search.specs.declared.frame.Frame.{Frame}
use Rattle.pg_search.specs.Frames.{frame_of}
use Rattle.pg_search.proofs.Busy.{busy_in, may-not-more, may-not-again, may-find, busy-here, free-from, none-behind, all-free}
use Rattle.pg_search.proofs.stack.Stack.may_find.Goals as goal

pub returns-then-place-ge-MOST_IN_PROGRESS : goal.returns-then-place-ge-MOST_IN_PROGRESS
returns-then-place-ge-MOST_IN_PROGRESS c = sym (may-not-more c.args.self.now c.args.oid (omega (arith, c.args.self.now.frames.ok.0)))

pub loop-place-init : goal.loop-place-init
loop-place-init c =
    let e : c.len-place.result ≡ length c.args.self.now.frames.items = omega (arith, c.args.self.now.frames.ok.0) in
    (omega arith, none-behind c.args.oid c.len-place.result c.args.self.now.frames.items e)

pub returns-then-oid : goal.returns-then-oid
returns-then-oid c =
    sym (may-not-again c.args.self.now c.args.oid (busy-here c.args.oid (c.loop-place.place - 1) c.args.self.now.frames.items c.index.result.now (omega arith)
    (ap (λ (f : Frame). oid_of (frame_of f)) (sym c.index.ensures) ∙ sym c.oid.ensures ∙ c.if-oid.true)))

pub loop-place-preserved : goal.loop-place-preserved
loop-place-preserved c =
    let next : c.loop-place.place ≡ suc (c.loop-place.place - 1) = omega arith in (
      omega arith,
      free-from c.args.oid (c.loop-place.place - 1) c.args.self.now.frames.items c.index.result.now (omega arith)
          (λ e. c.if-oid.false (c.oid.ensures ∙ ap (λ (f : Frame). oid_of (frame_of f)) c.index.ensures ∙ e))
          (subst (λ (k : ℕ). busy_in c.args.oid (drop k c.args.self.now.frames.items) ≡ false) next c.loop-place.invariant.1),
    )

pub returns : goal.returns
returns c = sym (may-find c.args.self.now c.args.oid (omega (arith, c.args.self.now.frames.ok.0)) (all-free c.args.oid c.loop-place.place c.args.self.now.frames.items (omega arith) c.loop-place.invariant.1))
