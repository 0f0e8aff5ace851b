use Rattle.std.proofs.Common.{[], refl, ◌∙◌, None, Ok, Err, Some}
use Rattle.pg_connect.specs.Reads.{PassEnds, AllEnds, HandedIn, HandedAll, NoneFull}
use Rattle.pg_connect.proofs.Joining.{keeps_same, untouched_same}
use Rattle.pg_connect.proofs.Arriving.{reads_nothing}
use Rattle.pg_connect.proofs.Passing.{none_full-then}
use Rattle.pg_connect.proofs.Passing.{goes-both, goes-quietly, hands-both, went_on, stopped, any_link, came_before, handed_same, pass_stopped, pass_refused}
use Rattle.pg_connect.proofs.streams.Streams.pass_all.Goals as goal

pub front-init : goal.front-init
front-init g c = record {
  goes = λ v. goes-quietly _ _ (g.met.E.Desk.stays c.args.hub.now) c.args.self.now c.args.self.now v v [] NoneFull
      (reads_nothing c.args.self.now c.args.self.now v v c.requires.unread (untouched_same v)
      (record { buffer = refl; unread = c.requires.unread; held = refl; delayed = refl; parameters = refl; given = refl; delivered = refl })
      (record { unsent = refl; closing = refl; limit = refl; ended = refl; at_end = refl }) refl (keeps_same v)) refl;
  held = c.requires.held;
  delayed = c.requires.delayed;
  unread = c.requires.unread;
  closing = refl;
  at_end = refl;
}

pub front-smaller : goal.front-smaller
front-smaller g c =
    let w = c.in-Ok-None in
    (went_on _ _ _ c.front.self c.pass_on.new.self any_link any_link w.field-0 w.field-0-is (w.ensures.goes any_link)).ended.0

pub front-preserved : goal.front-preserved
front-preserved g c =
    let w = c.in-Ok-None in
    let s = c.front.self in
    let t = c.pass_on.new.self in
    record {
      goes = λ v. goes-both _ g.met.E.Desk.joins _ _ _ _ s t v v v [] [] NoneFull (PassEnds s t (Ok None)) NoneFull
          (c.front.invariant.goes v) (went_on _ _ _ s t v v w.field-0 w.field-0-is (w.ensures.goes v)) (λ es fs so was. none_full-then es fs so was.2);
      held = (went_on _ _ _ s t any_link any_link w.field-0 w.field-0-is (w.ensures.goes any_link)).ended.1;
      delayed = w.ensures.delayed;
      unread = w.ensures.unread;
      closing = w.ensures.closing ∙ c.front.invariant.closing;
      at_end = w.ensures.at_end ∙ c.front.invariant.at_end;
    }

pub returns-in-Ok-Some-clause-goes : goal.returns-in-Ok-Some-clause-goes
returns-in-Ok-Some-clause-goes g c =
    let w = c.in-Ok-Some in
    let s = c.front.self in
    let t = c.pass_on.new.self in
    λ l. hands-both _ g.met.E.Desk.joins _ _ _ c.args.self.now s t l l l (HandedIn (Ok (Some w.step))) (HandedAll (Ok w.step)) NoneFull (PassEnds s t (Ok (Some w.step))) (AllEnds c.args.self.now t (Ok w.step))
    (c.front.invariant.goes l) (stopped _ _ _ s t l l w.field-0 w.step w.field-0-is (w.ensures.goes l)) (handed_same w.step)
    (λ es fs so was. pass_stopped c.args.self.now s t w.step es fs
    (let before = c.front.invariant.goes any_link in came_before c.args.self.now s before.events [] before.passes c.front.invariant.unread) so was)

pub returns-in-Err-clause-goes : goal.returns-in-Err-clause-goes
returns-in-Err-clause-goes g c =
    let s = c.front.self in
    let t = c.pass_on.new.self in
    λ l. hands-both _ g.met.E.Desk.joins _ _ _ c.args.self.now s t l l l (HandedIn (Err c.in-Err.e)) (HandedAll (Err c.in-Err.e)) NoneFull (PassEnds s t (Err c.in-Err.e)) (AllEnds c.args.self.now t (Err c.in-Err.e))
    (c.front.invariant.goes l) (c.in-Err.ensures.goes l) (λ handed is. is) (λ es fs so was. pass_refused c.args.self.now s t c.in-Err.e es fs was)
