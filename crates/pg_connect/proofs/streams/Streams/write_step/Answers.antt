use Rattle.std.proofs.Common.{[], subst, ◌∙◌, true, Ok}
use Rattle.pg_spec.specs.Frames.{terminate_frame}
use Rattle.pg_connect.specs.declared.ends.PartsEnd.{PartsEnd}
use Rattle.pg_connect.specs.declared.streams.Streams.{Streams}
use Rattle.pg_connect.specs.Passes.{Passes}
use Rattle.pg_connect.specs.Ends.{PartsEnds}
use Rattle.pg_connect.proofs.Joining.{passes-joined, goes-also}
use Rattle.pg_connect.proofs.Passing.{untouched_first}
use Rattle.pg_connect.proofs.Sends.{passes_goodbye}
use Rattle.pg_connect.proofs.Closing.{written_closing, written_goodbye, written_open, goes-ends}
use Rattle.pg_connect.proofs.streams.Streams.write_step.Goals as goal

pub returns-then-self-clause-goes : goal.returns-then-self-clause-goes
returns-then-self-clause-goes g c = record {
  events = [];
  calls = tt;
  became = g.met.E.Desk.stays c.args.hub.now;
  passes = c.offer_last.ensures.passes;
  ended = written_closing c.args.self.now c.offer_last.new.self (g.L.Link.view c.args.link.now) (g.L.Link.view c.offer_last.new.link) c.args.may_close c.offer_last.result c.if-self.true c.offer_last.ensures.closing c.offer_last.ensures.end;
}

pub returns-then-may_close-clause-goes : goal.returns-then-may_close-clause-goes
returns-then-may_close-clause-goes g c =
    let s = c.args.self.now in
    let mid = c.send_parts.new.self in
    let new = c.offer_last-then-may_close.new.self in
    let a = g.L.Link.view c.args.link.now in
    let b = g.L.Link.view c.send_parts.new.link in
    let d = g.L.Link.view c.offer_last-then-may_close.new.link in
    let goes = c.in-Ok-NoMore.ensures.goes in
    let read = c.in-Ok-NoMore.ensures.only.unread ∙ c.requires in
    let ends = subst (λ (e : PartsEnd). PartsEnds mid a b (Ok e) goes.events) c.in-Ok-NoMore.field-0-is goes.ended in
    let last = subst (λ (x : Streams). Passes x new b d [] []) c.queue_terminate.ensures c.offer_last-then-may_close.ensures.passes in
    goes-also _ _ _ s mid new a b d [] [] _ _ goes
    (passes-joined mid (record mid { unsent = terminate_frame; closing = true }) new b b d [] [] [] [] (passes_goodbye mid b read ends.0 c.in-Ok-NoMore.ensures.closing) last)
    (λ es was. written_goodbye s c.queue_terminate.new.self new a b d c.args.may_close c.offer_last-then-may_close.result es goes.passes.link
    (untouched_first s mid new a b d goes.events [] [] [] goes.passes
    (passes-joined mid (record mid { unsent = terminate_frame; closing = true }) new b b d [] [] [] [] (passes_goodbye mid b read ends.0 c.in-Ok-NoMore.ensures.closing) last)) c.if-may_close.true
    c.offer_last-then-may_close.ensures.closing
    (subst (λ (e : PartsEnd). PartsEnds mid a b (Ok e) es) c.in-Ok-NoMore.field-0-is was).1 c.offer_last-then-may_close.ensures.end)

pub returns-else-may_close-clause-goes : goal.returns-else-may_close-clause-goes
returns-else-may_close-clause-goes g c =
    let mid = c.send_parts.new.self in
    let a = g.L.Link.view c.args.link.now in
    let b = g.L.Link.view c.send_parts.new.link in
    goes-ends _ _ _ _ _ _ _ [] _ _ c.in-Ok-NoMore.ensures.goes
    (λ es was. written_open c.args.self.now mid a b c.args.may_close es c.if-may_close.false c.in-Ok-NoMore.ensures.closing (subst (λ (e : PartsEnd). PartsEnds mid a b (Ok e) es) c.in-Ok-NoMore.field-0-is was))
