use Rattle.std.proofs.Common.{inl, [], List, map, refl, ap, subst, ◌∙◌, arith, Bool, true, Option, Ok, Err}
use Rattle.pg_wire.specs.declared.body.ErrorResponseBody.{ErrorResponseBody}
use Rattle.pg_errors.specs.declared.async_message.AsyncMessage.{AsyncMessage}
use Rattle.pg_connect.specs.declared.ends.ReadEnd.{ReadEnd}
use Rattle.pg_connect.specs.declared.ends.ReadEnd.TheVariants as ending
use Rattle.pg_connect.specs.Passes.{PassesOn, notice_of, waiting}
use Rattle.std.specs.declared.alloc.Global.{Global}
use Rattle.bytes.specs.declared.unique.BytesMut.{BytesMut}
use Rattle.pg_connect.specs.Reads.{DeliverEnds, NoneFull, ReadEnds, ReadStops, HandedBy, HandedLate, LateEnds}
use Rattle.pg_connect.proofs.Closing.{goes-ends}
use Rattle.pg_connect.proofs.Pacing.{paced-still, paced-behind, still_stops, stops_before}
use Rattle.pg_connect.proofs.Passing.{goes-behind, hands-quietly, any_link, given_in, given_same, none_handed, held_refused, late_refused, ends_behind}
use Rattle.pg_connect.proofs.Within.{within-any}
use Rattle.pg_connect.proofs.streams.Streams.read_step.Goals as goal

pub returns-in-Ok-Some-clause-goes : goal.returns-in-Ok-Some-clause-goes
returns-in-Ok-Some-clause-goes g c =
    let s = c.args.self.now in
    let t = c.hand_delayed.new.self in
    let v = g.L.Link.view c.args.link.now in
    let w = c.in-Ok-Some in
    let on = subst (λ (o : Option AsyncMessage). PassesOn s t v v [] (HandedLate (Ok o))) w.field-0-is (w.ensures.passes v) in
    paced-still _ _ _ s t v _ _ (ReadStops s t (Ok (ending.Handed w.message))) (hands-quietly _ _ (g.met.E.Desk.stays c.args.hub.now) s t v v _ _ _ on (λ handed is. is) tt) w.ensures.given
    (inl (record {
      delayed = subst (λ (o : Option AsyncMessage). LateEnds s t (Ok o)) w.field-0-is w.ensures.end;
      none_read = refl;
      buffer = ap (λ (b : BytesMut Global). b.items) w.ensures.buffer;
      held = ap waiting w.ensures.held;
    }))

pub returns-in-Err-clause-goes : goal.returns-in-Err-clause-goes
returns-in-Err-clause-goes g c =
    let v = g.L.Link.view c.args.link.now in
    let w = c.in-Err in
    paced-still _ _ _ c.args.self.now c.hand_delayed.new.self v _ _ (ReadStops c.args.self.now c.hand_delayed.new.self (Err w.e))
    (hands-quietly _ _ (g.met.E.Desk.stays c.args.hub.now) c.args.self.now c.hand_delayed.new.self v v _ _ _ (w.ensures.passes v) (λ handed is. is)
    (late_refused c.hand_delayed.new.self v v w.e w.ensures.end)) w.ensures.given (still_stops c.args.self.now c.hand_delayed.new.self w.e)

pub returns-in-Ok-false-clause-goes : goal.returns-in-Ok-false-clause-goes
returns-in-Ok-false-clause-goes g c =
    let s = c.args.self.now in
    let mid = c.hand_delayed.new.self in
    let t = c.deliver_held.new.self in
    let v = g.L.Link.view c.args.link.now in
    let w = c.in-Ok-None in
    let first = none_handed s mid v v [] (subst (λ (o : Option AsyncMessage). PassesOn s mid v v [] (HandedLate (Ok o))) w.field-0-is (w.ensures.passes v)) in
    paced-still _ _ _ s t v (HandedBy (Ok ending.Full)) (ReadEnds t v v (Ok ending.Full)) (ReadStops s t (Ok ending.Full))
    (record {
      handed = [];
      is = refl;
      goes = goes-behind _ _ _ s mid t v v v [] [] (DeliverEnds t (Ok c.in-Ok-false.field-0)) _ first (c.in-Ok-false.ensures.goes v)
          (λ es was. (
            subst (λ (b : Bool). DeliverEnds t (Ok b) es) c.in-Ok-false.field-0-test was,
            ap (λ (x : List ErrorResponseBody). map notice_of x)
                (c.in-Ok-false.ensures.delayed ∙ subst (λ (o : Option AsyncMessage). LateEnds s mid (Ok o)) w.field-0-is w.ensures.end),
          ));
    }) (given_in _ _ _ mid t _ (c.in-Ok-false.ensures.goes any_link) ∙ w.ensures.given) tt

pub returns-in-Err-deliver_held-clause-goes : goal.returns-in-Err-deliver_held-clause-goes
returns-in-Err-deliver_held-clause-goes g c =
    let s = c.args.self.now in
    let mid = c.hand_delayed.new.self in
    let t = c.deliver_held.new.self in
    let v = g.L.Link.view c.args.link.now in
    let w = c.in-Ok-None in
    let e = c.in-Err-deliver_held.e in
    let first = none_handed s mid v v [] (subst (λ (o : Option AsyncMessage). PassesOn s mid v v [] (HandedLate (Ok o))) w.field-0-is (w.ensures.passes v)) in
    paced-still _ _ _ s t v (HandedBy (Err e)) (ReadEnds t v v (Err e)) (ReadStops s t (Err e))
    (record {
      handed = [];
      is = refl;
      goes = goes-behind _ _ _ s mid t v v v [] [] (DeliverEnds t (Err e)) _ first (c.in-Err-deliver_held.ensures.goes v)
          (λ es was. held_refused t v v e es
          (ap (λ (x : List ErrorResponseBody). map notice_of x)
          (c.in-Err-deliver_held.ensures.delayed ∙ subst (λ (o : Option AsyncMessage). LateEnds s mid (Ok o)) w.field-0-is w.ensures.end)) was);
    }) (given_in _ _ _ mid t _ (c.in-Err-deliver_held.ensures.goes any_link) ∙ w.ensures.given) (still_stops s t e)

pub read_link-requires-clause-held : goal.read_link-requires-clause-held
read_link-requires-clause-held g c =
    let t = c.deliver_held.new.self in
    let goes = c.in-Ok-true.ensures.goes any_link in
    (subst (λ (b : Bool). DeliverEnds t (Ok b) goes.events) c.in-Ok-true.field-0-test goes.ended).0

pub read_link-requires-clause-limit : goal.read_link-requires-clause-limit
read_link-requires-clause-limit g c = omega (arith, (c.in-Ok-true.ensures.goes any_link).passes.limit, c.in-Ok-None.ensures.limit, c.requires.limit)

pub read_link-requires-clause-given : goal.read_link-requires-clause-given
read_link-requires-clause-given g c =
    let goes = c.in-Ok-true.ensures.goes any_link in
    omega (arith, goes.passes.limit, given_same c.hand_delayed.new.self c.deliver_held.new.self goes.events [] goes.passes, c.in-Ok-None.ensures.limit, c.in-Ok-None.ensures.given, c.requires.given)

pub read_link-requires-clause-delayed : goal.read_link-requires-clause-delayed
read_link-requires-clause-delayed g c =
    c.in-Ok-true.ensures.delayed ∙ subst (λ (o : Option AsyncMessage). LateEnds c.args.self.now c.hand_delayed.new.self (Ok o)) c.in-Ok-None.field-0-is c.in-Ok-None.ensures.end

pub returns-in-Ok-true-clause-goes : goal.returns-in-Ok-true-clause-goes
returns-in-Ok-true-clause-goes g c =
    let s = c.args.self.now in
    let mid = c.hand_delayed.new.self in
    let t = c.deliver_held.new.self in
    let u = c.read_link.new.self in
    let v = g.L.Link.view c.args.link.now in
    let n = g.L.Link.view c.read_link.new.link in
    let w = c.in-Ok-None in
    let first = none_handed s mid v v [] (subst (λ (o : Option AsyncMessage). PassesOn s mid v v [] (HandedLate (Ok o))) w.field-0-is (w.ensures.passes v)) in
    let so_far = goes-behind g.E.Desk.becomes c.args.hub.now c.deliver_held.new.hub s mid t v v v [] [] (DeliverEnds t (Ok c.in-Ok-true.field-0)) (DeliverEnds t (Ok true)) first
    (c.in-Ok-true.ensures.goes v) (λ es was. subst (λ (b : Bool). DeliverEnds t (Ok b) es) c.in-Ok-true.field-0-test was) in
    let late = c.in-Ok-true.ensures.delayed ∙ subst (λ (o : Option AsyncMessage). LateEnds s mid (Ok o)) w.field-0-is w.ensures.end in
    paced-behind _ g.met.E.Desk.joins _ _ _ s t u v n (HandedBy c.read_link.result) (ReadEnds u v n c.read_link.result) (ReadEnds u v n c.read_link.result)
    (ReadStops t u c.read_link.result) (ReadStops s u c.read_link.result)
    (goes-ends _ _ _ s t v v [] (DeliverEnds t (Ok true)) NoneFull so_far (λ es was. was.1)) c.read_link.ensures.goes
    (given_in _ _ _ mid t _ (c.in-Ok-true.ensures.goes any_link) ∙ w.ensures.given)
    (ap (λ (b : BytesMut Global). b.items) (c.in-Ok-true.ensures.buffer ∙ w.ensures.buffer))
    (ap (λ (x : List ErrorResponseBody). map notice_of x) late) so_far.ended.0 c.in-Ok-true.ensures.unread
    (λ es fs was. ends_behind u v n c.read_link.result es fs c.read_link.ensures.delayed was)
    (λ got piece was. stops_before s t u c.read_link.result got piece (ap (λ (b : BytesMut Global). b.items) (c.in-Ok-true.ensures.buffer ∙ w.ensures.buffer)) late was)

pub returns-in-Ok-false-clause-within : goal.returns-in-Ok-false-clause-within
returns-in-Ok-false-clause-within g c =
    let goes = c.in-Ok-false.ensures.goes any_link in
    omega (arith, goes.passes.limit, given_same c.hand_delayed.new.self c.deliver_held.new.self goes.events [] goes.passes, c.in-Ok-None.ensures.limit, c.in-Ok-None.ensures.given, c.requires.given)

pub returns-in-Err-deliver_held-clause-within : goal.returns-in-Err-deliver_held-clause-within
returns-in-Err-deliver_held-clause-within g c =
    let t = c.deliver_held.new.self in
    let goes = c.in-Err-deliver_held.ensures.goes any_link in
    within-any {A = ReadEnd} t (Err c.in-Err-deliver_held.e)
    (omega (arith, goes.passes.limit, given_same c.hand_delayed.new.self t goes.events [] goes.passes, c.in-Ok-None.ensures.limit, c.in-Ok-None.ensures.given, c.requires.given))
