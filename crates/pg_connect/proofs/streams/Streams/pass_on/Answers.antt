use Rattle.std.proofs.Common.{◌<◌, [], length, refl, sym, ap, subst, Ok, Err, Bool}
use Rattle.pg_connect.specs.declared.ends.Off.TheVariants as off
use Rattle.pg_connect.specs.Reads.{DeliverEnds}
use Rattle.pg_connect.proofs.Passing.{none_handed, goes-behind, hands-quietly, off_refused, deliver_refused, taken_off}
use Rattle.pg_connect.proofs.streams.Streams.pass_on.Goals as goal

pub returns-in-Ok-true-clause-goes : goal.returns-in-Ok-true-clause-goes
returns-in-Ok-true-clause-goes g c =
    let s = c.args.self.now in
    let mid = c.take_off.new.self in
    let new = c.deliver_held.new.self in
    let took = taken_off s mid off.Held c.in-Ok-Held.field-0 c.in-Ok-Held.field-0-is c.in-Ok-Held.ensures.passes c.in-Ok-Held.ensures.end in
    λ l. record {
      handed = [];
      is = refl;
      goes = goes-behind _ _ _ s mid new l l l [] [] (DeliverEnds new (Ok c.in-Ok-true.field-0)) _ (none_handed s mid l l [] (took.passes l)) (c.in-Ok-true.ensures.goes l)
          (λ es was. (
            subst (λ x. length x < length s.buffer.items) (sym (ap (λ b. b.items) c.in-Ok-true.ensures.buffer)) took.ends,
            (subst (λ (b : Bool). DeliverEnds new (Ok b) es) c.in-Ok-true.field-0-test was).0,
            (subst (λ (b : Bool). DeliverEnds new (Ok b) es) c.in-Ok-true.field-0-test was).1,
          ));
    }

pub returns-in-Ok-false-clause-goes : goal.returns-in-Ok-false-clause-goes
returns-in-Ok-false-clause-goes g c =
    let s = c.args.self.now in
    let mid = c.take_off.new.self in
    let new = c.deliver_held.new.self in
    let took = taken_off s mid off.Held c.in-Ok-Held.field-0 c.in-Ok-Held.field-0-is c.in-Ok-Held.ensures.passes c.in-Ok-Held.ensures.end in
    λ l. record {
      handed = [];
      is = refl;
      goes = goes-behind _ _ _ s mid new l l l [] [] (DeliverEnds new (Ok c.in-Ok-false.field-0)) _ (none_handed s mid l l [] (took.passes l)) (c.in-Ok-false.ensures.goes l)
          (λ es was. subst (λ (b : Bool). DeliverEnds new (Ok b) es) c.in-Ok-false.field-0-test was);
    }

pub returns-in-Err-deliver_held-clause-goes : goal.returns-in-Err-deliver_held-clause-goes
returns-in-Err-deliver_held-clause-goes g c =
    let s = c.args.self.now in
    let mid = c.take_off.new.self in
    let new = c.deliver_held.new.self in
    let took = taken_off s mid off.Held c.in-Ok-Held.field-0 c.in-Ok-Held.field-0-is c.in-Ok-Held.ensures.passes c.in-Ok-Held.ensures.end in
    λ l. record {
      handed = [];
      is = refl;
      goes = goes-behind _ _ _ s mid new l l l [] [] (DeliverEnds new (Err c.in-Err-deliver_held.e)) _ (none_handed s mid l l [] (took.passes l)) (c.in-Err-deliver_held.ensures.goes l)
          (λ es was. deliver_refused s new c.in-Err-deliver_held.e es was);
    }

pub returns-in-Ok-Kept-clause-goes : goal.returns-in-Ok-Kept-clause-goes
returns-in-Ok-Kept-clause-goes g c =
    let s = c.args.self.now in
    let new = c.take_off.new.self in
    let took = taken_off s new off.Kept c.in-Ok-Kept.field-0 c.in-Ok-Kept.field-0-is c.in-Ok-Kept.ensures.passes c.in-Ok-Kept.ensures.end in
    λ l. hands-quietly _ _ (g.met.E.Desk.stays c.args.hub.now) s new l l _ _ _ (took.passes l) (λ handed is. is) (took.ends.0, took.ends.1, refl)

pub returns-in-Ok-Handed-clause-goes : goal.returns-in-Ok-Handed-clause-goes
returns-in-Ok-Handed-clause-goes g c =
    let s = c.args.self.now in
    let new = c.take_off.new.self in
    let w = c.in-Ok-Handed in
    let took = taken_off s new (off.Handed w.message) w.field-0 w.field-0-is w.ensures.passes w.ensures.end in
    λ l. hands-quietly _ _ (g.met.E.Desk.stays c.args.hub.now) s new l l _ _ _ (took.passes l) (λ handed is. is) took.ends

pub returns-in-Ok-Nothing-clause-goes : goal.returns-in-Ok-Nothing-clause-goes
returns-in-Ok-Nothing-clause-goes g c =
    let s = c.args.self.now in
    let new = c.take_off.new.self in
    let took = taken_off s new off.Nothing c.in-Ok-Nothing.field-0 c.in-Ok-Nothing.field-0-is c.in-Ok-Nothing.ensures.passes c.in-Ok-Nothing.ensures.end in
    λ l. hands-quietly _ _ (g.met.E.Desk.stays c.args.hub.now) s new l l _ _ _ (took.passes l) (λ handed is. is) (took.ends.0, took.ends.1, refl)

pub returns-in-Err-clause-goes : goal.returns-in-Err-clause-goes
returns-in-Err-clause-goes g c =
    let s = c.args.self.now in
    let new = c.take_off.new.self in
    λ l. hands-quietly _ _ (g.met.E.Desk.stays c.args.hub.now) s new l l _ _ _ (c.in-Err.ensures.passes l) (λ handed is. is) (off_refused s new c.in-Err.e [] c.in-Err.ensures.end)
