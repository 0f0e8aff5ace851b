use Rattle.std.proofs.Common.{ℕ, List, [], ◌∷◌, Option, false, Result, Ok, Err, refl, sym, ap, subst}
use Rattle.pg_desk.specs.declared.event.Event.{Event}
use Rattle.pg_desk.specs.declared.event.Event.TheVariants as call
use Rattle.pg_types.specs.declared.error.Error.{Error}
use Rattle.pg_streams.specs.Collecting.{Posts, Sent, Refused}
use Rattle.pg_streams.proofs.posting.post.Goals as goal

pub returns-in-Ok-hang_up : goal.returns-in-Ok-hang_up
returns-in-Ok-hang_up g c =
    let booked : Event = call.Book c.args.stamp c.in-Some.part false (Ok c.in-Ok.sent) in
    let gone : Event = call.HangUp c.in-Ok.sent (Ok tt) in
    subst (λ (o : Option (List ℕ)). Posts g.D.Desk.becomes c.args.stamp c.args.desk.now o c.hang_up.new.self (Ok tt)) (sym c.in-Some.is)
    (Sent c.in-Ok.sent (Ok tt) (g.met.D.Desk.joins c.args.desk.now c.book.new.self c.hang_up.new.self (booked ∷ []) (gone ∷ []) c.in-Ok.ensures.event c.in-Ok-hang_up.ensures.event) refl)

pub returns-in-Err-hang_up : goal.returns-in-Err-hang_up
returns-in-Err-hang_up g c =
    let booked : Event = call.Book c.args.stamp c.in-Some.part false (Ok c.in-Ok.sent) in
    let kept : Event = call.HangUp c.in-Ok.sent (Err c.in-Err-hang_up.fault) in
    subst (λ (o : Option (List ℕ)). Posts g.D.Desk.becomes c.args.stamp c.args.desk.now o c.hang_up.new.self (Err c.error_of.result)) (sym c.in-Some.is)
    (Sent c.in-Ok.sent (Err c.in-Err-hang_up.fault) (g.met.D.Desk.joins c.args.desk.now c.book.new.self c.hang_up.new.self (booked ∷ []) (kept ∷ []) c.in-Ok.ensures.event c.in-Err-hang_up.ensures.event)
    (ap (λ (e : Error). let r : Result (Unit {0}) Error = Err e in r) c.error_of.ensures))

pub returns-in-Err : goal.returns-in-Err
returns-in-Err g c =
    subst (λ (o : Option (List ℕ)). Posts g.D.Desk.becomes c.args.stamp c.args.desk.now o c.book.new.self (Err c.error_of-in-Err.result)) (sym c.in-Some.is)
    (Refused c.in-Err.fault c.in-Err.ensures.event (ap (λ (e : Error). let r : Result (Unit {0}) Error = Err e in r) c.error_of-in-Err.ensures))
