use Rattle.std.proofs.Common.{◌≡◌, ◌<◌, ◌-◌, ◌++◌, [], ◌∷◌, ℕ, List, length, true, false, ap, sym, subst, arith, slice_set}
use Rattle.std.proofs.lemmas.List.{get_or_read}
use Rattle.pg_hub.specs.Rests.{Rest, Outbound, rest_at, rests_of, nothing_left}
use Rattle.pg_hub.proofs.Sending as sending
use Rattle.pg_hub.proofs.outbox.Outbox.close.Goals as goal

pub returns : goal.returns
returns c =
    let w : ℕ = c.self.inside.whole in
    let left : List Rest = c.self.inside.left.items in
    let copies : (rest_at (rests_of w left) c.args.place).copying ≡ true = subst (λ (o : Outbound). (rest_at o.rests c.args.place).copying ≡ true) (sym c.self.view_is) c.requires.copies in
    let inside : c.args.place < length (rests_of w left) = subst (λ (o : Outbound). c.args.place < length o.rests) (sym c.self.view_is) c.requires.inside in
    let size = sending.length-rests-of w left in
    let behind = sending.copy-is-left w left c.args.place copies in
    let low : c.args.place - w < length left = omega (arith, inside, size, behind) in
    let here = get_or_read left _ _ low c.index_mut.ensures.value nothing_left in
    subst (λ (o : Outbound). record { rests = rests_of w (slice_set left (c.args.place - w) c.close.new.self); whole = w }
    ≡ record { rests = slice_set o.rests c.args.place (record { parts = (rest_at o.rests c.args.place).parts ++ c.args.part ∷ []; copying = false }); whole = o.whole }) c.self.view_is
    (ap (λ (l : List Rest). record { rests = l; whole = w }) (sending.written w left c.args.place c.index_mut.result.now c.close.new.self c.args.part false copies here c.close.ensures))
