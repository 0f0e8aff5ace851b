use Rattle.std.proofs.Common.{◌≡◌, ◌<◌, ◌+◌, ℕ, List, length, ap, sym, subst, ◌∙◌, arith, slice_set}
use Rattle.std.proofs.lemmas.List.{get_or_read, get_or-set_same, length-set}
use Rattle.pg_hub.specs.Rests.{Rest, Outbound, rests_of, nothing_left, PopsFirst}
use Rattle.pg_hub.proofs.Sending as sending
use Rattle.pg_hub.proofs.outbox.Outbox.pop.Goals as goal
use Rattle.pg_hub.proofs.outbox.Outbox.pop.Goals.{then-is_whole, else-is_whole}

pub returns : goal.returns
returns c =
    let whole : ℕ = c.self.inside.whole in
    let left : List Rest = c.self.inside.left.items in
    let size = sending.length-rests-of whole left in
    let all : length (rests_of whole left) ≡ c.args.booked = ap (λ (o : Outbound). length o.rests) c.self.view_is ∙ sym c.requires.all in
    let some : whole < c.args.booked = subst (λ (o : Outbound). o.whole < c.args.booked) (sym c.self.view_is) c.requires.some in
    let low : 0 < length left = omega (arith, size, all, some) in
    let first = get_or_read left 0 _ low c.index_mut.ensures.value nothing_left in
    let set_size = length-set left 0 c.pop.new.self in
    let low_then : 0 < length (slice_set left 0 c.pop.new.self) = omega (arith, set_size, low) in
    let now : c.index.result.now ≡ c.pop.new.self = get_or_read (slice_set left 0 c.pop.new.self) 0 _ low_then c.index.ensures nothing_left ∙ get_or-set_same left 0 c.pop.new.self nothing_left low in
    elim c.if-is_whole.branch [
      | then-is_whole w ↦ subst (λ (o : Outbound). PopsFirst c.args.self.now o c.in_ok-part.part) (sym w.self-is)
          (subst (λ (o : Outbound). PopsFirst o (record { rests = rests_of (whole + 1) w.pop_front.new.self.items; whole = whole + 1 }) c.in_ok-part.part) c.self.view_is
          (sending.last-pops whole left w.pop_front.new.self.items c.index_mut.result.now c.pop.new.self c.in_ok-part.part low first c.in_ok-part.ensures.0 c.in_ok-part.ensures.1 (sym now ∙ w.if-is_whole.ensures) w.pop_front.ensures.rest))
      | else-is_whole w ↦ subst (λ (o : Outbound). PopsFirst c.args.self.now o c.in_ok-part.part) (sym w.self-is)
          (subst (λ (o : Outbound). PopsFirst o (record { rests = rests_of whole (slice_set left 0 c.pop.new.self); whole = whole }) c.in_ok-part.part) c.self.view_is
          (sending.one-pops whole left c.index_mut.result.now c.pop.new.self c.in_ok-part.part first c.in_ok-part.ensures.0 c.in_ok-part.ensures.1 (λ is. w.if-is_whole.ensures (now ∙ is))))
    ]
