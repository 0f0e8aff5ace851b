use Rattle.std.proofs.Common.{◌≡◌, ap, sym, subst, arith, List, ℕ, ◌+◌, ◌-◌, length, take, drop, Ok}
use Rattle.pg_wire.specs.Fronts.{IsWhole}
use Rattle.pg_machine.specs.Machines.{service_of}
use Rattle.pg_machine.specs.Steps.{serving_of, Serves}
use Rattle.pg_machine.proofs.FeedLaws.{rest_is, alone_whole, more_fed}
use Rattle.pg_machine.proofs.machine.Machine.feed.Goals as goal

piece_is : (cut len : ℕ) (rest : List ℕ) → take (cut + len - cut) rest ≡ take len rest
piece_is cut len rest = ap (λ n. take n rest) (let e : cut + len - cut ≡ len = omega arith in e)

pub serve-requires : goal.serve-requires
serve-requires c =
    let frames : List ℕ = c.args.frames.now in
    let cut = c.loop-len.cut in
    let len = c.in-Whole.len in
    let here : IsWhole (drop cut frames) len = subst (λ (x : List ℕ). IsWhole x len) (rest_is frames cut) c.in-Whole.ensures in
    subst (λ (x : List ℕ). IsWhole x (length x)) (sym (piece_is cut len (drop cut frames))) (alone_whole (drop cut frames) len here)

pub loop-len-preserved : goal.loop-len-preserved
loop-len-preserved c =
    let frames : List ℕ = c.args.frames.now in
    let cut = c.loop-len.cut in
    let len = c.in-Whole.len in
    let here : IsWhole (drop cut frames) len = subst (λ (x : List ℕ). IsWhole x len) (rest_is frames cut) c.in-Whole.ensures in
    let served = c.in_ok-at.ensures in
    let does = subst (λ (x : List ℕ). Serves c.args.self.now c.loop-len.at x c.loop-len.out.items c.serve.new.out.items (Ok c.in_ok-at.at)) (piece_is cut len (drop cut frames)) served in
    more_fed (service_of c.args.self.now) (serving_of c.args.at) frames c.args.out.now.items cut len (serving_of c.loop-len.at) (serving_of c.in_ok-at.at) c.loop-len.out.items c.serve.new.out.items
    c.loop-len.invariant here does.0 does.1
