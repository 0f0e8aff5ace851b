use Rattle.std.proofs.Common.{◌≡◌, ap, ◌∙◌, subst, arith, List, ℕ, ◌≤◌, ◌+◌, ◌-◌, ◌++◌, length, take, drop, false}
use Rattle.std.specs.Prelude.{min}
use Rattle.std.proofs.lemmas.List.{length-take-le}
use Rattle.pg_machine.specs.declared.machine_link.MachineLink.TheInside.{Inside}
use Rattle.pg_machine.specs.MachineLinks.{Served, GivesFront, served_of}
use Rattle.pg_machine.proofs.FeedLaws.{rest_is}
use Rattle.pg_machine.proofs.ServedLaws.{read-front}
use Rattle.pg_machine.proofs.machine_link.MachineLink.give.Goals as goal

pub returns-then-n-gt0-clause-exact : goal.returns-then-n-gt0-clause-exact
returns-then-n-gt0-clause-exact c =
    let link : Inside = c.self.inside in
    let out : List ℕ = c.args.out.now in
    let piece : List ℕ = c.copy_front-n.new.out in
    let n : ℕ = c.copy_front-n.result in
    let limit : ℕ = c.min-limit.result in
    let rest : List ℕ = drop link.gave link.said.items in
    let bytes : take (length c.deref.result.now - link.gave) (drop link.gave c.deref.result.now) ≡ rest
    = rest_is c.deref.result.now link.gave ∙ ap (λ (b : List ℕ). drop link.gave b) c.deref.ensures.value in
    let fits : limit ≤ length out = omega (arith, c.min-limit.ensures) in
    let whole : length (take limit out) ≡ limit = length-take-le limit out fits in
    let size : length piece ≡ limit = c.copy_front-n.auto.out ∙ whole in
    let count : n ≡ min (length rest) limit
    = c.copy_front-n.ensures.count ∙ ap (λ (b : List ℕ). min (length b) (length (take limit out))) bytes ∙ ap (λ (k : ℕ). min (length rest) k) whole in
    subst (λ (m : Served). GivesFront m (served_of (record link { gave = link.gave + n; promised = false })) (piece ++ drop limit out) n) c.self.view_is
    (read-front link c.self.invariant out piece n limit c.if-n-gt0.true c.min-limit.ensures size count
    (c.copy_front-n.ensures.front ∙ ap (λ (b : List ℕ). take n b) bytes))
