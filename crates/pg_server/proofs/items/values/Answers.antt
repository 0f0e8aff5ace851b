use Rattle.std.proofs.Common.{◌≡◌, sym, ap, ◌∙◌, List, ℕ, [], ◌∷◌, ◌++◌, ◌+◌, ◌-◌, Option, Some}
use Rattle.pg_spec.specs.ClientFrames.{items_at, value_at}
use Rattle.pg_server.specs.Readings.{onto}
use Rattle.pg_server.proofs.ItemLaws.{more_items, no_items, pushed}
use Rattle.pg_server.proofs.items.values.Goals as goal

pub returns-in_default : goal.returns-in_default
returns-in_default c =
    no_items c.args.count c.loop-i.i value_at c.loop-i.values.items c.loop-i.rest.now c.args.bytes.now c.loop-i-test.true c.loop-i.invariant (sym c.in_default.ensures)

pub loop-i-preserved : goal.loop-i-preserved
loop-i-preserved c =
    let front : List (Option (List ℕ)) = c.loop-i.values.items ++ c.in_ok-owned.owned ∷ [] in
    let grown : c.push.new.self.items ≡ front = pushed c.push.result front c.loop-i.values.items c.push.new.self.items c.push.ensures.items (sym c.is_err.ensures.value ∙ c.if-is_err.false) in
    ap (λ (items : List (Option (List ℕ))). onto items (items_at (c.args.count - (c.loop-i.i + 1)) value_at c.in-Some.behind.now)) grown
    ∙ more_items c.args.count c.loop-i.i value_at c.loop-i.values.items c.loop-i.rest.now c.in-Some.behind.now c.args.bytes.now c.in_ok-owned.owned c.loop-i-test.true c.loop-i.invariant
    (sym c.in-Some.ensures ∙ ap (λ (v : Option (List ℕ)). Some (v, c.in-Some.behind.now)) (sym c.in_ok-owned.ensures))
