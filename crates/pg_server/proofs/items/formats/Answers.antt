use Rattle.std.proofs.Common.{ℤ, to_z, of_z, ◌≡◌, sym, ap, ◌∙◌, List, [], ◌∷◌, ◌++◌, ◌+◌, ◌-◌}
use Rattle.std.specs.Int.{w16}
use Rattle.std.proofs.lemmas.Int.{to_z-of_z}
use Rattle.pg_spec.specs.Bytes.{signed_at}
use Rattle.pg_spec.specs.ClientFrames.{items_at}
use Rattle.pg_server.specs.Readings.{onto}
use Rattle.pg_server.proofs.ItemLaws.{more_items, no_items, pushed}
use Rattle.pg_server.proofs.items.formats.Goals as goal

pub returns-in_default : goal.returns-in_default
returns-in_default c =
    no_items c.args.count c.loop-i.i (signed_at w16) c.loop-i.formats.items c.loop-i.rest.now c.args.bytes.now c.loop-i-test.true c.loop-i.invariant (sym c.in_default.ensures.read)

pub loop-i-preserved : goal.loop-i-preserved
loop-i-preserved c =
    let front : List ℤ = c.loop-i.formats.items ++ c.in-Some.format ∷ [] in
    let grown : c.push.new.self.items ≡ front
    = pushed c.push.result (c.loop-i.formats.items ++ to_z w16 (of_z w16 c.in-Some.format) ∷ []) c.loop-i.formats.items c.push.new.self.items c.push.ensures.items (sym c.is_err.ensures.value ∙ c.if-is_err.false)
    ∙ ap (λ (z : ℤ). c.loop-i.formats.items ++ z ∷ []) (to_z-of_z w16 c.in-Some.format c.in-Some.ensures.fits) in
    ap (λ (items : List ℤ). onto items (items_at (c.args.count - (c.loop-i.i + 1)) (signed_at w16) c.in-Some.behind.now)) grown
    ∙ more_items c.args.count c.loop-i.i (signed_at w16) c.loop-i.formats.items c.loop-i.rest.now c.in-Some.behind.now c.args.bytes.now c.in-Some.format c.loop-i-test.true c.loop-i.invariant (sym c.in-Some.ensures.read)
