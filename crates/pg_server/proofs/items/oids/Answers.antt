use Rattle.std.proofs.Common.{◌≡◌, sym, ap, ◌∙◌, List, ℕ, [], ◌∷◌, ◌++◌, ◌+◌, ◌-◌, Result, Ok, Err, cond, false}
use Rattle.std.specs.Result.{is_ok, is_err}
use Rattle.std.specs.Int.{w32}
use Rattle.pg_spec.specs.Bytes.{number_at}
use Rattle.pg_spec.specs.ClientFrames.{items_at}
use Rattle.pg_server.specs.Readings.{onto}
use Rattle.pg_server.proofs.ItemLaws.{more_items, no_items}
use Rattle.pg_server.proofs.items.oids.Goals as goal

no_error : {T E : Type 0} (r : Result T E) (a b items : List ℕ) → items ≡ cond (is_ok r) a b → is_err r ≡ false → items ≡ a
no_error (Ok x) a b items e h = e
no_error (Err x) a b items e h = absurd cc

pub returns-in_default : goal.returns-in_default
returns-in_default c =
    no_items c.args.count c.loop-i.i (number_at w32) c.loop-i.oids.items c.loop-i.rest.now c.args.bytes.now c.loop-i-test.true c.loop-i.invariant (sym c.in_default.ensures)

pub loop-i-preserved : goal.loop-i-preserved
loop-i-preserved c =
    let pushed : c.push.new.self.items ≡ c.loop-i.oids.items ++ c.in-Some.oid ∷ []
    = no_error c.push.result (c.loop-i.oids.items ++ c.in-Some.oid ∷ []) c.loop-i.oids.items c.push.new.self.items c.push.ensures.items (sym c.is_err.ensures.value ∙ c.if-is_err.false) in
    ap (λ (items : List ℕ). onto items (items_at (c.args.count - (c.loop-i.i + 1)) (number_at w32) c.in-Some.behind.now)) pushed
    ∙ more_items c.args.count c.loop-i.i (number_at w32) c.loop-i.oids.items c.loop-i.rest.now c.in-Some.behind.now c.args.bytes.now c.in-Some.oid c.loop-i-test.true c.loop-i.invariant (sym c.in-Some.ensures)
