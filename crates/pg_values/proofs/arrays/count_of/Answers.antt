use Rattle.std.proofs.Common.{◌≡◌, ℕ, pos, ℤ, FitsSigned, to_z, of_z, w32, rules, ◌+◌, ◌*◌, ◌<◌, List, drop, get_or, arith, sym, ◌∙◌, subst, unsigned_abs, ap}
use Rattle.std.specs.List.{AllByRecursion}
use Rattle.std.proofs.lemmas.List.{drop_more}
use Rattle.pg_values.specs.declared.datum.Dim.{Dim}
use Rattle.pg_values.specs.Spelling.{IsDim, product}
use Rattle.pg_values.proofs.ArrayLaws.{too_many, some_count}
use Rattle.pg_values.proofs.arrays.count_of.Goals as goal

same32 : (z : ℤ) → FitsSigned w32 z → to_z w32 (of_z w32 z) ≡ z
same32 z f = search rules

pub returns-then-count-gt-MOST : goal.returns-then-count-gt-MOST
returns-then-count-gt-MOST c =
    let dims : List Dim = c.args.dims.now in
    let i : ℕ = c.loop-dim.dim-index in
    let none : Dim = record { len = pos 0; lower = pos 0 } in
    let dim : Dim = get_or dims i none in
    let rest : List Dim = drop (i + 1) dims in
    let e = drop_more dims i none (omega arith) in
    let are = subst (λ (l : List Dim). AllByRecursion IsDim l) e c.loop-dim.invariant.are in
    let more = subst (λ (z : ℤ). 16777216 < c.loop-dim.count * unsigned_abs z) (same32 dim.len are.0.len) c.if-count-gt-MOST.true in
    let many : 16777216 < product dims =
    too_many 16777216 c.loop-dim.count dim rest dims (ap (λ (l : List Dim). c.loop-dim.count * product l) (sym e) ∙ c.loop-dim.invariant.product_is) are more in
    some_count dims 16777216 (omega arith) many
