use Rattle.std.proofs.Common.{◌≡◌, ◌∷◌, [], ◌++◌, ◌+◌, ℕ, List, take, get_or, pos, sym, subst, arith}
use Rattle.std.specs.List.{AllByRecursion}
use Rattle.std.proofs.lemmas.List.{take_more}
use Rattle.pg_values.specs.declared.datum.Dim.{Dim}
use Rattle.pg_values.specs.Spelling.{IsDim}
use Rattle.pg_values.proofs.ArrayLaws.{all_at, all_more}
use Rattle.pg_values.proofs.arrays.are_dims.Goals as goal

pub loop-dim-preserved : goal.loop-dim-preserved
loop-dim-preserved c =
    let dims : List Dim = c.args.dims.now in
    let i : ℕ = c.loop-dim.dim-index in
    let none : Dim = record { len = pos 0; lower = pos 0 } in
    let dim : Dim = get_or dims i none in
    let e : take (i + 1) dims ≡ take i dims ++ dim ∷ [] = take_more dims i none (omega arith) in
    subst (λ (l : List Dim). AllByRecursion IsDim l) (sym e) (all_more (take i dims) dim c.loop-dim.invariant (c.is_dim.ensures.0 c.if-not-is_dim.false))

pub returns-then-not-is_dim : goal.returns-then-not-is_dim
returns-then-not-is_dim c =
    let none : Dim = record { len = pos 0; lower = pos 0 } in (
      λ t. absurd (cc t),
      λ all. absurd (cc (c.is_dim.ensures.1 (all_at c.args.dims.now c.loop-dim.dim-index none (omega arith) all), c.if-not-is_dim.true)),
    )
