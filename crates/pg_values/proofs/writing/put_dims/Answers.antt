use Rattle.std.proofs.Common.{◌≡◌, ◌∷◌, [], ◌++◌, ◌+◌, ℕ, List, pos, take, get_or, flat_map, append_assoc, ap, sym, ◌∙◌, arith}
use Rattle.std.proofs.lemmas.List.{take_more, flat_map_more}
use Rattle.pg_values.specs.declared.datum.Dim.{Dim}
use Rattle.pg_values.specs.Spelling.{dim_bytes}
use Rattle.pg_values.proofs.writing.put_dims.Goals as goal

pub loop-dim-preserved : goal.loop-dim-preserved
loop-dim-preserved c =
    let dims : List Dim = c.args.dims.now in
    let i : ℕ = c.loop-dim.dim-index in
    let none : Dim = record { len = pos 0; lower = pos 0 } in
    let dim : Dim = get_or dims i none in
    let old : List ℕ = c.args.out.now.items in
    let front : List ℕ = flat_map dim_bytes (take i dims) in
    let e : take (i + 1) dims ≡ take i dims ++ dim ∷ [] = take_more dims i none (omega arith) in
    c.in_ok-put_dim.ensures ∙ ap (λ (l : List ℕ). l ++ dim_bytes dim) c.loop-dim.invariant ∙ append_assoc old front (dim_bytes dim)
    ∙ ap (λ (l : List ℕ). old ++ l) (flat_map_more dim_bytes [] (take i dims) dim) ∙ ap (λ (l : List Dim). old ++ flat_map dim_bytes l) (sym e)
