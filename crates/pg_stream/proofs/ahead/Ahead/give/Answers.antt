use Rattle.std.proofs.Common.{◌≡◌, ℕ, ◌+◌, ◌-◌, ◌≤◌, List, take, drop, slice_range, sym, ap, ◌∙◌, arith, drop-drop}
use Rattle.std.proofs.lemmas.List.{drop-take}
use Rattle.pg_stream.proofs.ahead.Ahead.give.Goals as goal

-- a range without its first n
rest_of_range : (xs : List ℕ) (a e n : ℕ) → n ≤ e - a → slice_range xs (a + n) e ≡ drop n (slice_range xs a e)
rest_of_range xs a e n fits =
    let whole : n + (e - (a + n)) ≡ e - a = omega (arith, fits) in
    ap (take (e - (a + n))) (sym (drop-drop n a xs)) ∙ sym (drop-take n (e - (a + n)) (drop a xs)) ∙ ap (λ k. drop n (take k (drop a xs))) whole

pub returns-clause-rest : goal.returns-clause-rest
returns-clause-rest c =
    let a = c.self.inside in
    rest_of_range a.buffer.items a.start a.end c.min-n.result (omega (arith, c.min-n.ensures, c.self.invariant.ordered)) ∙ ap (drop c.min-n.result) c.self.view_is
