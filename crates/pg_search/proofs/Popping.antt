-- What a queue holds behind a call that took its first item, or found none.
use Rattle.std.proofs.Common.{◌≡◌, suc, List, [], ◌∷◌, length, drop, refl, ◌∙◌, ap, arith}

no-shorter : {A : Type 0} (x : A) (xs : List A) → x ∷ xs ≡ xs → ⊥
no-shorter x xs e =
    let n : suc (length xs) ≡ length xs = ap length e in
    omega arith

-- a list that is its own rest is empty
pub nothing-popped : {A : Type 0} (xs ys : List A) → xs ≡ ys → ys ≡ drop 1 xs → xs ≡ []
nothing-popped [] ys same rest = refl
nothing-popped (x ∷ xs) ys same rest = absurd (no-shorter x xs (same ∙ rest))
