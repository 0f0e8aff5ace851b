-- Entries of lists of lists of the same lengths.
use Rattle.std.proofs.Common.{◌≡◌, ℕ, zero, suc, arith, List, [], ◌∷◌, length, map, Some, refl}
use Rattle.std.specs.Prelude.{slice_get}
use Rattle.pg_spec.specs.Turns.{entry_at}

row-entry : {X Y : Type 0} (xs : List X) (ys : List Y) → length ys ≡ length xs → (j : ℕ) (x : X) → slice_get xs j ≡ Some x → (y : Y) × (slice_get ys j ≡ Some y)
row-entry [] ys same j x e = absurd cc
row-entry (a ∷ xs) [] same j x e = absurd cc
row-entry (a ∷ xs) (b ∷ ys) same zero x e = (b, refl)
row-entry (a ∷ xs) (b ∷ ys) same (suc j) x e = row-entry xs ys (omega (arith, same)) j x e

-- where one has an entry, so has the other
pub other-entry : {X Y : Type 0} (rows : List (List X)) (others : List (List Y)) → map length others ≡ map length rows → (i j : ℕ) (x : X) → entry_at rows i j ≡ Some x →
    (y : Y) × (entry_at others i j ≡ Some y)
other-entry [] others same i j x e = absurd cc
other-entry (xs ∷ rows) [] same i j x e = absurd cc
other-entry (xs ∷ rows) (ys ∷ others) same zero j x e =
    let long : length ys ≡ length xs = cc in
    row-entry xs ys long j x e
other-entry (xs ∷ rows) (ys ∷ others) same (suc i) j x e =
    let rest : map length others ≡ map length rows = cc in
    other-entry rows others rest i j x e
