-- Those of several supplies that weren't refused.
use Rattle.std.proofs.Common.{◌≡◌, List, [], ◌∷◌, ◌++◌, Result, Ok, Err, refl, ap}
use Rattle.pg_types.specs.declared.error.Error.{Error}
use Rattle.pg_core.specs.Deeds.{granted, AreGranted}

pub granted-append : {A : Type 0} (xs ys : List (Result A Error)) → granted (xs ++ ys) ≡ granted xs ++ granted ys
granted-append [] ys = refl
granted-append {A} (Ok x ∷ xs) ys = ap (λ (l : List A). x ∷ l) (granted-append xs ys)
granted-append (Err e ∷ xs) ys = granted-append xs ys

-- of two lists of which nothing was refused nothing was
pub granted-joined : {A : Type 0} (xs ys : List (Result A Error)) → AreGranted xs → AreGranted ys → AreGranted (xs ++ ys)
granted-joined [] ys h k = k
granted-joined (Ok x ∷ xs) ys h k = granted-joined xs ys h k
granted-joined (Err e ∷ xs) ys h k = absurd h
