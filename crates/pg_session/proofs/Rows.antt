-- Rows of commands that answered, as they grow.
use Rattle.std.proofs.Common.{◌≡◌, ℕ, zero, suc, ◌+◌, ◌<◌, ◌≤◌, List, [], ◌∷◌, ◌++◌, length, Option, Some, option_map, unwrap_or, refl, sym, ap, ◌∙◌, arith, slice_get}
use Rattle.std.proofs.lemmas.Option.{slice_get-map}
use Rattle.pg_session.proofs.Lists.{get-before, get-last}
use Rattle.pg_session.specs.Kept.{Past, free_of, states_of}

pub get-within : {X : Type 0} (xs : List X) (i : ℕ) (x : X) → slice_get xs i ≡ Some x → i < length xs
get-within [] i x e = absurd cc
get-within (y ∷ xs) zero x e = omega arith
get-within (y ∷ xs) (suc i) x e = omega (arith, get-within xs i x e)

-- ---- what a script kept

-- what it kept before command `j` stays
pub states-before : {A E : Type 0} (begins : E) (past : List (Past A E)) (y : Past A E) (j : ℕ) → j ≤ length past → slice_get (states_of begins (past ++ y ∷ [])) j ≡ slice_get (states_of begins past) j
states-before begins past y zero le = refl
states-before {A} {E} begins past y (suc j) le =
    slice_get-map (λ (x : Past A E). x.ending.own) (past ++ y ∷ []) j
    ∙ ap (λ (o : Option (Past A E)). option_map (λ x. x.ending.own) o) (get-before past y j (omega (arith, le)))
    ∙ sym (slice_get-map (λ (x : Past A E). x.ending.own) past j)

-- behind one more it keeps what that left
pub states-last : {A E : Type 0} (begins : E) (past : List (Past A E)) (y : Past A E) → slice_get (states_of begins (past ++ y ∷ [])) (suc (length past)) ≡ Some y.ending.own
states-last {A} {E} begins past y =
    slice_get-map (λ (x : Past A E). x.ending.own) (past ++ y ∷ []) (length past)
    ∙ ap (λ (o : Option (Past A E)). option_map (λ x. x.ending.own) o) (get-last past y)

-- ---- when a command may begin

pub free-before : {A E : Type 0} (past : List (Past A E)) (y : Past A E) (j : ℕ) → j ≤ length past → free_of (past ++ y ∷ []) j ≡ free_of past j
free-before past y zero le = refl
free-before {A} {E} past y (suc j) le = ap (λ (o : Option (Past A E)). unwrap_or (option_map (λ x. x.times.answers + 1) o) 0) (get-before past y j (omega (arith, le)))

pub free-last : {A E : Type 0} (past : List (Past A E)) (y : Past A E) → free_of (past ++ y ∷ []) (suc (length past)) ≡ y.times.answers + 1
free-last {A} {E} past y = ap (λ (o : Option (Past A E)). unwrap_or (option_map (λ x. x.times.answers + 1) o) 0) (get-last past y)

-- a list whose places are all below a number is no longer
pub places-below : {X : Type 0} (xs : List X) (m n : ℕ) → m ≤ n → ((j : ℕ) (x : X) → slice_get xs j ≡ Some x → m + j < n) → m + length xs ≤ n
places-below [] m n le h = omega (arith, le)
places-below (x ∷ xs) m n le h =
    let one = h 0 x refl in
    let more = places-below xs (m + 1) n (omega (arith, one)) (λ j y e. let lt = h (suc j) y e in omega (arith, lt)) in
    omega (arith, more)
