-- A batch that is heard message by message: what is left of it behind the first.
use Rattle.std.proofs.Common.{◌≡◌, refl, Bool, true, false, List, [], ◌∷◌, ◌⊎◌, inl, inr, ◌&&◌, if◌then◌else◌}
use Rattle.pg_spec.specs.Batches.{is_batch, is_nothing}
use Rattle.pg_spec.specs.RawMessages.{RawMessage, is_aside, is_ready}

-- a batch but its first message: a batch, or nothing
abbrev pub IsRest : Bool → List RawMessage → Type 0
IsRest complete ms = (is_batch complete ms ≡ true) ⊎ (ms ≡ [])

nothing-is : (ms : List RawMessage) (b : Bool) → b && is_nothing ms ≡ true → ms ≡ []
nothing-is [] b e = refl
nothing-is (m ∷ ms) true e = absurd cc
nothing-is (m ∷ ms) false e = absurd cc

by_kind : (a b c : Bool) (rest : List RawMessage) → (if a then false else (if b then c && is_nothing rest else is_batch c rest)) ≡ true → IsRest c rest
by_kind true b c rest e = absurd cc
by_kind false true c rest e = inr (nothing-is rest c e)
by_kind false false c rest e = inl e

pub rest-of-batch : (complete : Bool) (m : RawMessage) (ms : List RawMessage) → IsRest complete (m ∷ ms) → IsRest complete ms
rest-of-batch complete m ms (inl e) = by_kind (is_aside m) (is_ready m) complete ms e
rest-of-batch complete m ms (inr e) = absurd cc

by_last : (a b c : Bool) (rest : List RawMessage) → b ≡ true → (if a then false else (if b then c && is_nothing rest else is_batch c rest)) ≡ true → rest ≡ []
by_last true b c rest r e = absurd cc
by_last false true c rest r e = nothing-is rest c e
by_last false false c rest r e = absurd cc

pub last-of-batch : (complete : Bool) (m : RawMessage) (ms : List RawMessage) → IsRest complete (m ∷ ms) → is_ready m ≡ true → ms ≡ []
last-of-batch complete m ms (inl e) r = by_last (is_aside m) (is_ready m) complete ms r e
last-of-batch complete m ms (inr e) r = absurd cc
