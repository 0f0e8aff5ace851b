-- A reply that ended is decided.
use Rattle.std.proofs.Common.{◌≡◌, ℕ, List, [], ◌∷◌, true, Option, Some, None, option_map, refl, sym, ◌∙◌, subst}
use Rattle.std.proofs.lemmas.Bool.{eqb-true}
use Rattle.pg_spec.specs.RawMessages.{RawMessage, is_ready, ends_in}
use Rattle.pg_spec.specs.Readings.{Answers, Decision, GoesOn, decision, decided_by, stands_or, one_later}
use Rattle.pg_spec.specs.SimpleQuery.{SimpleAnswer, SimpleNext, SimpleState, has_enough, simple_next, simple_reading}

-- a ReadyForQuery is the end of a reading
ready-body : (state : SimpleState) (body : List ℕ) → (a : SimpleAnswer) × (simple_next state (record { tag = 90; body = body }) ≡ Answers a)
ready-body state [] = (_, refl)
ready-body state (b ∷ []) = (_, refl)
ready-body state (b ∷ c ∷ rest) = (_, refl)

tag-ready : (m : RawMessage) → is_ready m ≡ true → m.tag ≡ 90
tag-ready m h = eqb-true m.tag 90 h

ready-answers : (state : SimpleState) (m : RawMessage) → is_ready m ≡ true → (a : SimpleAnswer) × (simple_next state m ≡ Answers a)
ready-answers state m h =
    subst (λ (n : ℕ). (a : SimpleAnswer) × (simple_next state (record { tag = n; body = m.body }) ≡ Answers a)) (sym (tag-ready m h)) (ready-body state m.body)

never-none : {A : Type 0} (o : Option A) (x : A) → o ≡ Some x → o ≡ None → ⊥
never-none o x h g = let e : Some x ≡ None = sym h ∙ g in absurd cc

map-none : {A B : Type 0} (f : A → B) (o : Option A) → option_map f o ≡ None → o ≡ None
map-none f None h = refl
map-none f (Some x) h = absurd cc

decided-last : (enough : Option SimpleAnswer) (n : SimpleNext) (a : SimpleAnswer) (f : SimpleState → Option (Decision SimpleAnswer)) → n ≡ Answers a →
    stands_or enough (decided_by n f) ≡ None → ⊥
decided-last (Some x) n a f is h = absurd cc
decided-last None (Answers b) a f is h = absurd cc
decided-last None (GoesOn s) a f is h = absurd cc

decided-later : (enough : Option SimpleAnswer) (n : SimpleNext) (f : SimpleState → Option (Decision SimpleAnswer)) →
    stands_or enough (decided_by n f) ≡ None →
    (later : SimpleState) × (f later ≡ None)
decided-later (Some x) n f h = absurd cc
decided-later None (Answers b) f h = absurd cc
decided-later None (GoesOn s) f h = (s, map-none one_later (f s) h)

ready-decides : (take : Option ℕ) (state : SimpleState) (ms : List RawMessage) → ends_in is_ready ms ≡ true →
    decision (has_enough take) simple_next state ms ≡ None → ⊥
ready-decides take state [] h g = absurd cc
ready-decides take state (m ∷ []) h g =
    let a = ready-answers state m h in
    decided-last (has_enough take state) (simple_next state m) a.0 (λ later. decision (has_enough take) simple_next later []) a.1 g
ready-decides take state (m ∷ n ∷ ms) h g =
    let l = decided-later (has_enough take state) (simple_next state m) (λ later. decision (has_enough take) simple_next later (n ∷ ms)) g in
    ready-decides take l.0 (n ∷ ms) h l.1

-- a group that ended is decided
pub whole-decides : (take : Option ℕ) (ms : List RawMessage) → ends_in is_ready ms ≡ true → simple_reading take ms ≡ None → ⊥
whole-decides take ms h g = ready-decides take (record { columns = None; items = [] }) ms h (map-none (λ d. d.answer) _ g)
