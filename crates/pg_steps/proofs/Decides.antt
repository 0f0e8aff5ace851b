-- The reply to a batch of statements is decided by its ReadyForQuery, and by nothing sooner where it ends well.
use Rattle.std.proofs.Common.{◌≡◌, ℕ, List, [], ◌∷◌, true, false, Option, Some, None, Result, Ok, refl, sym, subst}
use Rattle.std.specs.Prelude.{is_some}
use Rattle.std.specs.List.{list_any}
use Rattle.std.proofs.lemmas.Bool.{eqb-true}
use Rattle.pg_spec.specs.RawMessages.{RawMessage, is_ready, ends_in}
use Rattle.pg_types.specs.declared.error.Error.{Error}
use Rattle.pg_query.specs.Leaving.{LetsGo, IsLetGo, request_behind}
use Rattle.pg_query.specs.Reading.{ends}
use Rattle.pg_client.specs.Done.{batch_reading, done_next}
use Rattle.pg_client.proofs.Done.{done-free}

abbrev Told : Type 0
Told = Option (Result (Unit {0}) Error)

-- a ReadyForQuery tells an answer, whatever its body
ready-body : (body : List ℕ) → is_some (done_next true (record { tag = 90; body = body })) ≡ true
ready-body [] = refl
ready-body (b ∷ []) = refl
ready-body (b ∷ c ∷ rest) = refl

ready-tells : (m : RawMessage) → is_ready m ≡ true → is_some (done_next true m) ≡ true
ready-tells m h = subst (λ (n : ℕ). is_some (done_next true (record { tag = n; body = m.body })) ≡ true) (sym (eqb-true m.tag 90 h)) (ready-body m.body)

-- the first answer, where the later messages tell this
abbrev first_of : Told → Told → Told
first_of later o = elim o as (λ _. Told) [ None ↦ later | Some r ↦ Some r ]

here : (later o : Told) → is_some o ≡ true → is_some (first_of later o) ≡ true
here later None h = absurd cc
here later (Some r) h = refl

there : (later o : Told) → is_some later ≡ true → is_some (first_of later o) ≡ true
there later None h = h
there later (Some r) h = refl

-- a reply that ended is decided
pub decides : (ms : List RawMessage) → ends_in is_ready ms ≡ true → is_some (batch_reading ms) ≡ true
decides [] h = absurd cc
decides (m ∷ []) h = here None (done_next true m) (ready-tells m h)
decides (m ∷ n ∷ ms) h = there (batch_reading (n ∷ ms)) (done_next true m) (decides (n ∷ ms) h)

-- where it is told that all is done, the ReadyForQuery was read
pub ended : (ms : List RawMessage) (x : Unit {0}) → batch_reading ms ≡ Some (Ok x) → IsLetGo (request_behind (list_any is_ready ms))
ended ms x h = subst (λ (o : Told). LetsGo (request_behind (list_any is_ready ms)) (ends false o)) h ((done-free true []).1 ms (subst (λ (o : Told). is_some o ≡ true) (sym h) refl))
