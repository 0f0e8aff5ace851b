-- A desk gives what its takes gave.
use Rattle.std.proofs.Common.{◌≡◌, ℕ, ◌==◌, List, [], ◌∷◌, ◌++◌, Bool, true, if◌then◌else◌, Ok, sym, ap, ◌∙◌, arith, append_assoc}
use Rattle.std.proofs.lemmas.Bool.Decides.{nat_tests}
use Rattle.std.proofs.lemmas.List.{append-nil}
use Rattle.pg_spec.specs.RawMessages.{RawMessage}
use Rattle.pg_desk.specs.History.{IsFrontOf}
use Rattle.pg_desk.specs.declared.event.Take.TheVariants as taking
use Rattle.pg_desk.specs.declared.event.Event.{Event}
use Rattle.pg_desk.specs.declared.event.Event.TheVariants as call
use Rattle.pg_query.specs.Lives.{Deed}
use Rattle.pg_core.specs.Deeds.{Serves, ServedBy, IsNew, NewBy, got_after, taken_from}

-- what was taken stays in front
stays-front : (got : ℕ → List RawMessage) (ds : List Deed) (k : ℕ) → IsFrontOf (got k) (got_after got ds k)
stays-front got [] k = ([], append-nil (got k))
stays-front got (a ∷ ds) k =
    let h = stays-front (λ j. got j ++ taken_from j a.event) ds k in
    (taken_from k a.event ++ h.0, sym (append_assoc (got k) (taken_from k a.event) h.0) ∙ h.1)

is-same : (a : ℕ) → (a == a) ≡ true
is-same a = grind (arith, nat_tests)

served : (got : ℕ → List RawMessage) (e : Event) (came : ℕ → List RawMessage) → ((k : ℕ) → IsFrontOf (got k ++ taken_from k e) (came k)) → NewBy got e → ServedBy came got e
served got (call.Take which (Ok (taking.Batch ms))) came h new =
    let f = h which in
    (f.0, ap (λ (b : Bool). (got which ++ (if b then ms else [])) ++ f.0) (sym (is-same which)) ∙ f.1)
served got (call.Book stamp part copying (Ok id)) came h new = new
served got e came h new = tt

pub serves-itself : (got : ℕ → List RawMessage) (ds : List Deed) → IsNew got ds → Serves (got_after got ds) got ds
serves-itself got [] h = tt
serves-itself got (a ∷ ds) h = (
  served got a.event (got_after got (a ∷ ds)) (stays-front (λ j. got j ++ taken_from j a.event) ds) h.0,
  serves-itself (λ j. got j ++ taken_from j a.event) ds h.1,
)
