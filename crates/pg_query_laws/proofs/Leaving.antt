-- What is left to do where an execution is given up.
use Rattle.std.proofs.Common.{◌≡◌, ℕ, List, [], ◌∷◌, Bool, Option, Result, Ok, Err, refl, sym, subst}
use Rattle.pg_spec.specs.RawMessages.{RawMessage}
use Rattle.pg_types.specs.declared.error.Error.{Error}
use Rattle.pg_query.specs.declared.desk_call.Cleanup.TheVariants.{Release}
use Rattle.pg_query.specs.Dialogue.{Dialogue}
use Rattle.pg_query.specs.Reading.{reads}
use Rattle.pg_query.specs.Scripts.{cleanup_of}
use Rattle.pg_core.specs.Composing.{asks_for}
use Rattle.pg_execute.specs.Executes.{closed_by, posts}
use Rattle.pg_query_laws.specs.Leavings.{left_behind}

-- a request, or the error of one that can't be made
pub begin-clean : {T : Type 0} (request : Result (List ℕ) Error) (d : Dialogue T) → cleanup_of (asks_for request d) ≡ []
begin-clean (Ok part) d = refl
begin-clean (Err e) d = refl

-- its reply is read
pub read-released : {T : Type 0} (stops : Bool) (request : Result (List ℕ) Error) (part : List ℕ) → request ≡ Ok part → (reading : List RawMessage → Option (Result T Error)) →
    left_behind [] (asks_for request (reads stops reading)) ≡ Release ∷ []
read-released stops request part is reading = subst (λ (r : Result (List ℕ) Error). left_behind [] (asks_for r (reads stops reading)) ≡ Release ∷ []) (sym is) refl

-- the same, with a request behind it
pub read-closed : {T : Type 0} (stops : Bool) (request : Result (List ℕ) Error) (part : List ℕ) → request ≡ Ok part → (reading : List RawMessage → Option (Result T Error)) → (behind : Option (List ℕ)) →
    left_behind [] (closed_by behind (asks_for request (reads stops reading))) ≡ Release ∷ posts behind
read-closed stops request part is reading behind = subst (λ (r : Result (List ℕ) Error). left_behind [] (closed_by behind (asks_for r (reads stops reading))) ≡ Release ∷ posts behind) (sym is) refl
