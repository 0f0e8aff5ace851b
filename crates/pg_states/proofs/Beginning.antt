-- A command that was made leaves nothing to do before its begin.
use Rattle.std.proofs.Common.{◌≡◌, ℕ, Bool, List, [], Option, Result, Ok, Err, refl}
use Rattle.pg_types.specs.declared.error.Error.{Error}
use Rattle.pg_desk.specs.declared.statement.Described.{Described}
use Rattle.pg_spec.specs.RawMessages.{RawMessage}
use Rattle.pg_query.specs.Dialogue.{Dialogue}
use Rattle.pg_query.specs.Scripts.{cleanup_of}
use Rattle.pg_core.specs.Composing.{asks_for}
use Rattle.pg_execute.specs.Executes.{executes, sends}
use Rattle.pg_execute.specs.Parameters.{Params, execute_request}
use Rattle.pg_execute.specs.Targets.{on_target}
use Rattle.pg_execute.specs.declared.target.Target.{Target}
use Rattle.pg_execute.specs.declared.target.Target.TheVariants.{Query, OwnedQuery, Statement, Owned}
use Rattle.pg_states.specs.Texts.{prepare_text}

asks-clean : {T : Type 0} (request : Result (List ℕ) Error) (d : Dialogue T) → cleanup_of (asks_for request d) ≡ []
asks-clean (Ok part) d = refl
asks-clean (Err e) d = refl

-- a target that is executed, whatever is read of its reply
pub target-clean : {T : Type 0} (stops : Bool) (reading : Described → List RawMessage → Option (Result T Error)) (vs : Params) (t : Target) →
    cleanup_of (on_target prepare_text (λ s. executes stops (reading s) s vs) t) ≡ []
target-clean stops reading vs (Query text) = refl
target-clean stops reading vs (OwnedQuery text) = refl
target-clean stops reading vs (Statement s) = asks-clean (execute_request s.now vs) _
target-clean stops reading vs (Owned s) = asks-clean (execute_request s vs) _

-- a request whose reply nobody reads
pub sends-clean : (request : Result (List ℕ) Error) → cleanup_of (sends request) ≡ []
sends-clean (Ok part) = refl
sends-clean (Err e) = refl
