-- What the request of a typed execute wants and reads, in the whole.
use Rattle.std.proofs.Common.{◌≡◌, ℕ, List, Result, Ok, Err, IfOk, refl, sym, subst}
use Rattle.std.specs.declared.alloc.AllocError.{AllocError}
use Rattle.pg_spec.specs.RawMessages.{RawMessage}
use Rattle.pg_query.specs.Dialogue.{Dialogue, feed_one}
use Rattle.pg_query.specs.Scripts.{GoesOn, IsMessage, cleanup_of, waiting_at}
use Rattle.pg_query.specs.SingleRequests.{refuses_of}
use Rattle.pg_query.specs.declared.desk_call.Cleanup.{Cleanup}
use Rattle.pg_query.specs.declared.script.Want.{Want}
use Rattle.pg_query.specs.declared.single_request.SingleRequest.{SingleRequest}
use Rattle.pg_execute.specs.Parameters.{Params}
use Rattle.pg_execute.specs.TypedExecutes.{ExecuteGoes, count_at, execute_at, execute_refuses, execute_waits}
use Rattle.pg_execute.specs.declared.execute_typed.ExecuteTyped.{ExecuteTyped}
use Rattle.pg_execute.specs.declared.execute_typed.ExecuteTyped.TheVariants.{Asks}
use Rattle.pg_execute.specs.declared.typed_count_reading.TypedCountReading.{TypedCountReading}
use Rattle.pg_execute.proofs.PassingOn.{goes-as}

module _ {P : Type 0} (given : P → Params) where
  asks-go : (d : Dialogue ℕ) (r : Result (Want ℕ) AllocError) (new : SingleRequest TypedCountReading ℕ) → IfOk r (λ w. GoesOn count_at refuses_of (λ s. waiting_at (count_at s)) d w new) → IfOk r (λ w. ExecuteGoes given d w (Asks new))
  asks-go d (Ok w) new h = goes-as count_at refuses_of (λ s. waiting_at (count_at s)) (execute_at given) execute_refuses (execute_waits given) new (Asks new) refl refl (λ x. x) (λ x. x) d w h
  asks-go d (Err e) new h = tt

  -- a message for it, and what becomes of it
  pub asks-message : (s : ExecuteTyped P) (a : SingleRequest TypedCountReading ℕ) → s ≡ Asks a → (m : RawMessage) (r : Result (Want ℕ) AllocError) (new : SingleRequest TypedCountReading ℕ) →
      (IsMessage (waiting_at (count_at a)) → IfOk r (λ w. GoesOn count_at refuses_of (λ s. waiting_at (count_at s)) (feed_one m (count_at a)) w new)) →
      IsMessage (execute_waits given s) → IfOk r (λ w. ExecuteGoes given (feed_one m (execute_at given s)) w (Asks new))
  asks-message s a e m r new g =
      subst (λ (x : ExecuteTyped P). IsMessage (execute_waits given x) → IfOk r (λ w. ExecuteGoes given (feed_one m (execute_at given x)) w (Asks new))) (sym e) (λ h. asks-go (feed_one m (count_at a)) r new (g h))

  -- what holds of it where it waits for a message, holds of the whole
  pub asks-there : {Q : Type 0} (s : ExecuteTyped P) (a : SingleRequest TypedCountReading ℕ) → s ≡ Asks a → (IsMessage (waiting_at (count_at a)) → Q) → IsMessage (execute_waits given s) → Q
  asks-there {Q} s a e g = subst (λ (x : ExecuteTyped P). IsMessage (execute_waits given x) → Q) (sym e) g

  -- what is left to do
  pub asks-left : (Q : List Cleanup → Type 0) (s : ExecuteTyped P) (a : SingleRequest TypedCountReading ℕ) → s ≡ Asks a → (IsMessage (waiting_at (count_at a)) → Q (cleanup_of (count_at a))) →
      IsMessage (execute_waits given s) → Q (cleanup_of (execute_at given s))
  asks-left Q s a e g = subst (λ (x : ExecuteTyped P). IsMessage (execute_waits given x) → Q (cleanup_of (execute_at given x))) (sym e) g
