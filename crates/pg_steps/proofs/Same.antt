-- What the steps of a call mean is what the call asks and answers.
use Rattle.std.proofs.Common.{◌≡◌, ℕ, List, [], ◌∷◌, true, false, Option, Some, None, Result, Ok, Err, refl, ap, subst}
use Rattle.std.specs.Prelude.{is_some}
use Rattle.pg_spec.specs.Faults as spec
use Rattle.pg_spec.specs.Frames.{query_frame}
use Rattle.pg_types.specs.declared.error.Error.{Error}
use Rattle.pg_query.specs.Dialogue.{Dialogue, Answer, Ask, Read}
use Rattle.pg_query.specs.Leaving.{LetsGo, Nothing}
use Rattle.pg_query.specs.Reading.{ends, reads}
use Rattle.pg_query.specs.Scripts.{cleanup_of}
use Rattle.pg_query.specs.declared.desk_call.Cleanup.TheVariants.{Post, Release}
use Rattle.pg_client.specs.Done.{batch_by, batch_reading}
use Rattle.pg_core.specs.Behind.{behind}
use Rattle.pg_core.specs.Composing.{asks_for, or_encode}
use Rattle.pg_core.specs.Times.{IsCommand}
use Rattle.pg_steps.specs.Calls.{plan, text_of}
use Rattle.pg_steps.specs.Dialogues.{rolled_back_at_error, says}
use Rattle.pg_steps.specs.Requests.{rollback_frame}
use Rattle.pg_steps.specs.Steps.{asks, means, replies, sends, told_to}
use Rattle.pg_steps.specs.declared.call.Call.{Call}
use Rattle.pg_steps.specs.declared.call.Call.TheVariants as call
use Rattle.pg_steps.proofs.Plans.{command, lets-go}

abbrev Told : Type 0
Told = Option (Result (Unit {0}) Error)

-- ---- a reply, behind which the command ends

told-alone : (o : Told) → told_to false (Answer (Ok tt)) o ≡ ends false o
told-alone (Some (Ok x)) = refl
told-alone (Some (Err e)) = refl
told-alone None = refl

read-alone : replies false (Answer (Ok tt)) ≡ reads false batch_reading
read-alone = λ i. Read (Release ∷ []) (λ ms. is_some (batch_reading ms)) (λ ms. told-alone (batch_reading ms) i)

told-begun : (o : Told) → told_to true (Answer (Ok tt)) o ≡ behind (Post rollback_frame ∷ []) (ends false o) rolled_back_at_error
told-begun (Some (Ok x)) = refl
told-begun (Some (Err e)) = refl
told-begun None = refl

read-begun : replies true (Answer (Ok tt)) ≡ behind (Post rollback_frame ∷ []) (reads false batch_reading) rolled_back_at_error
read-begun = λ i. Read (Release ∷ Post rollback_frame ∷ []) (λ ms. is_some (batch_reading ms)) (λ ms. told-begun (batch_reading ms) i)

-- ---- a request

batch : (f : Result (List ℕ) spec.FrameFault) → asks false (or_encode f) (replies false (Answer (Ok tt))) ≡ batch_by f
batch (Ok frame) = ap (λ (d : Dialogue (Unit {0})). Ask false frame d) read-alone
batch (Err fault) = refl

begun : (request : Result (List ℕ) Error) → asks false request (replies true (Answer (Ok tt))) ≡ asks_for request (behind (Post rollback_frame ∷ []) (reads false batch_reading) rolled_back_at_error)
begun (Ok frame) = ap (λ (d : Dialogue (Unit {0})). Ask false frame d) read-begun
begun (Err e) = refl

abandoned : (request : Result (List ℕ) Error) → sends false request (Answer (Ok tt)) ≡ elim request as (λ _. Dialogue (Unit {0})) [ Ok part ↦ sends false (Ok part) (Answer (Ok tt)) | Err e ↦ Answer (Err e) ]
abandoned (Ok part) = refl
abandoned (Err e) = refl

-- ---- the calls

pub means-so : (c : Call) → means (plan c) c false ≡ says c
means-so (call.Begin m) = begun (or_encode (query_frame (text_of (call.Begin m))))
means-so (call.Savepoint s) = batch (query_frame (text_of (call.Savepoint s)))
means-so (call.Commit level) = batch (query_frame (text_of (call.Commit level)))
means-so (call.Rollback level) = batch (query_frame (text_of (call.Rollback level)))
means-so (call.Abandon level) = abandoned (or_encode (query_frame (text_of (call.Abandon level))))

planned : (c : Call) → IsCommand (means (plan c) c false) × LetsGo Nothing (means (plan c) c false)
planned (call.Begin m) = (command (plan (call.Begin m)) (call.Begin m) false refl, lets-go (plan (call.Begin m)) (call.Begin m) false refl)
planned (call.Savepoint s) = (command (plan (call.Savepoint s)) (call.Savepoint s) false refl, lets-go (plan (call.Savepoint s)) (call.Savepoint s) false refl)
planned (call.Commit l) = (command (plan (call.Commit l)) (call.Commit l) false refl, lets-go (plan (call.Commit l)) (call.Commit l) false refl)
planned (call.Rollback l) = (command (plan (call.Rollback l)) (call.Rollback l) false refl, lets-go (plan (call.Rollback l)) (call.Rollback l) false refl)
planned (call.Abandon l) = (command (plan (call.Abandon l)) (call.Abandon l) false refl, lets-go (plan (call.Abandon l)) (call.Abandon l) false refl)

pub is-command : (c : Call) → IsCommand (says c)
is-command c = subst (λ (d : Dialogue (Unit {0})). IsCommand d) (means-so c) (planned c).0

pub lets-call-go : (c : Call) → LetsGo Nothing (says c)
lets-call-go c = subst (λ (d : Dialogue (Unit {0})). LetsGo Nothing d) (means-so c) (planned c).1

-- ---- before its begin a call leaves nothing to do

asks-clean : (request : Result (List ℕ) Error) (d : Dialogue (Unit {0})) → cleanup_of (asks false request d) ≡ []
asks-clean (Ok part) d = refl
asks-clean (Err e) d = refl

sends-clean : (request : Result (List ℕ) Error) (d : Dialogue (Unit {0})) → cleanup_of (sends false request d) ≡ []
sends-clean (Ok part) d = refl
sends-clean (Err e) d = refl

pub call-clean : (c : Call) → cleanup_of (means (plan c) c false) ≡ []
call-clean (call.Begin m) = asks-clean (or_encode (query_frame (text_of (call.Begin m)))) _
call-clean (call.Savepoint s) = asks-clean (or_encode (query_frame (text_of (call.Savepoint s)))) _
call-clean (call.Commit l) = asks-clean (or_encode (query_frame (text_of (call.Commit l)))) _
call-clean (call.Rollback l) = asks-clean (or_encode (query_frame (text_of (call.Rollback l)))) _
call-clean (call.Abandon l) = sends-clean (or_encode (query_frame (text_of (call.Abandon l)))) _
