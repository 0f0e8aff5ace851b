-- What steps mean.
use Rattle.std.specs.Prelude.{◌≡◌, ℕ, ◌+◌, List, [], ◌∷◌, length, Bool, true, false, Option, Some, None, is_some, Result, Ok, Err}
use Rattle.pg_types.specs.declared.error.Error.{Error}
use Rattle.pg_types.specs.declared.error.Error.TheVariants.{Closed, UnexpectedMessage}
use Rattle.pg_query.specs.declared.desk_call.Cleanup.{Cleanup}
use Rattle.pg_query.specs.declared.desk_call.Cleanup.TheVariants.{Post, Release}
use Rattle.pg_query.specs.declared.script.Want.{Want}
use Rattle.pg_query.specs.Dialogue.{Dialogue, Answer, Ask, Send, Read, HangUp}
use Rattle.pg_query.specs.Scripts.{Waiting, Nothing, AMessage, GoesOn, Falls}
use Rattle.pg_client.specs.Done.{batch_reading}
use Rattle.pg_steps.specs.Calls.{request_of}
use Rattle.pg_steps.specs.Requests.{rollback_frame}
use Rattle.pg_steps.specs.declared.call.Call.{Call}
use Rattle.pg_steps.specs.declared.step.Step.{Step}
use Rattle.pg_steps.specs.declared.step.Step.TheVariants as step
use Rattle.pg_steps.specs.declared.steps.Phase.{Phase}
use Rattle.pg_steps.specs.declared.steps.Phase.TheVariants as phase
use Rattle.pg_steps.specs.declared.steps.Steps.{Steps}

-- ---- what a step does. `r` says whether an error rolls back.

-- what is left to do behind a request that is hung up
abbrev pub posts : (r : Bool) → List Cleanup
posts true = Post rollback_frame ∷ []
posts false = []

-- An error is the answer. Where it rolls back, that is sent before, and nobody reads its reply; where the desk refuses it, that error is the answer.
abbrev pub fails : (r : Bool) → Error → Dialogue (Unit {0})
fails true e = Send rollback_frame (λ refusal. Answer (Err refusal)) (Answer (Err e))
fails false e = Answer (Err e)

-- a request whose reply is read from here on
abbrev pub asks : (r : Bool) → Result (List ℕ) Error → Dialogue (Unit {0}) → Dialogue (Unit {0})
asks r (Ok part) d = Ask false part d
asks r (Err e) d = fails r e

-- a request whose reply nobody reads
abbrev pub sends : (r : Bool) → Result (List ℕ) Error → Dialogue (Unit {0}) → Dialogue (Unit {0})
sends r (Ok part) d = Send part (λ e. fails r e) d
sends r (Err e) d = fails r e

-- what a reply told: the steps go on behind its end, and at an error the request is hung up
abbrev pub told_to : (r : Bool) → Dialogue (Unit {0}) → Option (Result (Unit {0}) Error) → Dialogue (Unit {0})
told_to r d (Some (Ok x)) = d
told_to r d (Some (Err e)) = HangUp (fails r e)
told_to r d None = fails r UnexpectedMessage

-- a reply, which is read to its end
abbrev pub replies : (r : Bool) → Dialogue (Unit {0}) → Dialogue (Unit {0})
replies r d = Read (Release ∷ posts r) (λ ms. is_some (batch_reading ms)) (λ ms. told_to r d (batch_reading ms))

-- What a list of steps asks and answers.
abbrev pub means : List Step → Call → (r : Bool) → Dialogue (Unit {0})
means [] c r = Answer (Ok tt)
means (step.Asks ∷ steps) c r = asks r (request_of c) (means steps c r)
means (step.RollsBack ∷ steps) c r = means steps c true
means (step.Reads ∷ steps) c r = replies r (means steps c r)
means (step.Sends ∷ steps) c r = sends r (request_of c) (means steps c r)

-- ---- where the machine stands

-- what comes behind a reply
abbrev pub behind_reply : Steps → Option (Result (Unit {0}) Error) → Dialogue (Unit {0})
behind_reply s = told_to s.rolls_back (means s.plan.now s.call s.rolls_back)

-- the error that was told, once
abbrev pub error_once : Option Error → Error
error_once (Some e) = e
error_once None = Closed

-- what is still asked and answered
abbrev pub dialogue_at : List Step → Call → (r : Bool) → Option Error → Phase → Dialogue (Unit {0})
dialogue_at steps c r failed phase.Goes = means steps c r
dialogue_at steps c r failed phase.Reads = replies r (means steps c r)
dialogue_at steps c r failed phase.Fails = fails r (error_once failed)
dialogue_at steps c r failed phase.Ends = Answer (Err (error_once failed))

-- what is asked and answered from where the machine stands
abbrev pub dialogue_of : Steps → Dialogue (Unit {0})
dialogue_of s = dialogue_at s.plan.now s.call s.rolls_back s.failed s.phase

-- the same where the desk refuses what was sent
abbrev pub refuses_at : (r : Bool) → Phase → Error → Dialogue (Unit {0})
refuses_at r phase.Goes e = fails r e
refuses_at r _ e = Answer (Err e)

-- the same of the machine, where the desk refuses what it sent
abbrev pub refuses_of : Steps → Error → Dialogue (Unit {0})
refuses_of s e = refuses_at s.rolls_back s.phase e

-- what is waited for
abbrev pub waits_at : (steps : List Step) (c : Call) (r : Bool) (failed : Option Error) (p : Phase) → Waiting (dialogue_at steps c r failed p)
waits_at steps c r failed phase.Goes = Nothing
waits_at steps c r failed phase.Reads = AMessage tt
waits_at steps c r failed phase.Fails = Nothing
waits_at steps c r failed phase.Ends = Nothing

-- what the machine waits for
abbrev pub waits_of : (s : Steps) → Waiting (dialogue_of s)
waits_of s = waits_at s.plan.now s.call s.rolls_back s.failed s.phase

-- how many actions are left before a message or the answer: one a step, and what rolls back
abbrev pub steps_at : List Step → Phase → ℕ
steps_at steps phase.Goes = length steps + 1
steps_at steps phase.Reads = 0
steps_at steps phase.Fails = 1
steps_at steps phase.Ends = 0

-- how many the machine has left
abbrev pub steps_of : Steps → ℕ
steps_of s = steps_at s.plan.now s.phase

-- A step was taken: it asked nothing, and what is left means what it meant with it; or this is wanted.
abbrev pub Takes : Steps → Step → Option (Want (Unit {0})) → Steps → Type 0
Takes old s None new = (means new.plan.now new.call new.rolls_back ≡ means (s ∷ old.plan.now) old.call old.rolls_back) × (new.plan ≡ old.plan) × (new.phase ≡ phase.Goes)
Takes old s (Some w) new = GoesOn dialogue_of refuses_of waits_of (means (s ∷ old.plan.now) old.call old.rolls_back) w new × Falls w (length old.plan.now + 2) (steps_of new)
