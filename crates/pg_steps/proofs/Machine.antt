-- What a message and a giving up do to the machine.
use Rattle.std.proofs.Common.{◌≡◌, ◌∙◌, refl, sym, ap, subst, [], ◌∷◌, Bool, true, Option, Some, None, is_some, Result, Ok, Err, IfOk, if◌then◌else◌}
use Rattle.pg_spec.specs.Faults as spec
use Rattle.pg_spec.specs.Messages.{Message}
use Rattle.pg_spec.specs.RawMessages.{RawMessage}
use Rattle.pg_types.specs.declared.error.Error.{Error}
use Rattle.std.specs.declared.alloc.AllocError.{AllocError}
use Rattle.pg_types.specs.declared.faults.WireFault.{WireFault}
use Rattle.pg_wire.specs.Faults.{wire_fault}
use Rattle.pg_wire.specs.declared.message.Message as received
use Rattle.pg_query.specs.Messages.{IsMalformed, Means}
use Rattle.pg_query.specs.declared.script.Want.{Want}
use Rattle.pg_query.specs.declared.desk_call.Cleanup.TheVariants.{Release}
use Rattle.pg_query.specs.declared.script.Want.TheVariants as want
use Rattle.pg_query.specs.Dialogue.{Dialogue, Read, feed_one}
use Rattle.pg_query.specs.Scripts.{GoesOn, IsLast, IsMessage, IsRead, Stops, cleanup_of}
use Rattle.pg_client.specs.Done.{batch_reading, done_message, done_next, done_reading, reading_of}
use Rattle.pg_client.specs.declared.done_reading.DoneReading.{DoneReading}
use Rattle.pg_steps.specs.Replies.{IsFailure}
use Rattle.pg_steps.specs.Steps.{behind_reply, dialogue_at, dialogue_of, means, posts, refuses_of, replies, told_to, waits_at, waits_of}
use Rattle.pg_steps.specs.declared.steps.Phase.{Phase}
use Rattle.pg_steps.specs.declared.steps.Phase.TheVariants as phase
use Rattle.pg_steps.specs.declared.steps.Steps.{Steps}

abbrev Told : Type 0
Told = Option (Result (Unit {0}) Error)

-- the first answer, where the later messages tell this
abbrev first_of : Told → Told → Told
first_of later o = elim o as (λ _. Told) [ None ↦ later | Some r ↦ Some r ]

alone : (o : Told) → first_of None o ≡ o
alone None = refl
alone (Some r) = refl

-- what a message alone tells is what it tells next
pub told-next : (r : DoneReading) → r.results ≡ true → (raw : RawMessage) (o : Told) → reading_of r (raw ∷ []) ≡ o → done_next true raw ≡ o
told-next r batch raw o h = sym (alone (done_next true raw)) ∙ sym (ap (λ (b : Bool). done_reading b (raw ∷ [])) batch) ∙ h

-- where an answer is told, it is an error
abbrev Failing : Told → Type 0
Failing None = Unit {0}
Failing (Some r) = IsFailure r

-- what is told of a message that may be malformed
abbrev told_of : Result Message spec.WireFault → Told
told_of read = elim read as (λ _. Told) [ Ok message ↦ done_message true message | Err fault ↦ Some (Err (spec.Parse (spec.Wire fault))) ]

-- a malformed message tells an error
pub malformed-fails : (raw : RawMessage) (fault : Option spec.WireFault) (r : Result (Unit {0}) Error) → IsMalformed raw fault → done_next true raw ≡ Some r → IsFailure r
malformed-fails raw None r m h = absurd m
malformed-fails raw (Some c) r m h =
    let is : Some (Err (spec.Parse (spec.Wire c))) ≡ Some r = sym (ap told_of m) ∙ h in
    subst (λ (o : Told). Failing o) is tt

-- behind a malformed message nothing is read
pub stops-at : (m : Result received.Message WireFault) (raw : RawMessage) (r : Result (Unit {0}) Error) (w : Result (Want (Unit {0})) AllocError) (s : Steps) → Means raw m → done_next true raw ≡ Some r →
    (IsFailure r → IfOk w (λ x. IsLast x (dialogue_of s))) → IfOk w (λ x. Stops m x (dialogue_of s))
stops-at (Ok message) raw r (Ok x) s m h last = tt
stops-at (Ok message) raw r (Err e) s m h last = tt
stops-at (Err fault) raw r w s m h last = last (malformed-fails raw (wire_fault fault) r m h)

module _ (s : Steps) (raw : RawMessage) where
  -- a reply behind a message that tells this
  abbrev fed_by : Told → Dialogue (Unit {0})
  fed_by o =
      if is_some (first_of None o) then told_to s.rolls_back (means s.plan.now s.call s.rolls_back) (first_of None o)
      else Read (Release ∷ posts s.rolls_back) (λ ms. is_some (first_of (batch_reading ms) o)) (λ ms. told_to s.rolls_back (means s.plan.now s.call s.rolls_back) (first_of (batch_reading ms) o))

  fed : (o : Told) → done_next true raw ≡ o → feed_one raw (replies s.rolls_back (means s.plan.now s.call s.rolls_back)) ≡ fed_by o
  fed o e = ap fed_by e

  -- a message that tells nothing yet
  pub reads-more : done_next true raw ≡ None → IsMessage (waits_of s) → GoesOn dialogue_of refuses_of waits_of (feed_one raw (dialogue_of s)) want.Read s
  reads-more none h = by s.phase h
    where
      by : (p : Phase) → IsMessage (waits_at s.plan.now s.call s.rolls_back s.failed p) →
          GoesOn dialogue_of refuses_of waits_of (feed_one raw (dialogue_at s.plan.now s.call s.rolls_back s.failed p)) want.Read (record s { phase = p })
      by phase.Goes h = absurd h
      by phase.Reads h = record { is = sym (fed None none); wanted = record { waiting = tt; there = tt } }
      by phase.Fails h = absurd h
      by phase.Ends h = absurd h

  -- one that tells the answer
  pub reads-told : (r : Result (Unit {0}) Error) → done_next true raw ≡ Some r → IsMessage (waits_of s) → behind_reply s (Some r) ≡ feed_one raw (dialogue_of s)
  reads-told r some h = by s.phase h
    where
      by : (p : Phase) → IsMessage (waits_at s.plan.now s.call s.rolls_back s.failed p) → behind_reply s (Some r) ≡ feed_one raw (dialogue_at s.plan.now s.call s.rolls_back s.failed p)
      by phase.Goes h = absurd h
      by phase.Reads h = sym (fed (Some r) some)
      by phase.Fails h = absurd h
      by phase.Ends h = absurd h

module _ (s : Steps) where
  -- what is left to do
  pub left : IsMessage (waits_of s) → cleanup_of (dialogue_of s) ≡ Release ∷ posts s.rolls_back
  left h = by s.phase h
    where
      by : (p : Phase) → IsMessage (waits_at s.plan.now s.call s.rolls_back s.failed p) → cleanup_of (dialogue_at s.plan.now s.call s.rolls_back s.failed p) ≡ Release ∷ posts s.rolls_back
      by phase.Goes h = absurd h
      by phase.Reads h = refl
      by phase.Fails h = absurd h
      by phase.Ends h = absurd h

  -- it reads, and is asked again
  pub still : s.phase ≡ phase.Reads → GoesOn dialogue_of refuses_of waits_of (dialogue_of s) want.Read s
  still e = record {
    is = refl;
    wanted = record {
      waiting = subst (λ (p : Phase). IsMessage (waits_at s.plan.now s.call s.rolls_back s.failed p)) (sym e) tt;
      there = subst (λ (p : Phase). IsRead (dialogue_at s.plan.now s.call s.rolls_back s.failed p)) (sym e) tt;
    };
  }
