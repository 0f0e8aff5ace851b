-- What one turn of a session does, whatever its commands are.
use Rattle.std.specs.Prelude.{◌≡◌, ◌<◌, ◌≤◌, ◌-◌, ◌⊎◌, ℕ, zero, suc, Bool, true, false, List, [], ◌∷◌, ◌++◌, length, Option, Some, None, slice_get, slice_set, Result, Ok, Err}
use Rattle.std.proofs.Common.{inl, inr}
use Rattle.futures.specs.declared.task.Poll.{Poll}
use Rattle.futures.specs.declared.task.Poll.TheVariants.{Ready, Pending}
use Rattle.pg_spec.specs.Links.{LinkView}
use Rattle.pg_spec.specs.declared.stamps.Stamp.{Stamp}
use Rattle.pg_connect.specs.Answers.{PollAnswers}
use Rattle.pg_connect.specs.Calm.{MissesFew}
use Rattle.pg_connect.specs.declared.streams.Streams.{Streams}
use Rattle.pg_desk.specs.declared.event.Event.{Event}
use Rattle.pg_desk.specs.declared.event.Event.TheVariants.{CloseRequests}
use Rattle.pg_errors.specs.declared.async_message.AsyncMessage.{AsyncMessage}
use Rattle.pg_types.specs.declared.error.Error.{Error}
use Rattle.pg_hub.specs.Fits.{HubBecomes}
use Rattle.pg_hub.specs.Standing.{Standing}
use Rattle.pg_session.specs.declared.handle_turn.Polling.{Polling}
use Rattle.pg_session.specs.declared.handle_turn.Polling.TheVariants as polling
use Rattle.pg_session.specs.Speeches.{Speech}
use Rattle.pg_session.specs.Handles.{HandleState}
use Rattle.pg_session.specs.States.{SessionState}
use Rattle.pg_session.specs.HandleTurns.{Idles, Waits, Answers}

-- a hub of which nobody has asked yet whether something moved
abbrev pub untouched : Standing → Standing
untouched hub = record hub { touched = false }

-- where no command is left unanswered, requests are closed; else nothing happens
abbrev pub Closes : (left : ℕ) → Standing → Standing → Type 0
Closes zero a b = HubBecomes a (CloseRequests (Ok tt) ∷ []) b
Closes (suc n) a b = b ≡ a

-- how many commands are left unanswered behind a turn of a handle
abbrev pub left_behind : Polling → ℕ → ℕ
left_behind polling.Answered left = left - 1
left_behind other left = left

-- what is done behind the poll of a handle's turn
abbrev pub ClosesBehind : Polling → (left : ℕ) → Standing → Standing → Type 0
ClosesBehind polling.Answered left a b = Closes (left - 1) a b
ClosesBehind polling.Waits left a b = b ≡ untouched a
ClosesBehind other left a b = b ≡ a

-- what a turn of a handle did to its desk and to itself
abbrev pub HandleTurns : {D C T A E : Type 0} → (D → List Event → D → Type 0) → Speech C T A E → List C → Stamp → D → HandleState T A E → D → HandleState T A E → Polling → Type 0
HandleTurns becomes speech script stamp a old b new polling.Idle = Idles script a old b new
HandleTurns becomes speech script stamp a old b new polling.Began = Waits becomes speech script stamp a old b new true
HandleTurns becomes speech script stamp a old b new polling.Waits = Waits becomes speech script stamp a old b new false
HandleTurns becomes speech script stamp a old b new polling.Answered = Answers becomes speech script stamp a old b new

-- a turn of a handle: nothing but the hub and the handle changes
pub record HandleMade {C T A E : Type 0} (speech : Speech C T A E) (scripts : List (List C)) (turn : ℕ) (s t : SessionState T A E) (did : Polling) : Type 0 where
  pub script : List C
  pub script_at : slice_get scripts turn ≡ Some script
  pub old : HandleState T A E
  pub old_at : slice_get s.handles turn ≡ Some old
  pub new : HandleState T A E
  pub hub : Standing
  pub turns : HandleTurns HubBecomes speech script (record { owner = turn; command = length old.answers; turn = length s.trace }) (untouched s.hub) old hub new did
  pub closes : ClosesBehind did s.unanswered hub t.hub
  pub handles : t.handles ≡ slice_set s.handles turn new
  pub unanswered : t.unanswered ≡ left_behind did s.unanswered
  pub streams : t.streams ≡ s.streams
  pub asynchronous : t.asynchronous ≡ s.asynchronous
  pub trace : t.trace ≡ s.trace ++ record { turn = turn; delivered = s.streams.delivered } ∷ []

-- what is kept of the answer of a poll, and whether it was the connection's end
abbrev pub HandsOn : Poll (Option (Result AsyncMessage Error)) → (old new : List AsyncMessage) → (over : Bool) → Type 0
HandsOn Pending old new over = (new ≡ old) × (over ≡ false)
HandsOn (Ready None) old new over = (new ≡ old) × (over ≡ true)
HandsOn (Ready (Some (Ok message))) old new over = (new ≡ old ++ message ∷ []) × (over ≡ false)
HandsOn (Ready (Some (Err e))) old new over = ⊥

-- a turn of the connection: one poll
pub record ConnectionMade {T A E : Type 0} (turn : ℕ) (s t : SessionState T A E) (before after : LinkView) (over : Bool) : Type 0 where
  pub answer : Poll (Option (Result AsyncMessage Error))
  pub polled : PollAnswers HubBecomes s.hub t.hub s.streams t.streams before after answer
  -- at most two of its calls weren't ready, and on a steady link at most one
  pub misses : MissesFew before after
  pub hands : HandsOn answer s.asynchronous t.asynchronous over
  pub handles : t.handles ≡ s.handles
  pub unanswered : t.unanswered ≡ s.unanswered
  pub trace : t.trace ≡ s.trace ++ record { turn = turn; delivered = t.streams.delivered } ∷ []

-- a turn of a handle crosses no link
pub record HandleTurn {C T A E : Type 0} (speech : Speech C T A E) (scripts : List (List C)) (turn : ℕ) (s t : SessionState T A E) (before after : LinkView) (over : Bool) : Type 0 where
  pub own : turn < length scripts
  pub did : Polling
  pub made : HandleMade speech scripts turn s t did
  pub link : after ≡ before
  pub goes_on : over ≡ false

-- every other turn is the connection's
pub record ConnectionTurn {C T A E : Type 0} (scripts : List (List C)) (turn : ℕ) (s t : SessionState T A E) (before after : LinkView) (over : Bool) : Type 0 where
  pub other : length scripts ≤ turn
  pub made : ConnectionMade turn s t before after over

-- one turn of a session, and whether the connection was shut down in it
abbrev pub Makes : {C T A E : Type 0} → Speech C T A E → List (List C) → (turn : ℕ) → SessionState T A E → SessionState T A E → (before after : LinkView) → (over : Bool) → Type 0
Makes speech scripts turn s t before after over = HandleTurn speech scripts turn s t before after over ⊎ ConnectionTurn scripts turn s t before after over

-- whether a turn of a handle moved anything: its command begins or answers, or what it did to the hub moves it
abbrev pub moved_by : Polling → (hub : Standing) → Bool
moved_by polling.Idle hub = false
moved_by polling.Began hub = true
moved_by polling.Waits hub = hub.touched
moved_by polling.Answered hub = true

-- whether a poll moved anything: a message is handed out, or it says so itself
abbrev pub moved_in_poll : Poll (Option (Result AsyncMessage Error)) → Streams → Bool
moved_in_poll Pending streams = streams.moved
moved_in_poll (Ready answer) streams = true

-- whether anything moved in a turn
abbrev pub moved_in : {C T A E : Type 0} → (speech : Speech C T A E) (scripts : List (List C)) (turn : ℕ) (s t : SessionState T A E) (before after : LinkView) (over : Bool) →
    Makes speech scripts turn s t before after over → Bool
moved_in speech scripts turn s t before after over (inl handle) = moved_by handle.did handle.made.hub
moved_in speech scripts turn s t before after over (inr connection) = moved_in_poll connection.made.answer t.streams

-- one turn by what it answers: the connection was shut down in it, or whether anything moved
abbrev pub Turns : {C T A E : Type 0} → Speech C T A E → List (List C) → (turn : ℕ) → SessionState T A E → SessionState T A E → (before after : LinkView) → Option Bool → Type 0
Turns speech scripts turn s t before after None = Makes speech scripts turn s t before after true
Turns speech scripts turn s t before after (Some moved) =
    (made : Makes speech scripts turn s t before after false) × (moved_in speech scripts turn s t before after false made ≡ moved)
