-- The events of a session's one hub, turn by turn: the calls of its handles and of its connection.
use Rattle.std.specs.Prelude.{◌≡◌, ℕ, zero, suc, ◌-◌, Bool, List, [], ◌∷◌, ◌++◌, length, take, Ok, EachIndex, unwrap_or, slice_get}
use Rattle.std.proofs.Common.{inl, inr}
use Rattle.pg_promises.specs.Endings.{Report, Session, later_messages, replies}
use Rattle.pg_spec.specs.Links.{LinkView}
use Rattle.pg_spec.specs.RawMessages.{sync_of}
use Rattle.pg_spec.specs.Turns.{delivered_after}
use Rattle.pg_desk.specs.History.{start, taken, joined, received, after_all, IsFrontOf, IsLegal}
use Rattle.pg_desk.specs.declared.event.Event.{Event}
use Rattle.pg_desk.specs.declared.event.Event.TheVariants.{CloseRequests}
use Rattle.pg_spec.specs.declared.stamps.Stamp.{Stamp}
use Rattle.pg_hub.specs.Fits.{HubBecomes}
use Rattle.pg_hub.specs.Standing.{Standing}
use Rattle.pg_session.specs.Speeches.{Speech}
use Rattle.pg_session.specs.Calls.{calls_in_poll}
use Rattle.pg_session.specs.Sessions.{MakesAll, Plays}
use Rattle.pg_session.specs.Handles.{HandleState}
use Rattle.pg_session.specs.States.{SessionState, commands_in}
use Rattle.pg_session.specs.Turns.{HandleTurns, Makes, untouched}
use Rattle.pg_session.specs.declared.handle_turn.Polling.{Polling}
use Rattle.pg_session.specs.declared.handle_turn.Polling.TheVariants as polling

-- the calls by which a handle's command is polled
abbrev pub events_in_handle : {C T A E : Type 0} → (speech : Speech C T A E) (script : List C) (stamp : Stamp) (a b : Standing) (old new : HandleState T A E) (did : Polling) →
    HandleTurns HubBecomes speech script stamp a old b new did → List Event
events_in_handle speech script stamp a b old new polling.Idle turns = []
events_in_handle speech script stamp a b old new polling.Began turns = turns.pauses.goes.events
events_in_handle speech script stamp a b old new polling.Waits turns = turns.pauses.goes.events
events_in_handle speech script stamp a b old new polling.Answered turns = turns.goes.goes.events

-- where no command is left unanswered, requests are closed
abbrev pub events_in_close : (left : ℕ) → List Event
events_in_close zero = CloseRequests (Ok tt) ∷ []
events_in_close (suc left) = []

-- the same behind a turn of a handle
abbrev pub events_behind : Polling → (left : ℕ) → List Event
events_behind polling.Answered left = events_in_close (left - 1)
events_behind other left = []

-- the calls in a turn: the handle's, or the connection's
abbrev pub events_in_turn : {C T A E : Type 0} → (speech : Speech C T A E) (scripts : List (List C)) (turn : ℕ) (s t : SessionState T A E) (l m : LinkView) (over : Bool) →
    Makes speech scripts turn s t l m over → List Event
events_in_turn speech scripts turn s t l m over (inl handle) =
    events_in_handle speech handle.made.script _ (untouched s.hub) handle.made.hub handle.made.old handle.made.new handle.did handle.made.turns
    ++ events_behind handle.did s.unanswered
events_in_turn speech scripts turn s t l m over (inr connection) =
    calls_in_poll s.hub t.hub s.streams t.streams l m connection.made.answer connection.made.polled

-- those in all of these turns, turn by turn
abbrev pub events_in : {C T A E : Type 0} → (speech : Speech C T A E) (scripts : List (List C)) (turns : List ℕ) (s : SessionState T A E) (l : LinkView) (t : SessionState T A E) (m : LinkView) →
    MakesAll speech scripts turns s l t m → List (List Event)
events_in speech scripts [] s l t m made = []
events_in speech scripts (turn ∷ turns) s l t m (rested, mid, passed, rests, makes, more) =
    events_in_turn speech scripts turn s mid rested passed _ makes ∷ events_in speech scripts turns mid passed t m more

-- the calls of the hub in a session that was played to its end, turn by turn
abbrev pub turn_events : {C T A E : Type 0} → (speech : Speech C T A E) (scripts : List (List C)) (given : List ℕ) (s : SessionState T A E) (l : LinkView) (t : SessionState T A E) (m : LinkView) →
    Plays speech scripts given s l t m → List (List Event)
turn_events speech scripts given s l t m plays =
    events_in speech scripts plays.turns s l plays.ends.state plays.ends.link plays.ends.before
    ++ events_in_turn speech scripts plays.last plays.ends.state t plays.ends.link m _ plays.ends.over ∷ []

-- All calls by the end of the first turns. Where there is no command, requests are closed before the first turn.
abbrev pub events_by : {C : Type 0} → (scripts : List (List C)) → List (List Event) → (turns : ℕ) → List Event
events_by scripts events turns = events_in_close (commands_in scripts) ++ joined (take turns events)

-- each turn has its events, and together they are a history of one hub
pub record AreEvents {C A : Type 0} (scripts : List (List C)) (report : Report A) (events : List (List Event)) : Type 0 where
  pub each_turn : length events ≡ length report.trace
  pub legal : IsLegal (start 0 0) (events_by scripts events (length events))

-- What the reader of request k took by these events is a front of the server's reply to request k. And by the end of
-- each turn as many messages were delivered, the first ones, as the trace tells.
pub record ReadsItsReply {C A : Type 0} (scripts : List (List C)) (s : Session C A) (events : List (List Event)) : Type 0 where
  pub took : (k : ℕ) → IsFrontOf (joined (taken k (after_all (start 0 0) (events_by scripts events (length events))).takes)) (unwrap_or (slice_get (replies s) k) [])
  pub delivered : EachIndex s.report.trace (λ place.
      received (after_all (start 0 0) (events_by scripts events (suc place))).deliveries
      ≡ take (delivered_after s.report.trace place) (sync_of (later_messages s)))
