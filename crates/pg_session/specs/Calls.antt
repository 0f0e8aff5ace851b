-- What the turns of a session called and asked, whatever its commands are.
use Rattle.std.specs.Prelude.{ℕ, Bool, true, false, List, [], ◌∷◌, ◌++◌, Option, Some, None, Result, Ok, Err}
use Rattle.std.proofs.Common.{inl, inr}
use Rattle.futures.specs.declared.task.Poll.{Poll}
use Rattle.futures.specs.declared.task.Poll.TheVariants.{Ready, Pending}
use Rattle.pg_spec.specs.Links.{LinkView}
use Rattle.pg_spec.specs.declared.stamps.Stamp.{Stamp}
use Rattle.pg_connect.specs.Answers.{PollAnswers}
use Rattle.pg_connect.specs.declared.streams.Streams.{Streams}
use Rattle.pg_desk.specs.declared.event.Event.{Event}
use Rattle.pg_errors.specs.declared.async_message.AsyncMessage.{AsyncMessage}
use Rattle.pg_types.specs.declared.error.Error.{Error}
use Rattle.pg_hub.specs.Fits.{HubBecomes}
use Rattle.pg_hub.specs.Standing.{Standing}
use Rattle.pg_query.specs.Lives.{Deed}
use Rattle.pg_query.specs.declared.desk_call.DeskCall.{DeskCall}
use Rattle.pg_query.specs.declared.desk_call.Reply.{Reply}
use Rattle.pg_spec.specs.Courses.{Asked}
use Rattle.pg_core.specs.Deeds.{asked_in}
use Rattle.pg_core.proofs.Polls.{under_stamp}
use Rattle.pg_session.specs.declared.handle_turn.Polling.{Polling}
use Rattle.pg_session.specs.declared.handle_turn.Polling.TheVariants as polling
use Rattle.pg_session.specs.Speeches.{Speech}
use Rattle.pg_session.specs.Handles.{HandleState}
use Rattle.pg_session.specs.States.{SessionState}
use Rattle.pg_session.specs.Turns.{HandleTurns, Makes, untouched}
use Rattle.pg_session.specs.Sessions.{MakesAll, Plays}

-- the connection's calls in a poll
abbrev pub calls_in_poll : (a b : Standing) (old new : Streams) (before after : LinkView) (answer : Poll (Option (Result AsyncMessage Error))) →
    PollAnswers HubBecomes a b old new before after answer → List Event
calls_in_poll a b old new before after Pending polled = polled.turns.goes.events
calls_in_poll a b old new before after (Ready None) polled = polled.turns.goes.events
calls_in_poll a b old new before after (Ready (Some (Ok message))) polled = polled.turns.goes.events
calls_in_poll a b old new before after (Ready (Some (Err e))) polled = []

-- what a handle did in its turn
abbrev pub deeds_in_handle : {C T A E : Type 0} → (speech : Speech C T A E) (script : List C) (stamp : Stamp) (a b : Standing) (old new : HandleState T A E) (did : Polling) →
    HandleTurns HubBecomes speech script stamp a old b new did → List Deed
deeds_in_handle speech script stamp a b old new polling.Idle turns = []
deeds_in_handle speech script stamp a b old new polling.Began turns = under_stamp stamp turns.pauses.goes.events
deeds_in_handle speech script stamp a b old new polling.Waits turns = under_stamp stamp turns.pauses.goes.events
deeds_in_handle speech script stamp a b old new polling.Answered turns = under_stamp stamp turns.goes.goes.events

-- what was asked in a turn, and what was told
abbrev pub asked_in_turn : {C T A E : Type 0} → (speech : Speech C T A E) (scripts : List (List C)) (turn : ℕ) (s t : SessionState T A E) (l m : LinkView) (over : Bool) →
    Makes speech scripts turn s t l m over → List (Asked DeskCall Reply)
asked_in_turn speech scripts turn s t l m over (inl handle) =
    asked_in (deeds_in_handle speech handle.made.script _ (untouched s.hub) handle.made.hub handle.made.old handle.made.new handle.did handle.made.turns)
asked_in_turn speech scripts turn s t l m over (inr connection) = []

-- in all of these turns, in order
abbrev pub asked_in_all : {C T A E : Type 0} → (speech : Speech C T A E) (scripts : List (List C)) (turns : List ℕ) (s : SessionState T A E) (l : LinkView) (t : SessionState T A E) (m : LinkView) →
    MakesAll speech scripts turns s l t m → List (Asked DeskCall Reply)
asked_in_all speech scripts [] s l t m made = []
asked_in_all speech scripts (turn ∷ turns) s l t m (rested, mid, passed, rests, makes, more) =
    asked_in_turn speech scripts turn s mid rested passed false makes ++ asked_in_all speech scripts turns mid passed t m more

-- in a whole session
abbrev pub asked_of : {C T A E : Type 0} → (speech : Speech C T A E) (scripts : List (List C)) (given : List ℕ) (s : SessionState T A E) (l : LinkView) (t : SessionState T A E) (m : LinkView) →
    Plays speech scripts given s l t m → List (Asked DeskCall Reply)
asked_of speech scripts given s l t m plays =
    asked_in_all speech scripts plays.turns s l plays.ends.state plays.ends.link plays.ends.before
    ++ asked_in_turn speech scripts plays.last plays.ends.state t plays.ends.link m true plays.ends.over

-- the connection's calls in a turn
abbrev pub calls_in_turn : {C T A E : Type 0} → (speech : Speech C T A E) (scripts : List (List C)) (turn : ℕ) (s t : SessionState T A E) (l m : LinkView) (over : Bool) →
    Makes speech scripts turn s t l m over → List Event
calls_in_turn speech scripts turn s t l m over (inl handle) = []
calls_in_turn speech scripts turn s t l m over (inr connection) =
    calls_in_poll s.hub t.hub s.streams t.streams l m connection.made.answer connection.made.polled

-- those in all of these turns, in order
abbrev pub calls_in : {C T A E : Type 0} → (speech : Speech C T A E) (scripts : List (List C)) (turns : List ℕ) (s : SessionState T A E) (l : LinkView) (t : SessionState T A E) (m : LinkView) →
    MakesAll speech scripts turns s l t m → List Event
calls_in speech scripts [] s l t m made = []
calls_in speech scripts (turn ∷ turns) s l t m (rested, mid, passed, rests, makes, more) =
    calls_in_turn speech scripts turn s mid rested passed false makes ++ calls_in speech scripts turns mid passed t m more

-- those in a whole session
abbrev pub calls_of : {C T A E : Type 0} → (speech : Speech C T A E) (scripts : List (List C)) (given : List ℕ) (s : SessionState T A E) (l : LinkView) (t : SessionState T A E) (m : LinkView) →
    Plays speech scripts given s l t m → List Event
calls_of speech scripts given s l t m plays =
    calls_in speech scripts plays.turns s l plays.ends.state plays.ends.link plays.ends.before
    ++ calls_in_turn speech scripts plays.last plays.ends.state t plays.ends.link m true plays.ends.over
