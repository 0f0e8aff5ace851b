-- What stands between two turns of a session, and what its steps do.
use Rattle.std.specs.Prelude.{◌≡◌, ◌⊎◌, ℕ, ◌^◌, ◌<◌, ◌≤◌, Bool, true, false, List, ◌++◌, ◌+◌, ◌*◌, if◌then◌else◌, length, map, Option, Some, None, IfErr, IfSome, OnOk, Result}
use Rattle.std.specs.List.{All}
use Rattle.pg_types.specs.declared.error.Error.{Error}
use Rattle.pg_types.specs.declared.error.Error.TheVariants as error
use Rattle.pg_spec.specs.Links.{LinkView}
use Rattle.pg_wire.specs.LinkCalls.{Continues}
use Rattle.pg_connect.specs.Calm.{MissesFew, StaysCalm}
use Rattle.pg_connect.specs.Answers.{IsWithinPoll, PollAnswers}
use Rattle.pg_desk.specs.History.{start}
use Rattle.pg_hub.specs.Fits.{Fits, HubBecomes}
use Rattle.pg_hub.specs.Standing.{Standing}
use Rattle.futures.specs.declared.task.Poll.{Poll}
use Rattle.pg_errors.specs.declared.async_message.AsyncMessage.{AsyncMessage}
use Rattle.pg_session.specs.Failures.{BreaksOff, RunsShort}
use Rattle.pg_session.specs.Sessions.{EndsWith, MakesAll, StaysAll, numbers, rounds}
use Rattle.pg_session.specs.Measure.{IsNearer, IsUnderWay, Left, left_to_do}
use Rattle.pg_query.specs.Meaning.{Place}
use Rattle.pg_session.specs.Speeches.{Speech}
use Rattle.pg_session.specs.States.{SessionState}
use Rattle.pg_session.specs.Turns.{Closes, HandleMade, HandsOn, moved_by, moved_in_poll}
use Rattle.pg_session.specs.declared.handle_turn.Polling.{Polling}
use Rattle.pg_text.specs.Scripts.{AreScripts}
use Rattle.pg_play.specs.declared.play.Play.{Play}
use Rattle.pg_play.specs.Handles.{AreOnScripts, IsLiveHandle, view_of}

-- the hub of a session before its first turn, in which so many commands aren't answered
pub record IsFirstHub (unanswered : ℕ) (hub : Standing) : Type 0 where
  pub new : Standing
  pub fits : Fits (start 0 0) new
  pub closes : Closes unanswered new hub

-- The session can go on: the link has given no more bytes than it may, unless the connection ended, each
-- script has its handle, and no handle holds a command that answered.
pub record IsReady {S C A E : Type 0} (is_live : S → Type 0) (scripts : List (List C)) (p : Play S A E) : Type 0 where
  pub are : AreScripts scripts
  pub limit : p.streams.max_bytes < 2 ^ 63
  pub within : p.streams.ended ≡ false → p.streams.given ≤ p.streams.max_bytes
  pub handles : length p.handles.items ≡ length scripts
  pub live : All (IsLiveHandle is_live) p.handles.items

-- what a session stands for
abbrev pub state_of : {S T A E : Type 0} → (S → Place T) → Play S A E → SessionState T A E
state_of place p = record {
  hub = p.hub;
  streams = p.streams;
  handles = map (view_of place) p.handles.items;
  unanswered = p.unanswered;
  trace = p.trace.items;
  asynchronous = p.asynchronous.items;
}

-- A session in which the connection isn't over: its hub stands for what was done to it, each command that runs waits for a
-- message and is one of its script, and the link gave no more bytes than it may.
pub record IsGoing {S C T A E : Type 0} (place : S → Place T) (scripts : List (List C)) (p : Play S A E) : Type 0 where
  pub under_way : IsUnderWay (state_of place p)
  pub on_scripts : AreOnScripts scripts (state_of place p).handles
  pub within : p.streams.given ≤ p.streams.max_bytes

-- the link gave no more bytes than it may, and the limit is as before
abbrev pub IsLimited : {S A E : Type 0} → (old new : Play S A E) → Type 0
IsLimited old new = (new.streams.given ≤ new.streams.max_bytes) × (new.streams.max_bytes ≡ old.streams.max_bytes)

-- what commands still do and what is still to be sent is below 2^128
pub record IsShort (x : Left) : Type 0 where
  pub commands : x.commands < 2 ^ 128
  pub unsent : x.unsent < 2 ^ 128

-- What is left to do as one number. It falls where the first of the three that changes falls, if what is left then is short.
abbrev pub as_number : Left → ℕ
as_number x = (x.unread * 2 ^ 128 + x.commands) * 2 ^ 128 + x.unsent

-- what is left to do, and whether a pause may come yet: the number falls with each round that ends nothing
abbrev pub rounds_left : {S C T A E : Type 0} → (S → Place T) → List (List C) → (waited : Bool) → Play S A E → ℕ
rounds_left place scripts waited p = 2 * as_number (left_to_do scripts (state_of place p)) + (if waited then 0 else 1)

-- an error of a session behind its startup: none that speaks of what was asked for
abbrev pub IsLater : Error → Type 0
IsLater (error.Config cause) = ⊥
IsLater _ = Unit {0}

-- the connection was shut down
abbrev pub is_over : Option Bool → Bool
is_over None = true
is_over (Some moved) = false

-- a handle made its turn, and says whether that moved anything
pub record HandlePolled {C T A E : Type 0} (speech : Speech C T A E) (scripts : List (List C)) (turn : ℕ) (s t : SessionState T A E) (moved : Option Bool) : Type 0 where
  pub did : Polling
  pub made : HandleMade speech scripts turn s t did
  pub says : moved ≡ Some (moved_by did made.hub)

-- the connection was polled, and says whether that moved anything; the turn isn't noted yet
pub record ConnectionPolled {T A E : Type 0} (s t : SessionState T A E) (before after : LinkView) (moved : Option Bool) : Type 0 where
  pub answer : Poll (Option (Result AsyncMessage Error))
  pub polled : PollAnswers HubBecomes s.hub t.hub s.streams t.streams before after answer
  pub misses : MissesFew before after
  pub hands : HandsOn answer s.asynchronous t.asynchronous (is_over moved)
  pub says : IfSome moved (λ m. moved_in_poll answer t.streams ≡ m)
  pub kept : s.streams.ended ≡ false → IsWithinPoll t.streams answer
  pub handles : t.handles ≡ s.handles
  pub unanswered : t.unanswered ≡ s.unanswered
  pub trace : t.trace ≡ s.trace

-- a round was made whole, and where it says so nothing moved in it
pub record RoundWhole {C T A E : Type 0} (speech : Speech C T A E) (scripts : List (List C)) (s : SessionState T A E) (l : LinkView) (t : SessionState T A E) (m : LinkView) (moved : Bool) : Type 0 where
  pub made : MakesAll speech scripts (numbers (length scripts + 1)) s l t m
  pub stays : moved ≡ false → StaysAll speech scripts (numbers (length scripts + 1)) s l t m

-- a round was made whole, or the connection was shut down in it
abbrev pub RoundMade : {C T A E : Type 0} → (speech : Speech C T A E) (scripts : List (List C)) (s : SessionState T A E) (l : LinkView) (t : SessionState T A E) (m : LinkView) → Option Bool → Type 0
RoundMade speech scripts s l t m (Some moved) = RoundWhole speech scripts s l t m moved
RoundMade speech scripts s l t m None = (last : ℕ) × (last ≤ length scripts) × EndsWith speech scripts (numbers last) last s l t m

-- some turns of a round were made, and the next one failed, or memory ran out
abbrev pub RoundFails : {C T A E : Type 0} → Speech C T A E → List (List C) → SessionState T A E → (before after : LinkView) → Error → Type 0
RoundFails speech scripts s l m e = RunsShort speech scripts s l m e ⊎ BreaksOff speech scripts s l m e

-- what a turn or a round leaves, where it doesn't fail
pub record Leaves {S C T A E : Type 0} (place : S → Place T) (scripts : List (List C)) (old new : Play S A E) (moved : Option Bool) : Type 0 where
  pub limited : IsLimited old new
  -- while the connection is open the session can go on, and less is left to do where something moved
  pub going : IfSome moved (λ m. IsGoing place scripts new)
  pub nearer : IfSome moved (λ m. IsNearer scripts m (state_of place old) (state_of place new))

-- What holds behind turns and rounds, whatever they answer: the link goes on from where it stood, an error doesn't
-- speak of what was asked for, and where they didn't fail no call was a lull.
pub record Crosses {A : Type 0} (before after : LinkView) (result : Result A Error) : Type 0 where
  pub link : Continues before after
  pub error : IfErr result IsLater
  pub calm : OnOk result (StaysCalm before after)

-- whole rounds were made
pub record RoundsMade {C T A E : Type 0} (speech : Speech C T A E) (scripts : List (List C)) (s : SessionState T A E) (l : LinkView) (t : SessionState T A E) (m : LinkView) : Type 0 where
  pub count : ℕ
  pub made : MakesAll speech scripts (rounds (length scripts) count) s l t m

-- whole rounds were made, and a front of one more, in which the connection was shut down
pub record RoundsEnd {C T A E : Type 0} (speech : Speech C T A E) (scripts : List (List C)) (s : SessionState T A E) (l : LinkView) (t : SessionState T A E) (m : LinkView) : Type 0 where
  pub count : ℕ
  pub last : ℕ
  pub within : last ≤ length scripts
  pub ends : EndsWith speech scripts (rounds (length scripts) count ++ numbers last) last s l t m
