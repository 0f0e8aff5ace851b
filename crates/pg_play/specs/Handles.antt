-- Handles, and what their turns and polls do.
use Rattle.std.specs.Prelude.{◌≡◌, ◌≢◌, ◌⊎◌, ℕ, List, [], ◌∷◌, ◌++◌, length, Some, None, IfSome, option_map, slice_get, slice_set, Result, Err}
use Rattle.pg_desk.specs.declared.event.Event.{Event}
use Rattle.pg_spec.specs.declared.stamps.Stamp.{Stamp}
use Rattle.pg_types.specs.declared.error.Error.{Error}
use Rattle.pg_types.specs.declared.error.Error.TheVariants.{OutOfMemory}
use Rattle.pg_query.specs.Meaning.{Place, Pauses, GoesToAnswer}
use Rattle.pg_session.specs.Handles.{HandleState}
use Rattle.pg_session.specs.Speeches.{Speech}
use Rattle.pg_session.specs.Turns.{HandleTurns}
use Rattle.pg_session.specs.declared.handle_turn.Polling.{Polling}
use Rattle.pg_session.specs.declared.handle_turn.Polling.TheVariants as polling
use Rattle.pg_play.specs.declared.handle.Handle.{Handle}

-- the command that runs hasn't answered
abbrev pub IsLiveHandle : {S A E : Type 0} → (S → Type 0) → Handle S A E → Type 0
IsLiveHandle is_live h = IfSome h.running is_live

-- it has begun no command
pub record IsIdleHandle {S A E : Type 0} (begins : E) (h : Handle S A E) : Type 0 where
  pub running : h.running ≡ None
  pub answers : h.answers.items ≡ []
  pub slots : h.slots ≡ begins

-- what a handle stands for
abbrev pub view_of : {S T A E : Type 0} → (S → Place T) → Handle S A E → HandleState T A E
view_of place h = record { running = option_map place h.running; answers = h.answers.items; own = h.slots }

-- it is on its script: where that has no command left, none runs
abbrev pub IsOnScript : {C T A E : Type 0} → List C → HandleState T A E → Type 0
IsOnScript script h = slice_get script (length h.answers) ≡ None → h.running ≡ None

-- the same of each
abbrev pub AreOnScripts : {C T A E : Type 0} → List (List C) → List (HandleState T A E) → Type 0
AreOnScripts {C} {T} {A} {E} scripts handles = (place : ℕ) (script : List C) (h : HandleState T A E) → slice_get scripts place ≡ Some script → slice_get handles place ≡ Some h → IsOnScript script h

-- a command was polled and waits
pub record Paused {D T A E : Type 0} (becomes : D → List Event → D → Type 0) (stamp : Stamp) (a : D) (from : Place T) (b : D) (answers : List A) (own : E) (new : HandleState T A E) : Type 0 where
  pub to : Place T
  pub pauses : Pauses becomes stamp a from b to
  pub handle : new ≡ record { running = Some to; answers = answers; own = own }

-- this command was polled and answered
pub record AnsweredBy {D C T A E : Type 0} (becomes : D → List Event → D → Type 0) (speech : Speech C T A E) (stamp : Stamp) (command : C) (a : D) (from : Place T) (b : D) (answers : List A) (own : E) (new : HandleState T A E) : Type 0 where
  pub answer : Result T Error
  pub goes : GoesToAnswer becomes stamp a from b answer
  pub memory : answer ≢ Err OutOfMemory
  pub handle : new ≡ record { running = None; answers = answers ++ (speech.ends own command answer).answer ∷ []; own = (speech.ends own command answer).own }

-- how the poll of a command ended, where `waiting` is told if it waits
abbrev pub PollEnds : {D C T A E : Type 0} → (D → List Event → D → Type 0) → Speech C T A E → Stamp → C → D → Place T → D → List A → E → HandleState T A E → (waiting did : Polling) → Type 0
PollEnds becomes speech stamp command a from b answers own new waiting did =
    ((did ≡ waiting) × Paused becomes stamp a from b answers own new)
    ⊎ ((did ≡ polling.Answered) × AnsweredBy becomes speech stamp command a from b answers own new)

-- how the poll of the command that a handle runs ended
abbrev pub PollsRunning : {D C T A E : Type 0} → (D → List Event → D → Type 0) → Speech C T A E → Stamp → C → D → HandleState T A E → D → HandleState T A E → (waiting did : Polling) → Type 0
PollsRunning {D} {C} {T} becomes speech stamp command a old b new waiting did =
    (from : Place T) → old.running ≡ Some from → PollEnds becomes speech stamp command a from b old.answers old.own new waiting did

-- the handle at a place made its turn, and no other changed
pub record OneTurned {D C T A E : Type 0} (becomes : D → List Event → D → Type 0) (speech : Speech C T A E) (script : List C) (stamp : HandleState T A E → Stamp) (place : ℕ) (a : D) (olds : List (HandleState T A E)) (b : D) (news : List (HandleState T A E)) (did : Polling) : Type 0 where
  pub old : HandleState T A E
  pub old_at : slice_get olds place ≡ Some old
  pub new : HandleState T A E
  pub turns : HandleTurns becomes speech script (stamp old) a old b new did
  pub handles : news ≡ slice_set olds place new
