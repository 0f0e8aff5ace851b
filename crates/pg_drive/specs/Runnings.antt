-- A command's state that takes turns, and its life.
use Rattle.std.specs.Prelude.{◌≡◌, ◌⊎◌, Bool, true, false, List, [], Result, Ok, Err}
use Rattle.pg_spec.specs.declared.stamps.Stamp.{Stamp}
use Rattle.pg_types.specs.declared.error.Error.{Error}
use Rattle.pg_types.specs.declared.error.Error.TheVariants.{OutOfMemory}
use Rattle.pg_desk.specs.declared.event.Event.{Event}
use Rattle.pg_query.specs.Dialogue.{Answer, Walks}
use Rattle.pg_query.specs.Lives.{Turn, Lives, deeds}
use Rattle.pg_query.specs.Meaning.{Place, GivesUp, WaitsAt}
use Rattle.pg_drive.specs.declared.task.Running.{Running}
use Rattle.pg_drive.specs.declared.task.Running.TheVariants.{Polled, Answered}
use Rattle.pg_drive.specs.Lives.{under}

-- it has its answer
abbrev pub has_answered : {S T : Type 0} → Running S T → Bool
has_answered (Polled state stamp) = false
has_answered (Answered r) = true

-- its state hasn't answered
abbrev pub IsLiveRunning : {S T : Type 0} → (S → Type 0) → Running S T → Type 0
IsLiveRunning is_live (Polled state stamp) = is_live state
IsLiveRunning is_live (Answered r) = Unit {0}

-- this is the answer that a command has at a place; want of memory may be it anywhere
abbrev pub IsAnswer : {T : Type 0} → Place T → Result T Error → Type 0
IsAnswer p r = (p.dialogue ≡ Answer r) ⊎ (r ≡ Err OutOfMemory)

-- these events led from one place to another
abbrev pub Led : {T : Type 0} → Stamp → Place T → List Event → Place T → Type 0
Led stamp p events q = Walks stamp p.dialogue p.reads events q.dialogue q.reads

-- a turn of it: the events led to where the command waits, or to its answer
abbrev pub RunningTurns : {S T : Type 0} → (S → Place T) → Running S T → List Event → (moved : Bool) → Running S T → Type 0
RunningTurns place (Polled s stamp) events moved (Polled t next) = (moved ≡ false) × (next ≡ stamp) × Led stamp (place s) events (place t) × WaitsAt (place t) events
RunningTurns {S} {T} place (Polled s stamp) events moved (Answered r) = (moved ≡ true) × ((last : Place T) × Led stamp (place s) events last × IsAnswer last r)
RunningTurns place (Answered r) events moved t = ⊥

-- what is left to do of it was done, and this is the answer
abbrev pub IsGivenUp : {H S T : Type 0} → (H → List Event → H → Type 0) → (S → Place T) → H → Running S T → H → Result (Unit {0}) Error → Type 0
IsGivenUp becomes place a (Polled s stamp) b r = GivesUp becomes stamp a (place s) b r
IsGivenUp becomes place a (Answered answer) b r = (r ≡ Ok tt) × (b ≡ a)

-- These events are the life of a command under one stamp, from one place to another: those of its polls, in order.
pub record IsLifeOf {T : Type 0} (stamp : Stamp) (p : Place T) (events : List Event) (q : Place T) : Type 0 where
  pub turns : List Turn
  pub lives : Lives p turns q
  pub own : deeds turns ≡ under stamp events

-- These events are the life of it; and its answer, if it has one, is the command's own where they led.
abbrev pub RunningLives : {S T : Type 0} → (S → Place T) → Running S T → List Event → Running S T → Type 0
RunningLives place (Polled s stamp) events (Polled t next) = (next ≡ stamp) × IsLifeOf stamp (place s) events (place t)
RunningLives {S} {T} place (Polled s stamp) events (Answered r) = (last : Place T) × IsLifeOf stamp (place s) events last × IsAnswer last r
RunningLives place (Answered r) events t = (events ≡ []) × (t ≡ Answered r)
