-- What was done to a hub that tasks and a line share, and by whom.
use Rattle.std.specs.Prelude.{◌≡◌, ℕ, ◌==◌, Bool, false, List, [], ◌∷◌, ◌++◌, map, filter, Option, Some, None, is_some, slice_get}
use Rattle.pg_desk.specs.declared.event.Event.{Event}
use Rattle.pg_drive.specs.Lives.{is_desk_call}

-- a call, by the task at a place or by the line
pub record Act : Type 0 where
  pub by : Option ℕ
  pub event : Event

-- the task at a place is meant
abbrev pub is_at : ℕ → Option ℕ → Bool
is_at place None = false
is_at place (Some who) = who == place

-- it made this call
abbrev pub is_by : ℕ → Act → Bool
is_by place act = is_at place act.by

-- the calls, in order
abbrev pub events_of : List Act → List Event
events_of acts = map (λ act. act.event) acts

-- the calls of a desk were made by tasks, and the others by the line
abbrev pub AllTold : List Act → Type 0
AllTold [] = Unit {0}
AllTold (act ∷ acts) = (is_desk_call act.event ≡ is_some act.by) × AllTold acts

-- those of the task at a place, in order
abbrev pub done_by : ℕ → List Act → List Event
done_by place acts = events_of (filter (is_by place) acts)

-- a turn of a task: its calls, whether it moved something, and where it left the task
pub record Turned (S : Type 0) : Type 0 where
  pub events : List Event
  pub moved : Bool
  pub stand : S

-- turns, each from where the one before left the task
abbrev pub TurnsOn : {S : Type 0} → (turns : S → List Event → Bool → S → Type 0) → S → List (Turned S) → S → Type 0
TurnsOn turns s [] t = t ≡ s
TurnsOn turns s (x ∷ xs) t = turns s x.events x.moved x.stand × TurnsOn turns x.stand xs t

-- their calls, in order
abbrev pub calls_in : {S : Type 0} → List (Turned S) → List Event
calls_in [] = []
calls_in (x ∷ xs) = x.events ++ calls_in xs

-- These calls are an unbroken run of a task's own turns, from one stand to another.
pub record IsRun {S : Type 0} (turns : S → List Event → Bool → S → Type 0) (s : S) (events : List Event) (t : S) : Type 0 where
  pub taken : List (Turned S)
  pub run : TurnsOn turns s taken t
  pub calls : events ≡ calls_in taken

-- the same of the task at a place, if there is one there
abbrev pub IsRunAt : {S : Type 0} → (turns : S → List Event → Bool → S → Type 0) → Option S → List Event → Option S → Type 0
IsRunAt turns (Some s) events (Some t) = IsRun turns s events t
IsRunAt turns None events None = events ≡ []
IsRunAt turns _ events _ = ⊥

-- Some calls led the hub from one to another. Those of a desk were made by tasks, and the others by the line. The calls of each task are an unbroken run of its own turns, from where it stood to where it stands.
pub record WasDone {H S : Type 0} (becomes : H → List Event → H → Type 0) (turns : S → List Event → Bool → S → Type 0) (a : H) (ss : List S) (b : H) (ts : List S) : Type 0 where
  pub acts : List Act
  pub became : becomes a (events_of acts) b
  pub told : AllTold acts
  pub runs : (place : ℕ) → IsRunAt turns (slice_get ss place) (done_by place acts) (slice_get ts place)
