-- The life of a drive's state, among all that was done to its hub.
use Rattle.std.specs.Prelude.{◌≡◌, ◌⊎◌, Bool, true, false, List, map, filter, Result, Err}
use Rattle.pg_spec.specs.declared.stamps.Stamp.{Stamp}
use Rattle.pg_types.specs.declared.error.Error.{Error}
use Rattle.pg_types.specs.declared.error.Error.TheVariants.{OutOfMemory}
use Rattle.pg_desk.specs.declared.event.Event.{Event}
use Rattle.pg_desk.specs.declared.event.Event.TheVariants as call
use Rattle.pg_query.specs.Dialogue.{Answer}
use Rattle.pg_query.specs.Lives.{Turn, Deed, Lives, deeds}
use Rattle.pg_query.specs.Meaning.{Place}
use Rattle.pg_drive.specs.Lines.{LineView, LineSteps}
use Rattle.pg_drive.specs.Drives.{Stand}

-- a call of a desk, which a state makes; the others are those of an engine, which the connection makes
abbrev pub is_desk_call : Event → Bool
is_desk_call (call.NextOut answer) = false
is_desk_call (call.Deliver batch complete answer) = false
is_desk_call (call.CloseRequests answer) = false
is_desk_call (call.Fail answer) = false
is_desk_call _ = true

-- the same of a deed
abbrev pub is_own : Deed → Bool
is_own d = is_desk_call d.event

-- events as deeds under one stamp
abbrev pub under : Stamp → List Event → List Deed
under stamp es = map (λ e. record { stamp = stamp; event = e }) es

-- By these events the hub became another, and those of a desk among them, in order, are the life of a state: its turns led it from
-- one place to another.
pub record IsLife {H T : Type 0} (becomes : H → List Event → H → Type 0) (stamp : Stamp) (a : H) (p : Place T) (b : H) (q : Place T) : Type 0 where
  pub events : List Event
  pub became : becomes a events b
  pub turns : List Turn
  pub lives : Lives p turns q
  pub own : deeds turns ≡ filter is_own (under stamp events)

-- a step of the line ended in this error
pub record IsOfLine {H : Type 0} (becomes : H → List Event → H → Type 0) {T : Type 0} (r : Result T Error) : Type 0 where
  pub error : Error
  pub says : r ≡ Err error
  pub before : LineView H
  pub after : LineView H
  pub steps : LineSteps becomes before after (Err error)

-- The state lived up to its last poll, and this is its own answer there, or memory lacked, or the line ended in this error.
pub record EndsLife {H T : Type 0} (becomes : H → List Event → H → Type 0) (stamp : Stamp) (s : Stand H T) (r : Result T Error) : Type 0 where
  pub hub : H
  pub place : Place T
  pub life : IsLife becomes stamp s.line.hub s.place hub place
  pub answer : ((place.dialogue ≡ Answer r) ⊎ (r ≡ Err OutOfMemory)) ⊎ IsOfLine becomes r
