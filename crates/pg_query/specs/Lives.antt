-- The life of a command: what it did at its desk in all of its polls.
use Rattle.std.specs.Prelude.{◌≡◌, ℕ, List, [], ◌∷◌, ◌++◌, map, Ok}
use Rattle.pg_spec.specs.RawMessages.{RawMessage}
use Rattle.pg_spec.specs.declared.stamps.Stamp.{Stamp}
use Rattle.pg_desk.specs.declared.event.Event.{Event}
use Rattle.pg_desk.specs.declared.event.Event.TheVariants as call
use Rattle.pg_desk.specs.declared.event.Take.TheVariants as taking
use Rattle.pg_query.specs.Dialogue.{Dialogue, Steps, Walks}
use Rattle.pg_query.specs.Meaning.{Place}

-- the events of one poll, and its stamp
pub record Turn : Type 0 where
  pub stamp : Stamp
  pub events : List Event

-- polls lead a place to another, each along the dialogue
abbrev pub Lives : {T : Type 0} → Place T → List Turn → Place T → Type 0
Lives p [] q = q ≡ p
Lives {T} p (t ∷ ts) q = (mid : Place T) × Walks t.stamp p.dialogue p.reads t.events mid.dialogue mid.reads × Lives mid ts q

-- an event under the stamp of its poll
pub record Deed : Type 0 where
  pub stamp : Stamp
  pub event : Event

-- all that was done, in order
abbrev pub deeds : List Turn → List Deed
deeds [] = []
deeds (t ∷ ts) = map (λ e. record { stamp = t.stamp; event = e }) t.events ++ deeds ts

-- a walk whose events have their own stamps
abbrev pub Leads : {T : Type 0} → Dialogue T → ℕ → List Deed → Dialogue T → ℕ → Type 0
Leads d id [] q end = (q ≡ d) × (end ≡ id)
Leads {T} d id (a ∷ ds) q end = (mid : Dialogue T) × (n : ℕ) × Steps a.stamp d id a.event mid n × Leads mid n ds q end

-- the messages that an event took
abbrev pub taken_by : Event → List RawMessage
taken_by (call.Take id (Ok (taking.Batch ms))) = ms
taken_by other = []

-- the messages that were taken, in order
abbrev pub messages_taken : List Deed → List RawMessage
messages_taken [] = []
messages_taken (d ∷ ds) = taken_by d.event ++ messages_taken ds

-- an event that takes from this request or hangs it up
abbrev pub IsOf : ℕ → Event → Type 0
IsOf id (call.Take which answer) = which ≡ id
IsOf id (call.HangUp which answer) = which ≡ id
IsOf id _ = ⊥

-- all of them are of this request, and none books another
abbrev pub AllOf : ℕ → List Deed → Type 0
AllOf id [] = Unit {0}
AllOf id (d ∷ ds) = IsOf id d.event × AllOf id ds
