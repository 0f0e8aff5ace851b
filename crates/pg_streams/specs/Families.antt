-- Where the same events lead from each place of a family to one of another. The plan is what a caller has done or will do that the events
-- don't depend on.
use Rattle.std.specs.Prelude.{◌≡◌, ◌⊎◌, List, [], Result, Err}
use Rattle.pg_spec.specs.RawMessages.{RawMessage}
use Rattle.pg_spec.specs.declared.stamps.Stamp.{Stamp}
use Rattle.pg_desk.specs.declared.event.Event.{Event}
use Rattle.pg_types.specs.declared.error.Error.{Error}
use Rattle.pg_types.specs.declared.error.Error.TheVariants.{OutOfMemory}
use Rattle.pg_query.specs.Dialogue.{Answer, Walks}
use Rattle.pg_query.specs.Meaning.{Place, WaitsAt}
use Rattle.pg_streams.specs.Hearing.{Brings, First}

-- Where one stands by each plan, and what is told first where more messages come.
pub record Family (P T G I : Type 0) : Type 0 where
  pub place : P → Place T
  pub first : List RawMessage → First G I

-- By some events the desk became another, and whatever the plan is, they lead from its place to the other. Messages are taken only where nothing
-- is told yet.
pub record GoesFor {D P T G I : Type 0} (becomes : D → List Event → D → Type 0) (stamp : Stamp) (a : D) (old : Family P T G I) (b : D) (new : Family P T G I) : Type 0 where
  pub events : List Event
  pub became : becomes a events b
  pub walked : (plan : P) → Walks stamp (old.place plan).dialogue (old.place plan).reads events (new.place plan).dialogue (new.place plan).reads
  pub brought : Brings old.first events new.first

-- The events led to this answer, and this is true of what is told first. Want of memory may be the answer at any place.
pub record AnswersFor {D P T G I : Type 0} (becomes : D → List Event → D → Type 0) (stamp : Stamp) (a : D) (old : Family P T G I) (b : D) (answer : P → Result T Error) (IsFirst : First G I → Type 0) : Type 0 where
  pub last : Family P T G I
  pub goes : GoesFor becomes stamp a old b last
  pub answers : (plan : P) → ((last.place plan).dialogue ≡ Answer (answer plan)) ⊎ (answer plan ≡ Err OutOfMemory)
  pub found : IsFirst (last.first []) ⊎ ((plan : P) → answer plan ≡ Err OutOfMemory)

-- The events led to places where one has to wait.
pub record PausesFor {D P T G I : Type 0} (becomes : D → List Event → D → Type 0) (stamp : Stamp) (a : D) (old : Family P T G I) (b : D) (new : Family P T G I) : Type 0 where
  pub goes : GoesFor becomes stamp a old b new
  pub waits : (plan : P) → WaitsAt (new.place plan) goes.events
