-- What comes of a take from the request that is read, and of hanging it up.
use Rattle.std.specs.Prelude.{ℕ, List, [], ◌∷◌, Bool, Ok, Err}
use Rattle.pg_spec.specs.RawMessages.{RawMessage}
use Rattle.pg_spec.specs.declared.stamps.Stamp.{Stamp}
use Rattle.pg_desk.specs.declared.event.Event.{Event}
use Rattle.pg_desk.specs.declared.event.Event.TheVariants as call
use Rattle.pg_desk.specs.declared.event.Take.TheVariants as taking
use Rattle.pg_types.specs.declared.error.Error.{Error}
use Rattle.pg_query.specs.declared.desk_call.Cleanup.{Cleanup}
use Rattle.pg_query.specs.Dialogue.{Dialogue, Answer, Read, Walks}
use Rattle.pg_streams.specs.TypedRaw.{Asked}
use Rattle.pg_streams.specs.declared.taking.Came.{Came}
use Rattle.pg_streams.specs.declared.taking.Came.TheVariants.{Batch, Fails, Nothing}

-- whoever reads the request is answered this error by these events
abbrev pub IsAnswered : (T : Type 0) → (id : ℕ) → List Event → Error → Type 0
IsAnswered T id events e = (stamp : Stamp) (cleanup : List Cleanup) (decides : List RawMessage → Bool) (next : List RawMessage → Dialogue T) → Walks stamp (Read cleanup decides next) id events (Answer (Err e)) id

-- No more comes: by these events whoever reads the request is answered this error.
pub record StopsReading {D : Type 0} (becomes : D → List Event → D → Type 0) (a : D) (id : ℕ) (b : D) (e : Error) : Type 0 where
  pub events : List Event
  pub became : becomes a events b
  pub walked : (rows : Bool) → IsAnswered (Asked rows) id events e

-- A batch came, or none is there, or no more comes.
abbrev pub Comes : {D : Type 0} → (D → List Event → D → Type 0) → D → ℕ → D → Came → Type 0
Comes becomes a id b (Batch ms) = becomes a (call.Take id (Ok (taking.Batch ms)) ∷ []) b
Comes becomes a id b Nothing = becomes a (call.Take id (Ok taking.Empty) ∷ []) b
Comes becomes a id b (Fails e) = StopsReading becomes a id b e

-- it is a batch
abbrev pub IsBatch : Came → Type 0
IsBatch (Batch ms) = Unit {0}
IsBatch other = ⊥
