-- One legal list of deeds of all, and those of one among them.
use Rattle.std.specs.Prelude.{◌≡◌, ℕ, ◌==◌, List, [], ◌∷◌, ◌++◌, map, Bool, true, false, Ok}
use Rattle.pg_spec.specs.RawMessages.{RawMessage}
use Rattle.pg_desk.specs.History.{State, start, given, taken, joined, after_all, kept, IsLegal}
use Rattle.pg_desk.specs.declared.event.Put.TheVariants as putting
use Rattle.pg_desk.specs.declared.event.Take.TheVariants as taking
use Rattle.pg_desk.specs.declared.event.Event.{Event}
use Rattle.pg_desk.specs.declared.event.Event.TheVariants as call
use Rattle.pg_query.specs.Lives.{Deed}

-- the calls, without stamps
abbrev pub events_of : List Deed → List Event
events_of L = map (λ a. a.event) L

-- what came of the reply to each request
abbrev pub came_of : State → ℕ → List RawMessage
came_of s k = joined (given k s.deliveries)

-- what was taken of it
abbrev pub got_of : State → ℕ → List RawMessage
got_of s k = joined (taken k s.takes)

-- an own deed takes of requests that are its owner's, and books such
abbrev pub Owns : (mine : ℕ → Bool) → Event → Type 0
Owns mine (call.Take which (Ok (taking.Batch ms))) = mine which ≡ true
Owns mine (call.Book stamp part copying (Ok new)) = mine new ≡ true
Owns mine _ = Unit {0}

-- another's deed takes of none of them
abbrev pub Spares : (mine : ℕ → Bool) → Event → Type 0
Spares mine (call.Take which (Ok (taking.Batch ms))) = mine which ≡ false
Spares mine _ = Unit {0}

-- who takes of which requests
abbrev pub IsApart : (mine : ℕ → Bool) → (own : Deed → Bool) → List Deed → Type 0
IsApart mine own [] = Unit {0}
IsApart mine own (a ∷ L) = (own a ≡ true → Owns mine a.event) × (own a ≡ false → Spares mine a.event) × IsApart mine own L

-- where all deeds led: those that leave no event changed nothing
abbrev pub state_behind : State → List Deed → State
state_behind s L = after_all s (kept (events_of L))

-- the last of these deeds asked for more of a request, and there was none
pub record EndsEmpty (ds : List Deed) (id : ℕ) : Type 0 where
  pub before : List Event
  pub last : events_of ds ≡ before ++ call.Take id (Ok taking.Empty) ∷ []

-- there was no room for the last part that these deeds put
pub record EndsFull (ds : List Deed) (id : ℕ) : Type 0 where
  pub before : List Event
  pub part : List ℕ
  pub last : events_of ds ≡ before ++ call.Put id part (putting.Full part) ∷ []

-- A state that a legal list from the start led to.
pub record IsReached (s : State) : Type 0 where
  pub statements : ℕ
  pub portals : ℕ
  pub before : List Event
  pub legal : IsLegal (start statements portals) before
  pub is : s ≡ after_all (start statements portals) before

-- these deeds take nothing of a request
abbrev pub SparesAll : (request : ℕ) → List Deed → Type 0
SparesAll k [] = Unit {0}
SparesAll k (a ∷ L) = Spares (λ j. j == k) a.event × SparesAll k L
