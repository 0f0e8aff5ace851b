-- What messages tell first, and how events bring more of them.
use Rattle.std.specs.Prelude.{◌≡◌, List, [], ◌∷◌, ◌++◌, Option, Some, None, Ok}
use Rattle.pg_spec.specs.RawMessages.{RawMessage}
use Rattle.pg_desk.specs.declared.event.Event.{Event}
use Rattle.pg_desk.specs.declared.event.Event.TheVariants as call
use Rattle.pg_desk.specs.declared.event.Take.TheVariants as taking
use Rattle.pg_streams.specs.declared.giving.Told.{Told}
use Rattle.pg_streams.specs.declared.giving.Told.TheVariants.{Item, Ends, Fails}

-- ---- messages

-- What a message tells, if anything, and how far the reply was read with it.
pub record Heard (G I : Type 0) : Type 0 where
  pub told : Option (Told I)
  pub giving : G

-- What messages tell first, how far the reply was read with that, and the messages that are left.
pub record First (G I : Type 0) : Type 0 where
  pub told : Option (Told I)
  pub giving : G
  pub left : List RawMessage

-- what is told first, and not how far the reply was read with it
abbrev pub told_only : {G I : Type 0} → First G I → First (Unit {0}) I
told_only first = record { told = first.told; giving = tt; left = first.left }

-- this isn't an item
abbrev pub IsNoItem : {I : Type 0} → Option (Told I) → Type 0
IsNoItem (Some (Item i)) = ⊥
IsNoItem told = Unit {0}

-- behind an item the others are left; the end and an error leave none
abbrev pub left_behind : {I : Type 0} → Told I → List RawMessage → List RawMessage
left_behind (Item i) ms = ms
left_behind Ends ms = []
left_behind (Fails e) ms = []

-- a message tells something, with which it was read so far, or else the later ones do
abbrev pub told_or : {G I : Type 0} → Option (Told I) → G → List RawMessage → (later : First G I) → First G I
told_or (Some told) g ms later = record { told = Some told; giving = g; left = left_behind told ms }
told_or None g ms later = later

-- what messages tell first, where the reply was read so far
abbrev pub first_told : {G I : Type 0} → (hears : G → RawMessage → Heard G I) → G → List RawMessage → First G I
first_told hears g [] = record { told = None; giving = g; left = [] }
first_told hears g (m ∷ ms) = told_or (hears g m).told (hears g m).giving ms (first_told hears (hears g m).giving ms)

-- ---- events

-- the messages that an event takes, where it is a take
abbrev pub taken : Event → Option (List RawMessage)
taken (call.Take id (Ok (taking.Batch ms))) = Some ms
taken (call.Take id answer) = Some []
taken event = None

-- a take is made only where nothing is told yet, and then its messages come first
abbrev pub Takes : {G I : Type 0} → Option (List RawMessage) → (first : List RawMessage → First G I) → ((List RawMessage → First G I) → Type 0) → Type 0
Takes (Some ms) first later = ((first []).told ≡ None) × later (λ more. first (ms ++ more))
Takes None first later = later first

-- What is told first, by the messages that come, is this behind the events.
abbrev pub Brings : {G I : Type 0} → (first : List RawMessage → First G I) → List Event → (last : List RawMessage → First G I) → Type 0
Brings first [] last = last ≡ first
Brings first (e ∷ es) last = Takes (taken e) first (λ later. Brings later es last)
