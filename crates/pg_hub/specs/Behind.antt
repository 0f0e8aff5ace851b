-- The parts that wait, as the hub keeps them.
use Rattle.std.specs.Prelude.{ℕ, List, [], ◌∷◌, ◌++◌, Bool, true, false}
use Rattle.pg_hub.specs.declared.outgoing.Waiting.{Waiting}
use Rattle.pg_hub.specs.declared.outgoing.Waiting.TheVariants.{Empty, One, Two}
use Rattle.pg_hub.specs.declared.outgoing.Tail.{Tail}
use Rattle.pg_hub.specs.declared.outgoing.Tail.TheVariants.{Copying, Closing, End}
use Rattle.pg_hub.specs.declared.outgoing.Outgoing.TheInside.{Inside}
use Rattle.pg_hub.specs.Rests.{Rest}

-- those in front
abbrev pub parts_of : Waiting → List (List ℕ)
parts_of Empty = []
parts_of (One a) = a ∷ []
parts_of (Two a b) = a ∷ b ∷ []

-- the closing one
abbrev pub closing_of : Tail → List (List ℕ)
closing_of Copying = []
closing_of (Closing a) = a ∷ []
closing_of End = []

-- it is a copy that isn't ended
abbrev pub goes_on : Tail → Bool
goes_on Copying = true
goes_on _ = false

-- as contracts see it
abbrev pub seen : Inside → Rest
seen o = record { parts = parts_of o.waiting ++ closing_of o.tail; copying = goes_on o.tail }
