-- What a fault says of the answer that a definition gives.
use Rattle.std.specs.Prelude.{◌≡◌, ⊤, Option, Some, Result, Err}
use Rattle.pg_types.specs.declared.cause.ScramFault.{ScramFault}
use Rattle.pg_types.specs.declared.cause.ScramFault.TheVariants.{OutOfMemory}

-- it is the fault that the definition names; want of memory may stand in its place
abbrev pub Refuses : {A : Type 0} → ScramFault → Result A ScramFault → Type 0
Refuses OutOfMemory answer = ⊤
Refuses fault answer = answer ≡ Err fault

-- the same of a check that only has faults
abbrev pub Rejects : ScramFault → Option ScramFault → Type 0
Rejects OutOfMemory answer = ⊤
Rejects fault answer = answer ≡ Some fault
