-- A fault of a server, in numbers.
use Rattle.std.specs.Prelude.{ℕ, List, [], ◌∷◌, Option, Some, None}
use Rattle.pg_types.specs.declared.faults.WireFault.{WireFault}
use Rattle.pg_types.specs.declared.faults.WireFault.TheVariants as wire
use Rattle.pg_server.specs.declared.fault.ServerFault.{ServerFault}
use Rattle.pg_server.specs.declared.fault.ServerFault.TheVariants as faults

-- what is wrong with a frame
abbrev pub wire_number : WireFault → ℕ
wire_number wire.BadLength = 0
wire_number wire.UnknownTag = 1
wire_number wire.Layout = 2
wire_number wire.NotUtf8 = 3
wire_number wire.OutOfMemory = 4

-- which fault it is, and what it tells
abbrev pub numbers_of : ServerFault → List ℕ
numbers_of faults.BadStartup = 0 ∷ []
numbers_of (faults.Version version) = 1 ∷ version ∷ []
numbers_of faults.Cancel = 2 ∷ []
numbers_of (faults.BadFrame fault) = 3 ∷ wire_number fault ∷ []
numbers_of (faults.BadEffect n) = 4 ∷ n ∷ []
numbers_of faults.Ended = 5 ∷ []
numbers_of faults.OutOfMemory = 6 ∷ []

-- none, where there is no fault
abbrev pub fault_numbers : Option ServerFault → List ℕ
fault_numbers None = []
fault_numbers (Some fault) = numbers_of fault
