-- What stands in front of some bytes (PostgreSQL documentation, "Message Formats").
use Rattle.std.specs.Prelude.{◌≡◌, true, false, List, ℕ, None}
use Rattle.pg_spec.specs.RawMessages.{message_at, has_bad_header}
use Rattle.pg_wire.specs.Fronts.{IsWhole}
use Rattle.pg_machine.specs.declared.front.Found.{Found}
use Rattle.pg_machine.specs.declared.front.Found.TheVariants.{Whole, Short, Bad}

-- a whole frame, or none and whether its header is one
abbrev pub FrontIs : List ℕ → Found → Type 0
FrontIs s (Whole n) = IsWhole s n
FrontIs s Short = (message_at s ≡ None) × (has_bad_header s ≡ false)
FrontIs s Bad = (message_at s ≡ None) × (has_bad_header s ≡ true)
