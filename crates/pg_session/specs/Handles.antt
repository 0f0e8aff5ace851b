-- What stands of a handle between two turns, whatever its commands are.
use Rattle.std.specs.Prelude.{List, [], Option, None}
use Rattle.pg_query.specs.Meaning.{Place}

-- A handle: where the command that runs stands, the answers so far, and what its script keeps; while a command runs, what it kept before it.
pub record HandleState (T A E : Type 0) : Type 0 where
  pub running : Option (Place T)
  pub answers : List A
  pub own : E

-- a handle that has begun no command
abbrev pub idle_handle : {T A E : Type 0} → E → HandleState T A E
idle_handle begins = record { running = None; answers = []; own = begins }
