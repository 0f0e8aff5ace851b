-- How many frames a startup may still be asked for (PostgreSQL documentation, "Start-up"; "SASL Authentication").
use Rattle.std.specs.Prelude.{ℕ, Option, Some, None}
use Rattle.pg_spec.specs.Startup.{Phase, First, Continue}
use Rattle.pg_startup.specs.Stages.{Stage}

-- by what it waits for
abbrev pub frames_left : Phase → ℕ
frames_left First = 2
frames_left (Continue binding) = 1
frames_left other = 0

-- the same of a dialogue; one that is over asks for none
abbrev pub frames_of : Option Stage → ℕ
frames_of None = 0
frames_of (Some stage) = frames_left stage.phase
