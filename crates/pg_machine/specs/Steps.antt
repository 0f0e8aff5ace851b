-- What a frame does to a machine.
use Rattle.std.specs.Prelude.{◌≡◌, ℕ, List, ◌++◌, Result, Ok, Err}
use Rattle.pg_types.specs.declared.memory.OutOfMemory.{OutOfMemory}
use Rattle.pg_machine.specs.Serving.{Serving, serve}
use Rattle.pg_machine.specs.Sessions.{spoken}
use Rattle.pg_machine.specs.ServingSteps.{frame_of}
use Rattle.pg_machine.specs.declared.machine.At.{At}
use Rattle.pg_machine.specs.Machines.{Table, service_of}

-- where a machine stands
abbrev pub serving_of : At → Serving ℕ
serving_of at = record { state = at.state; mode = at.mode }

-- the frame was answered behind these bytes; where memory lacks nothing was said
abbrev pub Serves : Table → At → List ℕ → List ℕ → List ℕ → Result At OutOfMemory → Type 0
Serves table at frame old new (Ok next) =
    (new ≡ old ++ spoken (serve (service_of table) (serving_of at) (frame_of frame)).reply)
    × (serving_of next ≡ (serve (service_of table) (serving_of at) (frame_of frame)).next)
Serves table at frame old new (Err e) = new ≡ old
