-- A machine, fed with the bytes of frames.
use Rattle.std.specs.Prelude.{◌≡◌, ℕ, List, Result, Ok, Err, Option, Some, None}
use Rattle.pg_types.specs.declared.memory.OutOfMemory.{OutOfMemory}
use Rattle.pg_spec.specs.Sent.{after_startup_frame}
use Rattle.pg_machine.specs.Sessions.{gives}
use Rattle.pg_machine.specs.ServingFeeding.{IsLonger}
use Rattle.pg_machine.specs.ServingFeeding as serving
use Rattle.pg_machine.specs.declared.machine.At.{At}
use Rattle.pg_machine.specs.declared.feeding.Fed.{Fed}
use Rattle.pg_machine.specs.Machines.{Table, service_of}
use Rattle.pg_machine.specs.Steps.{serving_of}

-- all whole frames were cut off and answered
abbrev pub IsFed : Table → At → (frames old new : List ℕ) → Fed → Type 0
IsFed table at frames old new done = serving.IsFed (service_of table) (serving_of at) frames old new done.cut (serving_of done.at)

-- the same; where memory lacks the replies to some frames may stand behind what was said
abbrev pub FeedsAll : Table → At → (frames old new : List ℕ) → Result Fed OutOfMemory → Type 0
FeedsAll table at frames old new (Ok done) = IsFed table at frames old new done
FeedsAll table at frames old new (Err e) = IsLonger old new

-- these bytes were taken, and all whole frames among them answered
abbrev pub HasFed : Table → List ℕ → Fed → Type 0
HasFed table taken done = serving.HasFed (service_of table) 0 taken done.cut (serving_of done.at)

-- the same, or the startup frame hasn't come whole
abbrev pub Feeds : Table → List ℕ → Option Fed → Type 0
Feeds table taken None = after_startup_frame taken ≡ None
Feeds table taken (Some done) = HasFed table taken done

-- more was taken behind the startup frame, and what is given in all by it was said
abbrev pub GoesFurther : Table → (startup taken before old new : List ℕ) → Result Fed OutOfMemory → Type 0
GoesFurther table startup taken before old new (Ok done) =
    HasFed table taken done × (old ≡ gives (service_of table) 0 startup before → new ≡ gives (service_of table) 0 startup taken) × IsLonger old new
GoesFurther table startup taken before old new (Err e) = IsLonger old new

-- more was taken, and what is given in all by it was said
abbrev pub GoesOn : Table → (startup taken before old new : List ℕ) → Result (Option Fed) OutOfMemory → Type 0
GoesOn table startup taken before old new (Ok done) =
    Feeds table taken done × (old ≡ gives (service_of table) 0 startup before → new ≡ gives (service_of table) 0 startup taken) × IsLonger old new
GoesOn table startup taken before old new (Err e) = IsLonger old new
