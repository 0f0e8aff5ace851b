-- What a message makes of a startup, in the words of its definition.
use Rattle.std.specs.Prelude.{◌≡◌, ℕ, ◌||◌, Bool, List, [], ◌∷◌, Result, Ok, Err, codes}
use Rattle.pg_spec.specs.Faults as spec
use Rattle.pg_spec.specs.Frames.{startup_frame}
use Rattle.pg_spec.specs.Settings.{Settings, startup_parameters}
use Rattle.pg_spec.specs.Startup as startups
use Rattle.pg_types.specs.declared.faults.FrameFault.{FrameFault}
use Rattle.pg_types.specs.declared.faults.FrameFault.TheVariants as frame_faults
use Rattle.pg_wire.specs.Steps.{Refuses}
use Rattle.pg_types.specs.declared.faults.WireFault.{WireFault}
use Rattle.pg_types.specs.declared.faults.WireFault.TheVariants as wire
use Rattle.pg_types.specs.declared.cause.Cause.TheVariants as cause
use Rattle.pg_types.specs.declared.error.Error.{Error}
use Rattle.pg_types.specs.declared.error.Error.TheVariants as error
use Rattle.pg_startup.specs.Stages.{Stage, Holds, phase_of}
use Rattle.pg_startup.specs.declared.phase.Step.{Step}
use Rattle.pg_startup.specs.declared.phase.Step.TheVariants as step
use Rattle.pg_startup.specs.declared.talk.Told.{Told}
use Rattle.pg_startup.specs.declared.talk.Told.TheVariants as told
use Rattle.pg_spec.specs.Messages as said

-- The answer is the move of the definition: it goes on, sends a frame, is done or refuses. Want of memory may
-- stand in its place.
abbrev pub IsMove : startups.Login → startups.Move → Result Step Error → Type 0
IsMove l move (Ok (step.Goes next)) = (move ≡ startups.Writes [] (phase_of next)) × Holds l next
IsMove l move (Ok (step.Sends frame next)) = (move ≡ startups.Writes (frame.items ∷ []) (phase_of next)) × Holds l next
IsMove l move (Ok step.Done) = move ≡ startups.Ends
IsMove l move (Err error.OutOfMemory) = Unit {0}
IsMove l move (Err e) = move ≡ startups.Refuses e

-- the error of a frame that its writer refuses
abbrev pub frame_error : FrameFault → Error
frame_error frame_faults.OutOfMemory = error.OutOfMemory
frame_error fault = error.Encode (cause.Frame fault)

-- The frame, or why its writer refuses it. Want of memory may stand in its place.
abbrev pub Made : Result (List ℕ) FrameFault → Result (List ℕ) Error → Type 0
Made written (Ok bytes) = written ≡ Ok bytes
Made written (Err (error.Encode (cause.Frame frame_faults.OutOfMemory))) = ⊥
Made written (Err (error.Encode (cause.Frame fault))) = written ≡ Err fault
Made written (Err error.OutOfMemory) = Unit {0}
Made written (Err _) = ⊥

-- the startup frame of the settings
abbrev pub frame_of : Settings → Result (List ℕ) spec.FrameFault
frame_of s = startup_frame (startup_parameters s)

-- whether the two mechanisms of SCRAM were offered, behind others among which they were or weren't
abbrev pub offered_behind : (plus plain : Bool) → Result (List (List ℕ)) spec.WireFault → Result (Bool × Bool) spec.WireFault
offered_behind plus plain (Ok names) =
    Ok (plus || startups.offers (codes "SCRAM-SHA-256-PLUS") names, plain || startups.offers (codes "SCRAM-SHA-256") names)
offered_behind plus plain (Err fault) = Err fault

-- they were read as the definition has them
abbrev pub ReadsOffer : Result (Bool × Bool) spec.WireFault → Result (Bool × Bool) WireFault → Type 0
ReadsOffer said (Ok offer) = said ≡ Ok offer
ReadsOffer said (Err fault) = Refuses said fault

-- the error of a list of mechanisms that can't be read
abbrev pub unreadable_error : WireFault → Error
unreadable_error wire.OutOfMemory = error.OutOfMemory
unreadable_error wire.NotUtf8 = error.Parse cause.NotUtf8
unreadable_error fault = error.Parse (cause.Wire fault)

-- The answer is what the message does in this stage. Want of memory may stand in its place. A dialogue that is done, or
-- was refused, is no more.
abbrev pub Tells : Stage → said.Message → Result Told Error → Type 0
Tells old message (Ok (told.More new)) =
    (startups.startup_message old.login old.phase message ≡ startups.Writes [] new.phase) × (new.login ≡ old.login)
Tells old message (Ok (told.Sends frame new)) =
    (startups.startup_message old.login old.phase message ≡ startups.Writes (frame.items ∷ []) new.phase) × (new.login ≡ old.login)
Tells old message (Ok told.Done) = startups.startup_message old.login old.phase message ≡ startups.Ends
Tells old message (Err error.OutOfMemory) = Unit {0}
Tells old message (Err e) = startups.startup_message old.login old.phase message ≡ startups.Refuses e
