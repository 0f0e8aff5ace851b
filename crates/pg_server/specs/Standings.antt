-- Where a server stands, and what the bytes in front of it do.
use Rattle.std.specs.Prelude.{◌≡◌, ℕ, ◌-◌, ◌≤◌, Bool, true, false, not, ◌&&◌, List, [], ◌∷◌, ◌++◌, length, drop, Option, Some, None, Result, Ok, Err, if◌then◌else◌}
use Rattle.std.specs.Borrow.{Bor}
use Rattle.std.specs.Str.{byte}
use Rattle.pg_types.specs.declared.faults.WireFault.{WireFault}
use Rattle.pg_types.specs.declared.faults.WireFault.TheVariants.{BadLength}
use Rattle.pg_spec.specs.Batches.{is_nothing}
use Rattle.pg_spec.specs.ClientFrames.{ClientFrame}
use Rattle.pg_spec.specs.Links.{next_count}
use Rattle.pg_spec.specs.RawMessages.{RawMessage, message_at, has_bad_header}
use Rattle.pg_spec.specs.Sent.{is_terminate}
use Rattle.pg_machine.specs.declared.serving.Mode.{Mode}
use Rattle.pg_machine.specs.declared.serving.Mode.TheVariants.{Normal}
use Rattle.pg_machine.specs.Serving.{Serving, Replied, turn, kind_of, serve}
use Rattle.pg_machine.specs.Sessions.{spoken}
use Rattle.pg_server.specs.Answers.{asks, answer_bytes}
use Rattle.pg_server.specs.Frames.{frame_or_fault}
use Rattle.pg_server.specs.Handlers.{Step, service_of, may_give}
use Rattle.pg_server.specs.Openings as opening
use Rattle.pg_server.specs.declared.answer.Answer.{Answer}
use Rattle.pg_server.specs.declared.fault.ServerFault.{ServerFault}
use Rattle.pg_server.specs.declared.fault.ServerFault.TheVariants as faults
use Rattle.pg_server.specs.declared.session.Stage.{Stage}
use Rattle.pg_server.specs.declared.session.Stage.TheVariants as stages
use Rattle.pg_server.specs.declared.session.Session.{Session}

-- where a server stands; `S` are its handler's states
pub record Standing (S : Type 0) : Type 0 where
  pub state : S
  -- before the startup frame, behind it, or behind Terminate or a fault
  pub stage : Stage
  pub mode : Mode
  -- how many frames behind the startup frame it answered
  pub answered : ℕ
  -- what it says to the startup frame
  pub startup : List ℕ

-- a server that hasn't been fed
abbrev pub unfed : {S : Type 0} → S → (startup : List ℕ) → Standing S
unfed state startup = record { state = state; stage = stages.Opening; mode = Normal; answered = 0; startup = startup }

-- as the rules of a server have it
abbrev pub serving_of : {S : Type 0} → Standing S → Serving S
serving_of at = record { state = at.state; mode = at.mode }

-- what the bytes in front do
pub data Front (S : Type 0) : Type 0 where
  -- they are too few
  Waits : Front S
  -- this is said to them, the server stands there then, and these bytes are behind them
  Says : (said : List ℕ) (next : Standing S) (rest : List ℕ) → Front S
  -- they are refused
  Stops : (fault : ServerFault) → Front S

-- the handler is asked for this frame, and its effect may not be given
abbrev pub is_broken : {S : Type 0} → Step S → Standing S → RawMessage → ClientFrame → Bool
is_broken step at raw frame = asks (turn at.mode (kind_of raw)) && not (may_give raw (step at.state frame).0)

-- what the rules of a server say to the frame
abbrev pub replied : {S : Type 0} → Step S → Standing S → RawMessage → Replied S
replied step at raw = serve (service_of step) (serving_of at) raw

-- where it stands behind a frame; Terminate is the last one
abbrev pub behind_frame : {S : Type 0} → Standing S → RawMessage → Serving S → Standing S
behind_frame at raw next = record at {
  state = next.state;
  stage = if is_terminate raw then stages.Over else stages.Serves;
  mode = next.mode;
  answered = next_count at.answered;
}

-- a frame that was read is answered, unless its effect may not be given
abbrev pub answering : {S : Type 0} → Step S → Standing S → RawMessage → ClientFrame → List ℕ → Front S
answering step at raw frame rest =
    if is_broken step at raw frame then Stops (faults.BadEffect at.answered)
    else Says (spoken (replied step at raw).reply) (behind_frame at raw (replied step at raw).next) rest

-- a whole frame behind the startup frame
abbrev pub reading : {S : Type 0} → Step S → Standing S → RawMessage → List ℕ → Result ClientFrame WireFault → Front S
reading step at raw rest (Ok frame) = answering step at raw frame rest
reading step at raw rest (Err fault) = Stops (faults.BadFrame fault)

-- the frame in front, or none, and whether the header there is bad
abbrev pub serving : {S : Type 0} → Step S → Standing S → Option (RawMessage × List ℕ) → (bad : Bool) → Front S
serving step at None true = Stops (faults.BadFrame BadLength)
serving step at None false = Waits
serving step at (Some m) bad = reading step at m.0 m.1 (frame_or_fault m.0)

-- before the startup frame: an SSLRequest is refused by `N`, and the startup frame is answered
abbrev pub opened : {S : Type 0} → Standing S → opening.InFront → Front S
opened at opening.Short = Waits
opened at (opening.Ssl rest) = Says (byte "N" ∷ []) at rest
opened at (opening.Starts rest) = Says at.startup (record at { stage = stages.Serves }) rest
opened at (opening.Breaks fault) = Stops fault

-- by where the server stands; behind Terminate nothing may come
abbrev pub at_stage : {S : Type 0} → Step S → Standing S → List ℕ → Stage → Front S
at_stage step at bytes stages.Opening = opened at (opening.opening_in_front bytes)
at_stage step at bytes stages.Serves = serving step at (message_at bytes) (has_bad_header bytes)
at_stage step at bytes stages.Over = if is_nothing bytes then Waits else Stops faults.Ended

-- what the bytes in front do
abbrev pub front : {S : Type 0} → Step S → Standing S → List ℕ → Front S
front step at bytes = at_stage step at bytes at.stage

-- ---- what the code does

-- where it stands, as its handler's states are told
abbrev pub standing_of : {H S : Type 0} → (H → S) → Session H → Standing S
standing_of state session = record {
  state = state session.handler;
  stage = session.stage;
  mode = session.mode;
  answered = session.answered;
  startup = session.startup;
}

-- The frame was answered, or its effect may not be given, and the server is over. Where memory lacks it is as before.
abbrev pub Answers : {S : Type 0} → Step S → (old new : Standing S) → RawMessage → ClientFrame → Result Answer ServerFault → Type 0
Answers step old new raw frame (Ok answer) =
    (is_broken step old raw frame ≡ false) × (answer_bytes answer ≡ spoken (replied step old raw).reply)
    × (new ≡ record old { state = (replied step old raw).next.state; mode = (replied step old raw).next.mode })
Answers step old new raw frame (Err faults.OutOfMemory) = new ≡ old
Answers step old new raw frame (Err (faults.BadEffect n)) = (n ≡ old.answered) × (is_broken step old raw frame ≡ true) × (new.stage ≡ stages.Over)
Answers step old new raw frame (Err fault) = ⊥

-- A whole frame was read and has this answer, or one of the two can't be had.
abbrev pub Asks : {S : Type 0} → Step S → (old new : Standing S) → RawMessage → Result Answer ServerFault → Type 0
Asks step old new raw (Ok answer) = (frame : ClientFrame) × (frame_or_fault raw ≡ Ok frame) × Answers step old new raw frame (Ok answer)
Asks step old new raw (Err faults.OutOfMemory) = new ≡ old
Asks step old new raw (Err (faults.BadFrame fault)) = (frame_or_fault raw ≡ Err fault) × (new ≡ old)
Asks step old new raw (Err (faults.BadEffect n)) = (frame : ClientFrame) × (frame_or_fault raw ≡ Ok frame) × Answers step old new raw frame (Err (faults.BadEffect n))
Asks step old new raw (Err fault) = ⊥

-- What stands in front was answered, and so many bytes are behind it. After a fault the server is as before; but it is over where
-- an effect may not be given.
abbrev pub Steps : {S : Type 0} → Front S → (old new : Standing S) → (bytes : List ℕ) → Result (Option (Answer × ℕ)) ServerFault → Type 0
Steps found old new bytes (Ok None) = (found ≡ Waits) × (new ≡ old)
Steps found old new bytes (Ok (Some said)) = (said.1 ≤ length bytes) × (found ≡ Says (answer_bytes said.0) new (drop (length bytes - said.1) bytes))
Steps found old new bytes (Err faults.OutOfMemory) = new ≡ old
Steps found old new bytes (Err (faults.BadEffect n)) = (found ≡ Stops (faults.BadEffect n)) × (new.stage ≡ stages.Over)
Steps found old new bytes (Err fault) = (found ≡ Stops fault) × (new ≡ old)

-- What stands in front was done: `out` got what is said. After a fault it is as before.
abbrev pub Does : {S : Type 0} → Front S → (old new : Standing S) → (out later : List ℕ) → Result (Option (Bor (List ℕ))) ServerFault → Type 0
Does found old new out later (Ok None) = (found ≡ Waits) × (new ≡ old) × (later ≡ out)
Does found old new out later (Ok (Some rest)) = (said : List ℕ) × (found ≡ Says said new rest.now) × (later ≡ out ++ said)
Does found old new out later (Err faults.OutOfMemory) = later ≡ out
Does found old new out later (Err fault) = (found ≡ Stops fault) × (later ≡ out)
