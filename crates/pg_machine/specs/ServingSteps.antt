-- What a frame does, part by part: what is said behind an answer, and the mode then.
use Rattle.std.specs.Prelude.{ℕ, Bool, true, false, List, length, if◌then◌else◌}
use Rattle.pg_spec.specs.RawMessages.{RawMessage, message_bytes}
use Rattle.pg_wire.specs.Fronts.{message_of_bytes}
use Rattle.pg_machine.specs.declared.serving.Mode.{Mode}
use Rattle.pg_machine.specs.declared.serving.Mode.TheVariants.{Normal, Skip, CopyIn}
use Rattle.pg_machine.specs.declared.serving.Turn.{Turn}
use Rattle.pg_machine.specs.declared.serving.Turn.TheVariants.{Ready, AnswersReady, Answers, TakesData, Refuses}
use Rattle.pg_machine.specs.Serving.{ready}

-- the bytes of ReadyForQuery, idle
abbrev pub ready_bytes : List ℕ
ready_bytes = message_bytes ready

-- ReadyForQuery is said in this turn
abbrev pub says_ready : Turn → Bool
says_ready Ready = true
says_ready AnswersReady = true
says_ready turn = false

-- the mode behind an answer, which has an error or not, and opens a copy or not
abbrev pub answered_mode : Turn → (error opens : Bool) → Mode
answered_mode AnswersReady error opens = Normal
answered_mode Refuses error opens = Skip
answered_mode TakesData error opens = if error then Skip else CopyIn
answered_mode Answers error opens = if error then Skip else (if opens then CopyIn else Normal)
answered_mode turn error opens = if error then Skip else Normal

-- a frame by its bytes
abbrev pub frame_of : List ℕ → RawMessage
frame_of bytes = message_of_bytes (length bytes) bytes
