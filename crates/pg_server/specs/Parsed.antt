-- A frame that is laid out in front of some bytes, and what reading it answers.
use Rattle.std.specs.Prelude.{◌≡◌, ℕ, Bool, true, false, List, Some, Ok}
use Rattle.pg_spec.specs.ClientFrames as spec
use Rattle.pg_spec.specs.RawMessages.{RawMessage, message_at}
use Rattle.pg_server.specs.Frames.{frame_or_fault}

-- an answer to a request for authentication
abbrev pub is_answer : spec.ClientFrame → Bool
is_answer (spec.Answer body) = true
is_answer other = false

-- the bytes begin with this frame, and reading it gives it
pub record IsReadAs (bytes rest : List ℕ) (frame : spec.ClientFrame) : Type 0 where
  pub raw : RawMessage
  pub front : message_at bytes ≡ Some (raw, rest)
  pub means : frame_or_fault raw ≡ Ok frame
