-- What is written for a message of the client.
use Rattle.std.specs.Prelude.{ℕ, List, Result, Ok}
use Rattle.pg_spec.specs.Faults as spec
use Rattle.pg_spec.specs.Frames.{copy_data_frame}
use Rattle.pg_wire.specs.declared.codec.FrontendMessage.{FrontendMessage}
use Rattle.pg_wire.specs.declared.codec.FrontendMessage.TheVariants.{Raw, CopyData}

-- frames as they are, or a frame around a piece of a copy
abbrev pub frame_of : FrontendMessage → Result (List ℕ) spec.FrameFault
frame_of (Raw bytes) = Ok bytes
frame_of (CopyData bytes) = copy_data_frame bytes
