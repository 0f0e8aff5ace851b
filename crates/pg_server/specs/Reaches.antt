-- How far a write to a server goes.
use Rattle.std.specs.Prelude.{◌≡◌, ℕ, ◌-◌, ◌≤◌, List, ◌++◌, length, Option, Some, None}
use Rattle.pg_spec.specs.RawMessages.{message_at}
use Rattle.pg_wire.specs.Fronts.{IsWhole}
use Rattle.pg_server.specs.declared.session.Stage.{Stage}
use Rattle.pg_server.specs.declared.session.Stage.TheVariants.{Serves}

-- How many of these bytes, behind those that are left, stand up to the end of the frame in front; all where none is whole by them.
abbrev pub frame_reach : (left bytes : List ℕ) → ℕ
frame_reach left bytes = elim (message_at (left ++ bytes)) [ None ↦ length bytes | Some m ↦ length bytes - length m.1 ]

-- by where the server stands: only behind the startup frame it looks for a frame's end
abbrev pub reach_of : Stage → (left bytes : List ℕ) → ℕ
reach_of Serves left bytes = frame_reach left bytes
reach_of other left bytes = length bytes

-- Once so many bytes are there, whatever follows these, they are a whole frame; none where there is none yet, or never.
abbrev pub IsFrontLen : List ℕ → Option ℕ → Type 0
IsFrontLen bytes None = message_at bytes ≡ None
IsFrontLen bytes (Some n) = (more : List ℕ) → n ≤ length (bytes ++ more) → IsWhole (bytes ++ more) n
