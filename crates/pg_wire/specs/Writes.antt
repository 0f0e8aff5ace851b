-- What a writer of frames does to its buffer.
use Rattle.std.specs.Prelude.{◌≡◌, ℕ, Bool, ◌||◌, List, ◌++◌, flat_map, Option, Some, None, Result, Ok, Err}
use Rattle.pg_spec.specs.Bytes.{text0}
use Rattle.pg_spec.specs.Faults as spec
use Rattle.pg_spec.specs.Frames.{has_zero}
use Rattle.pg_types.specs.declared.faults.FrameFault.{FrameFault}
use Rattle.pg_wire.specs.Faults.{frame_fault}

-- the refusal is the frame's own, or want of memory
abbrev pub IsRefusal : Result (List ℕ) spec.FrameFault → Option spec.FrameFault → Type 0
IsRefusal frame None = Unit {0}
IsRefusal frame (Some fault) = frame ≡ Err fault

-- the frame is appended and nothing else; after a refusal the buffer is as before
abbrev pub Writes : Result (List ℕ) spec.FrameFault → List ℕ → List ℕ → Result (Unit {0}) FrameFault → Type 0
Writes frame old new (Ok x) = (bytes : List ℕ) × (frame ≡ Ok bytes) × (new ≡ old ++ bytes)
Writes frame old new (Err fault) = IsRefusal frame (frame_fault fault) × (new ≡ old)

-- a name and a value, each with its zero byte
abbrev pub pair_bytes : List ℕ × List ℕ → List ℕ
pair_bytes pair = text0 pair.0 ++ text0 pair.1

-- the pairs, one behind another
abbrev pub pairs_bytes : List (List ℕ × List ℕ) → List ℕ
pairs_bytes pairs = flat_map pair_bytes pairs

-- a zero byte stands in the name or in the value
abbrev pub pair_has_zero : List ℕ × List ℕ → Bool
pair_has_zero pair = has_zero pair.0 || has_zero pair.1
