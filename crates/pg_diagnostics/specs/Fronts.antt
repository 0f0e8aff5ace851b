-- The first bytes that a sink took.
use Rattle.std.specs.Prelude.{◌≡◌, ℕ, List, ◌++◌, take}
use Rattle.pg_wire.specs.declared.stream.SinkWrite.{SinkWrite}
use Rattle.pg_wire.specs.declared.stream.SinkWrite.TheVariants as writes

-- what a write adds to them: what was taken, up to 32 bytes in all
abbrev pub Keeps : (old new bytes : List ℕ) → SinkWrite → Type 0
Keeps old new bytes (writes.Took n) = new ≡ take 32 (old ++ take n bytes)
Keeps old new bytes _ = new ≡ old
