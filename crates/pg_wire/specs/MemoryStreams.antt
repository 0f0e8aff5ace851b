-- A source and a sink in memory: what each call does.
use Rattle.std.specs.Prelude.{◌≡◌, ℕ, ◌<◌, List, [], ◌++◌, length, take, drop, min, Some}
use Rattle.pg_wire.specs.Streams.{SourceView, SinkView}
use Rattle.pg_wire.specs.declared.stream.SourceRead.{SourceRead}
use Rattle.pg_wire.specs.declared.stream.SourceRead.TheVariants as reads
use Rattle.pg_wire.specs.declared.stream.SinkWrite.{SinkWrite}
use Rattle.pg_wire.specs.declared.stream.SinkWrite.TheVariants as writes
use Rattle.pg_wire.specs.declared.stream.SinkFlush.{SinkFlush}
use Rattle.pg_wire.specs.declared.stream.SinkFlush.TheVariants as flushes

-- a source that tells what is left, and never fails
abbrev pub source_of : List ℕ → SourceView
source_of left = record { left = Some left; faults = 0 }

-- a sink that tells what was written, and never fails
abbrev pub sink_of : List ℕ → SinkView
sink_of written = record { written = Some written; faults = 0 }

-- what `read` answers and does: it gives as much as fits of what is left
abbrev pub ReadsLeft : List ℕ → List ℕ → List ℕ → SourceRead → Type 0
ReadsLeft old new out (reads.Got n) = (0 < n) × (n ≡ min (length old) (length out)) × (take n out ≡ take n old) × (new ≡ drop n old)
ReadsLeft old new out reads.End = (old ≡ []) × (new ≡ [])
ReadsLeft old new out reads.Failed = ⊥

-- what `write` answers and does: it takes all
abbrev pub TakesAll : List ℕ → List ℕ → List ℕ → SinkWrite → Type 0
TakesAll old new bytes (writes.Took n) = (n ≡ length bytes) × (new ≡ old ++ bytes)
TakesAll old new bytes writes.OutOfMemory = new ≡ old
TakesAll old new bytes writes.Failed = ⊥

-- what `flush` answers: nothing is left to do
abbrev pub IsFlushed : List ℕ → List ℕ → SinkFlush → Type 0
IsFlushed old new flushes.Done = new ≡ old
IsFlushed old new flushes.Failed = ⊥
