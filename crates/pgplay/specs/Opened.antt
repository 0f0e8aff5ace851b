-- A source or a sink that may not have been opened: it tells nothing, and each of its calls is a fault.
use Rattle.std.specs.Prelude.{None}
use Rattle.pg_wire.specs.Streams.{SinkView, SourceView}
use Rattle.pgplay.specs.declared.opened.Opened.{Opened}
use Rattle.pgplay.specs.declared.opened.Opened.TheVariants.{Open, Missing}

-- what a source has left, and how often it failed
abbrev pub source_of : {S : Type 0} → (S → SourceView) → Opened S → SourceView
source_of state (Open source) = state source
source_of state (Missing faults) = record { left = None; faults = faults }

-- what a sink was given, and how often it failed
abbrev pub sink_of : {S : Type 0} → (S → SinkView) → Opened S → SinkView
sink_of state (Open sink) = state sink
sink_of state (Missing faults) = record { written = None; faults = faults }
