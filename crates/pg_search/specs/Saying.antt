-- What a message of a query's reply says, as it was read, and what it does to a reading.
use Rattle.std.specs.Prelude.{◌≡◌, Option, Some, None, Result, Ok, Err}
use Rattle.pg_spec.specs.Readings.{Next, GoesOn, Answers}
use Rattle.pg_types.specs.declared.faults.WireFault.{WireFault}
use Rattle.pg_wire.specs.declared.message.Message.{Message}
use Rattle.pg_core.specs.QueryReplies as spec
use Rattle.pg_search.specs.declared.said.Said.{Said}
use Rattle.pg_search.specs.declared.said.Said.TheVariants as read

-- what it says
abbrev pub said_view : Said → spec.Said
said_view read.Bound = spec.Bound
said_view (read.Row cells) = spec.Row cells
said_view (read.Complete n) = spec.Complete n
said_view read.Empty = spec.Empty
said_view read.Suspended = spec.Suspended
said_view read.Ready = spec.Ready
said_view (read.Fails e) = spec.Fails e

-- a malformed message says that the reply fails
abbrev pub FailsAtFault : Result Message WireFault → Said → Type 0
FailsAtFault (Ok message) said = Unit {0}
FailsAtFault (Err fault) (read.Fails e) = Unit {0}
FailsAtFault (Err fault) said = ⊥

-- a message does what was told of it, and leads to this state
abbrev pub Does : {S A : Type 0} → Next S A → Option A → S → Type 0
Does next (Some answer) new = next ≡ Answers answer
Does next None new = next ≡ GoesOn new
