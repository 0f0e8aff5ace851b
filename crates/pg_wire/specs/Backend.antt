-- Whole messages of one request, and what reading them one after another answers (PostgreSQL documentation,
-- "Message Flow").
use Rattle.std.specs.Prelude.{◌≡◌, ℕ, List, [], ◌∷◌, Option, Some, None, Result, Ok, Err}
use Rattle.pg_spec.specs.Faults as spec
use Rattle.pg_spec.specs.Batches.{IsBatch}
use Rattle.pg_spec.specs.RawMessages.{RawMessage, messages, bytes_left}
use Rattle.pg_spec.specs.Messages.{message_of}
use Rattle.pg_types.specs.declared.faults.WireFault.{WireFault}
use Rattle.pg_wire.specs.declared.message.Message.{Message}
use Rattle.pg_wire.specs.Messages.{message_view}
use Rattle.pg_wire.specs.Faults.{wire_fault}

-- The bytes are whole messages, and these are a batch.
pub record HoldsBatch (bytes : List ℕ) : Type 0 where
  pub whole : bytes_left bytes ≡ []
  pub batch : IsBatch (messages bytes)

-- the first message was taken off, and is this one
pub record TakesFirst (old new : List RawMessage) (message : Message) : Type 0 where
  pub raw : RawMessage
  pub front : old ≡ raw ∷ new
  pub means : message_of raw ≡ Ok (message_view message)

-- the first message is refused, and stays
pub record RefusesFirst (old new : List RawMessage) (fault : spec.WireFault) : Type 0 where
  pub raw : RawMessage
  pub rest : List RawMessage
  pub front : old ≡ raw ∷ rest
  pub means : message_of raw ≡ Err fault
  pub same : new ≡ old

-- a refusal by its fault; want of memory changes nothing
abbrev pub RefusedBy : List RawMessage → List RawMessage → Option spec.WireFault → Type 0
RefusedBy old new None = new ≡ old
RefusedBy old new (Some fault) = RefusesFirst old new fault

-- what `next` answers
abbrev pub Nexts : List RawMessage → List RawMessage → Result (Option Message) WireFault → Type 0
Nexts old new (Ok None) = (old ≡ []) × (new ≡ [])
Nexts old new (Ok (Some message)) = TakesFirst old new message
Nexts old new (Err fault) = RefusedBy old new (wire_fault fault)
