-- What a step of decoding takes off the front of the received bytes.
use Rattle.std.specs.Prelude.{◌≡◌, ℕ, ◌<◌, Bool, true, false, List, [], ◌∷◌, ◌++◌, length, Option, Some, None, Result, Ok, Err}
use Rattle.pg_spec.specs.Faults as spec
use Rattle.pg_spec.specs.Messages.{message_of}
use Rattle.pg_spec.specs.RawMessages.{RawMessage, messages, bytes_left, has_bad_header, is_aside}
use Rattle.pg_spec.specs.Batches.{is_batch, StopsAt}
use Rattle.pg_wire.specs.Messages.{message_view}
use Rattle.pg_wire.specs.declared.message.Message.{Message}
use Rattle.pg_wire.specs.declared.codec.BackendMessage.{BackendMessage}
use Rattle.pg_wire.specs.declared.codec.BackendMessage.TheVariants as cut
use Rattle.pg_types.specs.declared.faults.WireFault.{WireFault}
use Rattle.pg_types.specs.declared.faults.WireFault.TheVariants as fault

-- these messages came off the front, and the buffer is shorter
pub record CutsOff (old new : List ℕ) (front : List RawMessage) : Type 0 where
  pub messages : messages old ≡ front ++ messages new
  pub left : bytes_left old ≡ bytes_left new
  pub shorter : length new < length old

-- a batch came off, as long as it can be
pub record CutsBatch (old new : List ℕ) (cut_off : List RawMessage) (complete : Bool) : Type 0 where
  pub cuts : CutsOff old new cut_off
  pub batch : is_batch complete cut_off ≡ true
  pub stops : StopsAt complete (messages new)

-- a message aside came off, and is this one
pub record CutsAside (old new : List ℕ) (message : Message) : Type 0 where
  pub raw : RawMessage
  pub cuts : CutsOff old new (raw ∷ [])
  pub aside : is_aside raw ≡ true
  pub means : message_of raw ≡ Ok (message_view message)

-- no whole message stands in front, and the buffer is as it was
pub record CutsNothing (old new : List ℕ) (bad : Bool) : Type 0 where
  pub same : new ≡ old
  pub none : messages old ≡ []
  pub left : bytes_left old ≡ old
  pub header : has_bad_header old ≡ bad

-- the message aside in front breaks its layout, and the buffer is as it was
pub record RefusesAside (old new : List ℕ) : Type 0 where
  pub same : new ≡ old
  pub raw : RawMessage
  pub rest : List RawMessage
  pub front : messages old ≡ raw ∷ rest
  pub aside : is_aside raw ≡ true
  pub broken : message_of raw ≡ Err spec.Layout

-- what `decode` answers
abbrev pub Decodes : List ℕ → List ℕ → Result (Option BackendMessage) WireFault → Type 0
Decodes old new (Ok None) = CutsNothing old new false
Decodes old new (Ok (Some (cut.Normal batch complete))) = CutsBatch old new batch complete
Decodes old new (Ok (Some (cut.Async message))) = CutsAside old new message
Decodes old new (Err fault.BadLength) = CutsNothing old new true
Decodes old new (Err fault.Layout) = RefusesAside old new
Decodes old new (Err fault.OutOfMemory) = new ≡ old
Decodes old new (Err _) = ⊥
