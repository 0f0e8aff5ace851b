-- A stream that comes in pieces and is decoded in between, and what the answers give together.
use Rattle.std.specs.Prelude.{◌≡◌, ℕ, Bool, true, List, [], ◌∷◌, ◌++◌, length, filter, Option, Some, None, Result, Ok, Err, if◌then◌else◌}
use Rattle.pg_spec.specs.Messages as spec
use Rattle.pg_spec.specs.Messages.{message_of}
use Rattle.pg_spec.specs.RawMessages.{RawMessage, messages, bytes_left, is_aside, is_ready, ends_in}
use Rattle.pg_wire.specs.Decode.{Decodes}
use Rattle.pg_wire.specs.Messages.{message_view}
use Rattle.pg_wire.specs.declared.codec.BackendMessage.{BackendMessage}
use Rattle.pg_wire.specs.declared.codec.BackendMessage.TheVariants as cut
use Rattle.pg_types.specs.declared.faults.WireFault.{WireFault}

-- what happens to the buffer of received bytes
pub data Event : Type 0 where
  -- these bytes came behind those that it held
  Came : List ℕ → Event
  -- `decode` gave this answer
  Gave : Result (Option BackendMessage) WireFault → Event

-- all bytes that came
abbrev pub came : List Event → List ℕ
came [] = []
came (Came bytes ∷ events) = bytes ++ came events
came (Gave answer ∷ events) = came events

-- by these events the buffer became another
abbrev pub Becomes : List ℕ → List Event → List ℕ → Type 0
Becomes old [] new = old ≡ new
Becomes old (Came bytes ∷ events) new = Becomes (old ++ bytes) events new
Becomes old (Gave answer ∷ events) new = (left : List ℕ) × Decodes old left answer × Becomes left events new

-- the raw message is aside, and this is the message that was given for it
pub record IsGivenAs (message : spec.Message) (raw : RawMessage) : Type 0 where
  pub aside : is_aside raw ≡ true
  pub means : message_of raw ≡ Ok message

-- the messages that an answer gives: those of its batch, the one aside, or none
abbrev pub GivesOne : Result (Option BackendMessage) WireFault → List RawMessage → Type 0
GivesOne (Ok (Some (cut.Normal batch complete))) ms = ms ≡ batch
GivesOne (Ok (Some (cut.Async message))) ms = (raw : RawMessage) × (ms ≡ raw ∷ []) × IsGivenAs (message_view message) raw
GivesOne (Ok None) ms = ms ≡ []
GivesOne (Err fault) ms = ms ≡ []

-- the messages that the answers give, joined
abbrev pub Gives : List Event → List RawMessage → Type 0
Gives [] ms = ms ≡ []
Gives (Came bytes ∷ events) ms = Gives events ms
Gives (Gave answer ∷ events) ms = (first : List RawMessage) × (others : List RawMessage) × GivesOne answer first × Gives events others × (ms ≡ first ++ others)

-- What the answers gave is the messages of the stream but for those that stand whole in the buffer, and
-- what stands behind them stands there too.
pub record GaveAllBut (events : List Event) (held : List ℕ) : Type 0 where
  pub given : List RawMessage
  pub gives : Gives events given
  pub joined : messages (came events) ≡ given ++ messages held
  pub left : bytes_left (came events) ≡ bytes_left held

-- What the answers gave is the messages of the stream, and the buffer holds what is no message yet.
pub record GaveAll (events : List Event) (held : List ℕ) : Type 0 where
  pub given : List RawMessage
  pub gives : Gives events given
  pub joined : messages (came events) ≡ given
  pub left : bytes_left (came events) ≡ held

-- the batch is complete exactly where it ends with a ReadyForQuery, which is its only one
pub record TellsItsEnd (batch : List RawMessage) (complete : Bool) : Type 0 where
  pub ends : complete ≡ ends_in is_ready batch
  pub only : length (filter is_ready batch) ≡ (if complete then 1 else 0)
