-- What reading a body by its layout answers.
use Rattle.std.specs.Prelude.{◌≡◌, ℕ, List, find, ◌==◌, ◌||◌, Bool, true, false, Option, Some, None, Result, Ok, Err}
use Rattle.std.specs.Str.{byte}
use Rattle.pg_spec.specs.Bytes.{◌>>=◌}
use Rattle.pg_spec.specs.Faults as spec
use Rattle.pg_spec.specs.Messages as messages
use Rattle.pg_spec.specs.Messages.{message_of}
use Rattle.pg_spec.specs.RawMessages.{RawMessage}
use Rattle.pg_types.specs.declared.faults.WireFault.{WireFault}
use Rattle.pg_types.specs.declared.faults.WireFault.TheVariants as wire
use Rattle.pg_wire.specs.declared.message.Message.{Message}
use Rattle.pg_wire.specs.Messages.{message_view}

-- what an authentication request of this code asks for
abbrev pub request_of : ℕ → List ℕ → Option messages.Message
request_of code body = find (λ row. row.0 == code) messages.authentications >>= λ row. row.1 body

-- the message that a layout reads; Layout where it reads none
abbrev pub LaidOut : Option messages.Message → Result Message WireFault → Type 0
LaidOut read (Ok message) = read ≡ Some (message_view message)
LaidOut read (Err wire.Layout) = read ≡ None
LaidOut read (Err _) = ⊥

-- the tag of a message of a query's reply: a row, a completion, the columns or the end
abbrev pub is_reply_tag : ℕ → Bool
is_reply_tag tag = ((tag == byte "D" || tag == byte "C") || tag == byte "T") || tag == byte "Z"

-- the message of a tag and a body, or what is wrong with them
abbrev pub Means : RawMessage → Result Message WireFault → Type 0
Means raw (Ok message) = message_of raw ≡ Ok (message_view message)
Means raw (Err wire.UnknownTag) = message_of raw ≡ Err spec.UnknownTag
Means raw (Err wire.Layout) = message_of raw ≡ Err spec.Layout
Means raw (Err _) = ⊥

-- the body keeps its message's layout
abbrev pub KeepsLayout : RawMessage → Bool → Type 0
KeepsLayout raw true = (message : messages.Message) × (message_of raw ≡ Ok message)
KeepsLayout raw false = message_of raw ≡ Err spec.Layout
