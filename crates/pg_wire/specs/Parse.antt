-- What taking one message off the front of some bytes answers.
use Rattle.std.specs.Prelude.{◌≡◌, ℕ, Bool, true, false, List, Option, Some, None, Result, Ok, Err}
use Rattle.pg_spec.specs.Faults as spec
use Rattle.pg_spec.specs.Messages.{message_of}
use Rattle.pg_spec.specs.RawMessages.{RawMessage, message_at, has_bad_header}
use Rattle.pg_types.specs.declared.faults.WireFault.{WireFault}
use Rattle.pg_types.specs.declared.faults.WireFault.TheVariants as wire
use Rattle.pg_wire.specs.declared.message.Message.{Message}
use Rattle.pg_wire.specs.Messages.{message_view}

-- the whole message in front came off, and is this one
pub record TakesFront (old new : List ℕ) (message : Message) : Type 0 where
  pub raw : RawMessage
  pub front : message_at old ≡ Some (raw, new)
  pub means : message_of raw ≡ Ok (message_view message)

-- the whole message in front is refused, and the bytes are as they were
pub record RefusesFront (old new : List ℕ) (fault : spec.WireFault) : Type 0 where
  pub same : new ≡ old
  pub raw : RawMessage
  pub rest : List ℕ
  pub front : message_at old ≡ Some (raw, rest)
  pub means : message_of raw ≡ Err fault

-- no whole message stands in front, and the bytes are as they were
pub record FindsNone (old new : List ℕ) (bad : Bool) : Type 0 where
  pub same : new ≡ old
  pub none : message_at old ≡ None
  pub header : has_bad_header old ≡ bad

-- what `parse` answers; want of memory changes nothing
abbrev pub Parses : List ℕ → List ℕ → Result (Option Message) WireFault → Type 0
Parses old new (Ok None) = FindsNone old new false
Parses old new (Ok (Some message)) = TakesFront old new message
Parses old new (Err wire.BadLength) = FindsNone old new true
Parses old new (Err wire.UnknownTag) = RefusesFront old new spec.UnknownTag
Parses old new (Err wire.Layout) = RefusesFront old new spec.Layout
Parses old new (Err wire.NotUtf8) = ⊥
Parses old new (Err wire.OutOfMemory) = new ≡ old
