-- What a message says of the reply to a query.
use Rattle.std.proofs.Common.{◌≡◌, ℕ, Bool, true, false, Option, Some, None, Result, Ok, Err, IfOk, refl, sym, ap, ◌∙◌, subst}
use Rattle.std.specs.declared.alloc.AllocError.{AllocError}
use Rattle.pg_spec.specs.Faults as spec
use Rattle.pg_spec.specs.Messages.{Message, message_of}
use Rattle.pg_spec.specs.RawMessages.{RawMessage}
use Rattle.pg_wire.specs.Faults.{wire_fault}
use Rattle.pg_wire.specs.Messages.{message_view}
use Rattle.pg_wire.specs.declared.body.CommandCompleteBody.{CommandCompleteBody}
use Rattle.pg_wire.specs.declared.body.DataRowBody.{DataRowBody}
use Rattle.pg_wire.specs.declared.body.ErrorResponseBody.{ErrorResponseBody}
use Rattle.pg_wire.specs.declared.body.ReadyForQueryBody.{ReadyForQueryBody}
use Rattle.pg_wire.specs.declared.message.Message as wire
use Rattle.pg_wire.specs.declared.message.Message.TheVariants as received
use Rattle.pg_types.specs.declared.faults.WireFault.{WireFault}
use Rattle.pg_types.specs.declared.error.Error.{Error}
use Rattle.pg_types.specs.declared.error.Error.TheVariants.{UnexpectedMessage}
use Rattle.pg_query.specs.Messages.{IsMalformed}
use Rattle.pg_query.specs.Replies.{malformed_error}
use Rattle.pg_core.specs.QueryReplies.{Said, Fails, query_said, said_by}

-- any other message before BindComplete has no place there
pub other-before : (columns : ℕ) (m : wire.Message) → (m ≡ received.BindComplete → ⊥) → ((b : ErrorResponseBody) → m ≡ received.ErrorResponse b → ⊥) →
    Fails UnexpectedMessage ≡ query_said false columns (message_view m)
other-before columns received.BindComplete b e = absurd (b refl)
other-before columns (received.ErrorResponse body) b e = absurd (e body refl)
other-before columns m b e = refl

-- nor has any other behind it
pub other-behind : (columns : ℕ) (m : wire.Message) → ((b : DataRowBody) → m ≡ received.DataRow b → ⊥) → ((b : CommandCompleteBody) → m ≡ received.CommandComplete b → ⊥) →
    (m ≡ received.EmptyQueryResponse → ⊥) → (m ≡ received.PortalSuspended → ⊥) → ((b : ReadyForQueryBody) → m ≡ received.ReadyForQuery b → ⊥) →
    ((b : ErrorResponseBody) → m ≡ received.ErrorResponse b → ⊥) → Fails UnexpectedMessage ≡ query_said true columns (message_view m)
other-behind columns (received.DataRow b) d c i s z e = absurd (d b refl)
other-behind columns (received.CommandComplete b) d c i s z e = absurd (c b refl)
other-behind columns received.EmptyQueryResponse d c i s z e = absurd (i refl)
other-behind columns received.PortalSuspended d c i s z e = absurd (s refl)
other-behind columns (received.ReadyForQuery b) d c i s z e = absurd (z b refl)
other-behind columns (received.ErrorResponse b) d c i s z e = absurd (e b refl)
other-behind columns m d c i s z e = refl

-- what is said by what a message means
abbrev said-of : Bool → ℕ → Result Message spec.WireFault → Said
said-of bound columns r = elim r as (λ _. Said) [ Ok m ↦ query_said bound columns m | Err fault ↦ Fails (spec.Parse (spec.Wire fault)) ]

-- what the message means is what it says
pub says-meant : (bound : Bool) (columns : ℕ) (raw : RawMessage) (m : Message) → message_of raw ≡ Ok m → said_by bound columns raw ≡ query_said bound columns m
says-meant bound columns raw m means = ap (said-of bound columns) means

-- the same of what was read of it
pub says-read : (bound : Bool) (columns : ℕ) (raw : RawMessage) (m : Message) {R : Type 0} (view : R → Said) (r : Result R AllocError) → message_of raw ≡ Ok m →
    IfOk r (λ said. view said ≡ query_said bound columns m) → IfOk r (λ said. view said ≡ said_by bound columns raw)
says-read bound columns raw m view (Ok said) means is = is ∙ sym (says-meant bound columns raw m means)
says-read bound columns raw m view (Err e) means is = tt

-- a malformed message
pub says-malformed : (bound : Bool) (columns : ℕ) (raw : RawMessage) (fault : WireFault) (e : Error) → IsMalformed raw (wire_fault fault) → Some e ≡ malformed_error (wire_fault fault) →
    Fails e ≡ said_by bound columns raw
says-malformed bound columns raw fault e = by (wire_fault fault)
  where
    by : (o : Option spec.WireFault) → IsMalformed raw o → Some e ≡ malformed_error o → Fails e ≡ said_by bound columns raw
    by None m h = absurd m
    by (Some c) m h =
        let same : e ≡ spec.Parse (spec.Wire c) = cc in
        ap (λ (x : Error). Fails x) same ∙ sym (ap (said-of bound columns) m)
