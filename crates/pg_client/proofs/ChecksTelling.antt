-- What a message tells of the reply to the setting.
use Rattle.std.proofs.Common.{◌≡◌, ℕ, List, [], ◌∷◌, Option, Some, None, Result, Ok, Err, refl, sym, ap, ◌∙◌, subst}
use Rattle.pg_config.specs.declared.modes.TargetSessionAttrs.{TargetSessionAttrs}
use Rattle.pg_spec.specs.Faults as spec
use Rattle.pg_spec.specs.Messages.{Message, message_of}
use Rattle.pg_spec.specs.RawMessages.{RawMessage}
use Rattle.pg_spec.specs.Readings.{Next, GoesOn, Answers as Tells}
use Rattle.pg_spec.specs.SimpleQuery.{SimpleNext, simple_message}
use Rattle.pg_wire.specs.Faults.{wire_fault}
use Rattle.pg_wire.specs.Messages.{message_view}
use Rattle.pg_wire.specs.declared.body.CommandCompleteBody.{CommandCompleteBody}
use Rattle.pg_wire.specs.declared.body.DataRowBody.{DataRowBody}
use Rattle.pg_wire.specs.declared.body.ErrorResponseBody.{ErrorResponseBody}
use Rattle.pg_wire.specs.declared.body.RowDescriptionBody.{RowDescriptionBody}
use Rattle.pg_wire.specs.declared.message.Message as wire
use Rattle.pg_wire.specs.declared.message.Message.TheVariants as received
use Rattle.pg_types.specs.declared.faults.WireFault.{WireFault}
use Rattle.pg_types.specs.declared.error.Error.{Error}
use Rattle.pg_query.specs.Messages.{IsMalformed}
use Rattle.pg_query.specs.Reading.{ReadsOn}
use Rattle.pg_query.specs.Replies.{malformed_error}
use Rattle.pg_client.specs.Showing.{Told, described, IsShown, reading_of, show_from, show_message, show_next, shown_by}
use Rattle.pg_client.specs.declared.show_reading.ShowReading.{ShowReading}

-- what is told, where the later messages are these
abbrev first_of : TargetSessionAttrs → List RawMessage → Next (Option ℕ) Told → Option Told
first_of attrs ms n = elim n as (λ _. Option Told) [ GoesOn later ↦ show_from attrs later ms | Tells r ↦ Some r ]

-- a malformed message is the answer
pub shown-malformed : (attrs : TargetSessionAttrs) (columns : Option ℕ) (raw : RawMessage) (fault : WireFault) (e : Error) →
    IsMalformed raw (wire_fault fault) → Some e ≡ malformed_error (wire_fault fault) → show_from attrs columns (raw ∷ []) ≡ Some (Err e)
shown-malformed attrs columns raw fault e = by (wire_fault fault)
  where
    by : (o : Option spec.WireFault) → IsMalformed raw o → Some e ≡ malformed_error o → show_from attrs columns (raw ∷ []) ≡ Some (Err e)
    by None m h = absurd m
    by (Some c) m h =
        let same : e ≡ spec.Parse (spec.Wire c) = cc in
        ap (λ (r : Result Message spec.WireFault). first_of attrs [] (shown_by attrs (elim r as (λ _. SimpleNext) [ Ok message ↦ simple_message (described columns) message | Err fault ↦ Tells (Err (spec.Parse (spec.Wire fault))) ]))) m
        ∙ ap (λ (x : Error). let t : Option Told = Some (Err x) in t) (sym same)
