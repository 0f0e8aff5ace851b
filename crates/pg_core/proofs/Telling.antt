-- What a message tells of a description.
use Rattle.std.proofs.Common.{◌≡◌, List, [], ◌∷◌, Option, Some, None, option_map, Result, Ok, Err, IfOk, refl, sym, ap, ◌∙◌, subst}
use Rattle.std.specs.declared.alloc.AllocError.{AllocError}
use Rattle.pg_spec.specs.Faults as spec
use Rattle.pg_spec.specs.Messages.{message_of}
use Rattle.pg_spec.specs.Messages as message
use Rattle.pg_spec.specs.RawMessages.{RawMessage}
use Rattle.pg_spec.specs.Readings.{Next, GoesOn, Answers, Decision, decision, decided_by, one_later}
use Rattle.pg_wire.specs.Faults.{wire_fault}
use Rattle.pg_wire.specs.Messages.{message_view}
use Rattle.pg_wire.specs.declared.body.ErrorResponseBody.{ErrorResponseBody}
use Rattle.pg_wire.specs.declared.body.ParameterDescriptionBody.{ParameterDescriptionBody}
use Rattle.pg_wire.specs.declared.body.RowDescriptionBody.{RowDescriptionBody}
use Rattle.pg_wire.specs.declared.message.Message.{Message}
use Rattle.pg_wire.specs.declared.message.Message.TheVariants as wire
use Rattle.pg_types.specs.declared.faults.WireFault.{WireFault}
use Rattle.pg_types.specs.declared.error.Error.{Error}
use Rattle.pg_types.specs.declared.error.Error.TheVariants.{UnexpectedMessage}
use Rattle.pg_query.specs.Messages.{IsMalformed}
use Rattle.pg_query.specs.Reading.{ReadsOn}
use Rattle.pg_query.specs.Replies.{malformed_error}
use Rattle.pg_core.specs.QueryReplies.{told_by}
use Rattle.pg_core.specs.Descriptions.{Description, Seen, description_message, description_next}
use Rattle.pg_core.specs.Described.{Does, reading_of, seen_of}
use Rattle.pg_core.specs.declared.description_reading.DescriptionReading.{DescriptionReading}

abbrev Told : Type 0
Told = Result Description Error

-- a message of another kind has no place in a description
pub other-message : (seen : Seen) (m : Message) → ((b : ErrorResponseBody) → m ≡ wire.ErrorResponse b → ⊥) → (m ≡ wire.NoData → ⊥) →
    ((b : ParameterDescriptionBody) → m ≡ wire.ParameterDescription b → ⊥) → (m ≡ wire.ParseComplete → ⊥) → ((b : RowDescriptionBody) → m ≡ wire.RowDescription b → ⊥) →
    description_message seen (message_view m) ≡ Answers (Err UnexpectedMessage)
other-message seen (wire.ErrorResponse b) e n t p r = absurd (e b refl)
other-message seen wire.NoData e n t p r = absurd (n refl)
other-message seen (wire.ParameterDescription b) e n t p r = absurd (t b refl)
other-message seen wire.ParseComplete e n t p r = absurd (p refl)
other-message seen (wire.RowDescription b) e n t p r = absurd (r b refl)
other-message seen m e n t p r = refl

-- ---- any reading by steps

-- what is decided, as it is told
abbrev telling : {T : Type 0} → Option (Decision (Result T Error)) → Option (Result T Error)
telling d = option_map (λ k. k.answer) d

later-same : {T : Type 0} (d : Option (Decision (Result T Error))) → telling (option_map one_later d) ≡ telling d
later-same None = refl
later-same (Some d) = refl

module _ {R S T : Type 0} (next : S → RawMessage → Next S (Result T Error)) (view : R → S) where
  -- what the messages tell, by what the first of them does
  by-next : (old : S) (raw : RawMessage) (ms : List RawMessage) (n : Next S (Result T Error)) → next old raw ≡ n →
      told_by next old (raw ∷ ms) ≡ telling (decided_by n (λ later. decision (λ s. None) next later ms))
  by-next old raw ms n e = ap (λ (k : Next S (Result T Error)). telling (decided_by k (λ later. decision (λ s. None) next later ms))) e

  goes-on : (old new : S) (raw : RawMessage) (ms : List RawMessage) → next old raw ≡ GoesOn new → told_by next old (raw ∷ ms) ≡ told_by next new ms
  goes-on old new raw ms e = by-next old raw ms (GoesOn new) e ∙ later-same (decision (λ s. None) next new ms)

  -- what a message does is what is read
  pub reads-on : (old new : R) (raw : RawMessage) (told : Option (Result T Error)) → Does (next (view old) raw) told (view new) → ReadsOn (λ r. told_by next (view r)) old raw told new
  reads-on old new raw (Some r) e = by-next (view old) raw [] (Answers r) e
  reads-on old new raw None e = (goes-on (view old) (view new) raw [] e, λ ms. goes-on (view old) (view new) raw ms e)

-- ---- a description

-- what a message means is what it does
next-of : (seen : Seen) (raw : RawMessage) (m : message.Message) → message_of raw ≡ Ok m → description_next seen raw ≡ description_message seen m
next-of seen raw m h =
    ap (λ (r : Result message.Message spec.WireFault). elim r as (λ _. Next Seen Told) [ Ok m ↦ description_message seen m | Err fault ↦ Answers (Err (spec.Parse (spec.Wire fault))) ]) h

pub description-reads : (r : Result (Option Told) AllocError) (old new : DescriptionReading) (raw : RawMessage) (m : message.Message) → message_of raw ≡ Ok m →
    IfOk r (λ told. Does (description_message (seen_of old) m) told (seen_of new)) → IfOk r (λ told. ReadsOn reading_of old raw told new)
description-reads (Ok told) old new raw m h d =
    reads-on description_next seen_of old new raw told (subst (λ (n : Next Seen Told). Does n told (seen_of new)) (sym (next-of (seen_of old) raw m h)) d)
description-reads (Err e) old new raw m h d = tt

-- a malformed message is the answer
pub description-malformed : (old new : DescriptionReading) (raw : RawMessage) (fault : WireFault) (e : Error) → IsMalformed raw (wire_fault fault) → Some e ≡ malformed_error (wire_fault fault) →
    reading_of old (raw ∷ []) ≡ Some (Err e)
description-malformed old new raw fault e = by (wire_fault fault)
  where
    by : (o : Option spec.WireFault) → IsMalformed raw o → Some e ≡ malformed_error o → reading_of old (raw ∷ []) ≡ Some (Err e)
    by None m h = absurd m
    by (Some c) m h =
        let same : e ≡ spec.Parse (spec.Wire c) = cc in
        let next : description_next (seen_of old) raw ≡ Answers (Err (spec.Parse (spec.Wire c))) =
        ap (λ (r : Result message.Message spec.WireFault). elim r as (λ _. Next Seen Told) [ Ok m ↦ description_message (seen_of old) m | Err fault ↦ Answers (Err (spec.Parse (spec.Wire fault))) ]) m in
        reads-on description_next seen_of old new raw (Some (Err (spec.Parse (spec.Wire c)))) next ∙ ap (λ (x : Error). let t : Option Told = Some (Err x) in t) (sym same)
