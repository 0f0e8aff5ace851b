-- What a malformed message tells.
use Rattle.std.proofs.Common.{◌≡◌, [], ◌∷◌, Option, Some, None, Result, Ok, Err, sym, ap, ◌∙◌}
use Rattle.pg_spec.specs.Faults as spec
use Rattle.pg_spec.specs.Messages.{Message, message_of}
use Rattle.pg_spec.specs.RawMessages.{RawMessage}
use Rattle.pg_spec.specs.Readings.{Next, Answers}
use Rattle.pg_wire.specs.Faults.{wire_fault}
use Rattle.pg_types.specs.declared.faults.WireFault.{WireFault}
use Rattle.pg_types.specs.declared.error.Error.{Error}
use Rattle.pg_query.specs.Messages.{IsMalformed}
use Rattle.pg_query.specs.Replies.{malformed_error}
use Rattle.pg_core.specs.QueryReplies.{told_by}
use Rattle.pg_core.proofs.Telling.{reads-on}

-- by what a message does that is well-formed
abbrev pub by_message : {S T : Type 0} → (S → Message → Next S (Result T Error)) → S → RawMessage → Next S (Result T Error)
by_message {S} {T} does s raw = elim (message_of raw) as (λ _. Next S (Result T Error)) [ Ok m ↦ does s m | Err fault ↦ Answers (Err (spec.Parse (spec.Wire fault))) ]

-- it is the answer
pub told-malformed : {S T : Type 0} (does : S → Message → Next S (Result T Error)) (state : S) (raw : RawMessage) (fault : WireFault) (e : Error) → IsMalformed raw (wire_fault fault) → Some e ≡ malformed_error (wire_fault fault) →
    told_by (by_message does) state (raw ∷ []) ≡ Some (Err e)
told-malformed {S} {T} does state raw fault e = by (wire_fault fault)
  where
    by : (o : Option spec.WireFault) → IsMalformed raw o → Some e ≡ malformed_error o → told_by (by_message does) state (raw ∷ []) ≡ Some (Err e)
    by None m h = absurd m
    by (Some c) m h =
        let same : e ≡ spec.Parse (spec.Wire c) = cc in
        let next : by_message does state raw ≡ Answers (Err (spec.Parse (spec.Wire c))) =
        ap (λ (r : Result Message spec.WireFault). elim r as (λ _. Next S (Result T Error)) [ Ok m ↦ does state m | Err fault ↦ Answers (Err (spec.Parse (spec.Wire fault))) ]) m in
        reads-on (by_message does) (λ (s : S). s) state state raw (Some (Err (spec.Parse (spec.Wire c)))) next ∙ ap (λ (x : Error). let t : Option (Result T Error) = Some (Err x) in t) (sym same)
