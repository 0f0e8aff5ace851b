-- What a malformed message tells of a count.
use Rattle.std.proofs.Common.{◌≡◌, ℕ, [], ◌∷◌, Option, Some, None, Result, Ok, Err, sym, ap, ◌∙◌}
use Rattle.pg_spec.specs.Faults as spec
use Rattle.pg_spec.specs.Messages as message
use Rattle.pg_spec.specs.RawMessages.{RawMessage}
use Rattle.pg_spec.specs.Readings.{Next, Answers}
use Rattle.pg_wire.specs.Faults.{wire_fault}
use Rattle.pg_types.specs.declared.faults.WireFault.{WireFault}
use Rattle.pg_types.specs.declared.error.Error.{Error}
use Rattle.pg_query.specs.Messages.{IsMalformed}
use Rattle.pg_query.specs.Replies.{malformed_error}
use Rattle.pg_core.proofs.Telling.{reads-on}
use Rattle.pg_execute.specs.Counts.{Counted, count_by, count_next}
use Rattle.pg_execute.specs.CountReadings.{counted_of, reading_of_count}
use Rattle.pg_execute.specs.declared.count_reading.CountReading.{CountReading}

abbrev Told : Type 0
Told = Result ℕ Error

-- it is the answer
pub count-malformed : (old : CountReading) (raw : RawMessage) (fault : WireFault) (e : Error) → IsMalformed raw (wire_fault fault) → Some e ≡ malformed_error (wire_fault fault) →
    reading_of_count old (raw ∷ []) ≡ Some (Err e)
count-malformed old raw fault e = by (wire_fault fault)
  where
    by : (o : Option spec.WireFault) → IsMalformed raw o → Some e ≡ malformed_error o → reading_of_count old (raw ∷ []) ≡ Some (Err e)
    by None m h = absurd m
    by (Some c) m h =
        let same : e ≡ spec.Parse (spec.Wire c) = cc in
        let next : count_next (counted_of old) raw ≡ Answers (Err (spec.Parse (spec.Wire c))) =
        ap (λ (r : Result message.Message spec.WireFault). elim r as (λ _. Next Counted Told) [ Ok m ↦ count_by old.bound old.count m | Err fault ↦ Answers (Err (spec.Parse (spec.Wire fault))) ]) m in
        reads-on count_next counted_of old old raw (Some (Err (spec.Parse (spec.Wire c)))) next ∙ ap (λ (x : Error). let t : Option Told = Some (Err x) in t) (sym same)
