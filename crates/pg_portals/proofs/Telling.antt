-- What a malformed message tells of a bind.
use Rattle.std.proofs.Common.{◌≡◌, [], ◌∷◌, Option, Some, None, Result, Ok, Err, sym, ap, ◌∙◌}
use Rattle.pg_spec.specs.Faults as spec
use Rattle.pg_spec.specs.Messages as message
use Rattle.pg_spec.specs.RawMessages.{RawMessage}
use Rattle.pg_spec.specs.Readings.{Next, Answers}
use Rattle.pg_wire.specs.Faults.{wire_fault}
use Rattle.pg_types.specs.declared.faults.WireFault.{WireFault}
use Rattle.pg_types.specs.declared.error.Error.{Error}
use Rattle.pg_query.specs.Messages.{IsMalformed}
use Rattle.pg_query.specs.Replies.{malformed_error}
use Rattle.pg_core.proofs.Telling.{reads-on}
use Rattle.pg_portals.specs.Portals.{bound_by, bound_next}
use Rattle.pg_portals.specs.Reading.{reading_of_bound}
use Rattle.pg_portals.specs.declared.bound.Bound.{Bound}
use Rattle.pg_portals.specs.declared.portal.Portal.{Portal}

abbrev Told : Type 0
Told = Result Portal Error

-- it is the answer
pub bound-malformed : (old : Bound) (raw : RawMessage) (fault : WireFault) (e : Error) → IsMalformed raw (wire_fault fault) → Some e ≡ malformed_error (wire_fault fault) →
    reading_of_bound old (raw ∷ []) ≡ Some (Err e)
bound-malformed old raw fault e = by (wire_fault fault)
  where
    by : (o : Option spec.WireFault) → IsMalformed raw o → Some e ≡ malformed_error o → reading_of_bound old (raw ∷ []) ≡ Some (Err e)
    by None m h = absurd m
    by (Some c) m h =
        let same : e ≡ spec.Parse (spec.Wire c) = cc in
        let next : bound_next old.portal raw ≡ Answers (Err (spec.Parse (spec.Wire c))) =
        ap (λ (r : Result message.Message spec.WireFault). elim r as (λ _. Next Portal Told) [ Ok m ↦ bound_by old.portal m | Err fault ↦ Answers (Err (spec.Parse (spec.Wire fault))) ]) m in
        reads-on bound_next (λ (r : Bound). r.portal) old old raw (Some (Err (spec.Parse (spec.Wire c)))) next ∙ ap (λ (x : Error). let t : Option Told = Some (Err x) in t) (sym same)
