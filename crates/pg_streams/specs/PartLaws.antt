-- A malformed message of the reply to a simple query is an error.
use Rattle.std.specs.Prelude.{◌≡◌, List, [], ◌∷◌, Option, Some, None, Result, Ok, Err}
use Rattle.std.proofs.Common.{ap}
use Rattle.pg_spec.specs.Faults as spec
use Rattle.pg_spec.specs.Messages.{Message, message_of}
use Rattle.pg_spec.specs.RawMessages.{RawMessage}
use Rattle.pg_rows.specs.declared.simple_column.SimpleColumn.{SimpleColumn}
use Rattle.pg_streams.specs.PartTelling.{part_heard, parts_heard}
use Rattle.pg_streams.specs.SimpleStreams.{Said, Wrong, simple_said, told_by, parts_from}
use Rattle.pg_streams.specs.declared.giving.Told.TheVariants.{Fails}
use Rattle.pg_streams.specs.declared.simple_giving.SimpleGiving.{SimpleGiving}

-- it is the answer
pub parts_malformed : (columns : Option (List SimpleColumn)) (raw : RawMessage) (fault : spec.WireFault) → message_of raw ≡ Err fault → parts_from columns (raw ∷ []) ≡ Some (Err (spec.Parse (spec.Wire fault)))
parts_malformed columns raw fault is =
    ap (λ (read : Result Message spec.WireFault). told_by (elim read as (λ _. Said) [ Ok m ↦ simple_said columns m | Err f ↦ Wrong (spec.Parse (spec.Wire f)) ]) (λ later. None)) is

-- it tells that
pub parts_refused : (g : SimpleGiving) (raw : RawMessage) (fault : spec.WireFault) → message_of raw ≡ Err fault → parts_heard g raw ≡ record { told = Some (Fails (spec.Parse (spec.Wire fault))); giving = g }
parts_refused g raw fault is =
    ap (λ (read : Result Message spec.WireFault). part_heard g (elim read as (λ _. Said) [ Ok m ↦ simple_said g.columns m | Err f ↦ Wrong (spec.Parse (spec.Wire f)) ])) is
