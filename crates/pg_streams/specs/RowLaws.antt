-- A malformed message of the reply to a statement is an error.
use Rattle.std.specs.Prelude.{◌≡◌, ℕ, [], ◌∷◌, length, Bool, true, false, Option, Some, None, Result, Ok, Err, option_map}
use Rattle.std.proofs.Common.{ap}
use Rattle.pg_spec.specs.Faults as spec
use Rattle.pg_spec.specs.Messages.{Message, message_of}
use Rattle.pg_spec.specs.RawMessages.{RawMessage}
use Rattle.pg_spec.specs.Readings.{decided_by}
use Rattle.pg_desk.specs.declared.statement.Described.{Described as Statement}
use Rattle.pg_core.specs.QueryReplies.{Said, Fails, query_said}
use Rattle.pg_execute.specs.Rows.{rows_by}
use Rattle.pg_execute.specs.declared.how_many.HowMany.TheVariants.{Any}
use Rattle.pg_streams.specs.RowStreams.{rows_from, rows_given}
use Rattle.pg_streams.specs.RowTelling.{bound_heard, opening_heard, row_heard, rows_heard}
use Rattle.pg_streams.specs.declared.giving.Told.TheVariants as telling
use Rattle.pg_streams.specs.declared.row_giving.RowGiving.{RowGiving}
use Rattle.pg_streams.specs.declared.row_giving.RowOpening.{RowOpening}

-- it says that the reply fails
abbrev said-of : (bound : Bool) → ℕ → Result Message spec.WireFault → Said
said-of bound columns read = elim read as (λ _. Said) [ Ok m ↦ query_said bound columns m | Err fault ↦ Fails (spec.Parse (spec.Wire fault)) ]

-- and that is the answer
pub rows_malformed : (s : Statement) (bound : Bool) (affected : Option ℕ) (raw : RawMessage) (fault : spec.WireFault) → message_of raw ≡ Err fault →
    rows_from s bound affected (raw ∷ []) ≡ Some (Err (spec.Parse (spec.Wire fault)))
rows_malformed s bound affected raw fault is =
    ap (λ (read : Result Message spec.WireFault).
    option_map (λ d. d.answer) (decided_by (rows_by Any (rows_given s) (record { bound = bound; rows = []; affected = affected }) (said-of bound (length s.columns) read)) (λ later. None))) is

-- it tells that
pub rows_refused : (g : RowGiving) (raw : RawMessage) (fault : spec.WireFault) → message_of raw ≡ Err fault → rows_heard g raw ≡ record { told = Some (telling.Fails (spec.Parse (spec.Wire fault))); giving = g }
rows_refused g raw fault is = ap (λ (read : Result Message spec.WireFault). row_heard g (said-of true (length g.statement.columns) read)) is

-- the same before BindComplete
pub opening_refused : (o : RowOpening) (raw : RawMessage) (fault : spec.WireFault) → message_of raw ≡ Err fault → opening_heard o raw ≡ record { told = Some (telling.Fails (spec.Parse (spec.Wire fault))); giving = o }
opening_refused o raw fault is = ap (λ (read : Result Message spec.WireFault). bound_heard o (said-of false (length o.statement.columns) read)) is
