-- Where a query of a portal's rows stands.
use Rattle.std.specs.Int.{cast_signed, w32}
use Rattle.std.specs.Prelude.{ℕ, List, Option, Result, Err}
use Rattle.pg_spec.specs.RawMessages.{RawMessage}
use Rattle.pg_types.specs.declared.error.Error.{Error}
use Rattle.pg_types.specs.declared.error.Error.TheVariants.{Closed}
use Rattle.pg_query.specs.Dialogue.{Dialogue, Answer}
use Rattle.pg_query.specs.Scripts.{Waiting, Nothing, waiting_at}
use Rattle.pg_query.specs.SingleRequests.{dialogue_of, steps_of}
use Rattle.pg_query.specs.declared.single_request.SingleRequest.{SingleRequest}
use Rattle.pg_execute.specs.Executes.{whole_rows}
use Rattle.pg_execute.specs.RowsReadings.{reading_of_rows}
use Rattle.pg_execute.specs.declared.make.WholeRows.{WholeRows}
use Rattle.pg_execute.specs.declared.result_set.ResultSet.{ResultSet}
use Rattle.pg_execute.specs.declared.rows_reading.RowsReading.{RowsReading}
use Rattle.pg_portals.specs.Portals.{query_portal}
use Rattle.pg_portals.specs.declared.queries.QueriesPortal.{QueriesPortal}
use Rattle.pg_portals.specs.declared.queries.QueriesPortal.TheVariants.{Borrowed, Owned, Asks, Spent}

-- what its reply tells
abbrev pub reading_of : RowsReading WholeRows → List RawMessage → Option (Result ResultSet Error)
reading_of = reading_of_rows (λ m. whole_rows)

-- what its request still asks and answers
abbrev pub asking : SingleRequest (RowsReading WholeRows) ResultSet → Dialogue ResultSet
asking one = dialogue_of reading_of one

-- what is still asked and answered
abbrev pub queries_at : QueriesPortal → Dialogue ResultSet
queries_at (Borrowed portal limit) = query_portal portal.now (cast_signed w32 limit)
queries_at (Owned portal limit) = query_portal portal (cast_signed w32 limit)
queries_at (Asks one) = asking one
queries_at Spent = Answer (Err Closed)

-- where the desk refuses its request, that error is the answer
abbrev pub queries_refuses : QueriesPortal → Error → Dialogue ResultSet
queries_refuses s e = Answer (Err e)

-- what is waited for
abbrev pub queries_waits : (s : QueriesPortal) → Waiting (queries_at s)
queries_waits (Borrowed portal limit) = Nothing
queries_waits (Owned portal limit) = Nothing
queries_waits (Asks one) = waiting_at (asking one)
queries_waits Spent = Nothing

-- how many steps are left
abbrev pub queries_steps : QueriesPortal → ℕ
queries_steps (Borrowed portal limit) = 2
queries_steps (Owned portal limit) = 2
queries_steps (Asks one) = steps_of one
queries_steps Spent = 0
