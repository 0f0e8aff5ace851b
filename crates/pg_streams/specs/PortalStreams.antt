-- The rows of a portal, which are given one by one, and the state that hands them on.
use Rattle.std.specs.Prelude.{ℤ, ◌++◌, List, Bool, true, false, None, Err}
use Rattle.pg_spec.specs.RawMessages.{RawMessage}
use Rattle.pg_types.specs.declared.error.Error.TheVariants.{Closed}
use Rattle.pg_query.specs.Dialogue.{Dialogue, Answer}
use Rattle.pg_query.specs.Reading.{reads}
use Rattle.pg_core.specs.Composing.{asks_for}
use Rattle.pg_portals.specs.Requests.{portal_request}
use Rattle.pg_portals.specs.declared.portal.Portal.{Portal}
use Rattle.pg_streams.specs.Hearing.{First}
use Rattle.pg_streams.specs.RowStates.{unread}
use Rattle.pg_streams.specs.RowStreams.{RowsGiven, rows_from}
use Rattle.pg_streams.specs.declared.row_stream.RowStream.{RowStream}

-- query_portal_raw: what one asks and answers who collects the rows. BindComplete came before.
abbrev pub query_portal_raw : Portal → (max_rows : ℤ) → Dialogue RowsGiven
query_portal_raw p max_rows = asks_for (portal_request p.number max_rows) (reads false (rows_from p.statement true None))

-- what is asked, unless it was answered
abbrev pub asks_portal : (over : Bool) → Portal → (max_rows : ℤ) → Dialogue RowsGiven
asks_portal false p max_rows = query_portal_raw p max_rows
asks_portal true p max_rows = Answer (Err Closed)

-- nothing is told before the stream is there
abbrev pub portal_first : List RawMessage → First (Unit {0}) (Unit {0})
portal_first more = record { told = None; giving = tt; left = more }

-- nothing was told before, and all messages are read next
abbrev pub portal_opened : RowStream → List RawMessage → First (Unit {0}) (Unit {0})
portal_opened s more = record { told = None; giving = tt; left = unread s ++ more }
