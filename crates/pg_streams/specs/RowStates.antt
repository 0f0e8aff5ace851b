-- Where a stream of rows stands, and the state that hands it on.
use Rattle.std.specs.Prelude.{◌≡◌, ◌⊎◌, ℕ, List, [], ◌++◌, Bool, true, false, Option, Some, None, Result, Ok, Err}
use Rattle.pg_spec.specs.RawMessages.{RawMessage}
use Rattle.pg_spec.specs.declared.stamps.Stamp.{Stamp}
use Rattle.pg_desk.specs.declared.event.Event.{Event}
use Rattle.pg_types.specs.declared.error.Error.{Error}
use Rattle.pg_types.specs.declared.error.Error.TheVariants.{Closed, OutOfMemory}
use Rattle.pg_desk.specs.declared.statement.Described.{Described as Statement}
use Rattle.pg_query.specs.Dialogue.{Answer}
use Rattle.pg_query.specs.Meaning.{Place}
use Rattle.pg_execute.specs.Executes.{closed_by}
use Rattle.pg_desk.specs.declared.column.Column.{Column}
use Rattle.pg_rows.specs.Rows.{RowOf}
use Rattle.pg_execute.specs.Parameters.{Params}
use Rattle.pg_streams.specs.Brought.{brought_if, joined}
use Rattle.pg_streams.specs.Collecting.{EndFirst, NoItemFirst, family_behind, family_of, given_up, place_of, untold}
use Rattle.pg_streams.specs.Families.{AnswersFor, Family, GoesFor, PausesFor}
use Rattle.pg_streams.specs.Handing.{alone}
use Rattle.pg_streams.specs.Hearing.{First, first_told, told_only}
use Rattle.pg_streams.specs.RowStreams.{RowsGiven, query_raw, rows_from, with_row}
use Rattle.pg_streams.specs.RowTelling.{opening_heard, rows_heard}
use Rattle.pg_streams.specs.declared.giving.Told.{Told}
use Rattle.pg_streams.specs.declared.giving.Told.TheVariants.{Item, Ends, Fails}
use Rattle.pg_streams.specs.declared.items.Items.{Items}
use Rattle.pg_streams.specs.declared.query_raw.Handed.{Handed}
use Rattle.pg_streams.specs.declared.query_raw.Handed.TheVariants.{Borrowed, Owned}
use Rattle.pg_streams.specs.declared.query_raw.StatementAsks.{StatementAsks}
use Rattle.pg_streams.specs.declared.query_raw.StatementRawState.{StatementRawState}
use Rattle.pg_streams.specs.declared.query_raw.Stage.{Stage}
use Rattle.pg_streams.specs.declared.query_raw.Stage.TheVariants.{Opens, Done}
use Rattle.pg_streams.specs.declared.row_giving.RowGiving.{RowGiving}
use Rattle.pg_streams.specs.declared.row_giving.RowOpening.{RowOpening}
use Rattle.pg_streams.specs.declared.row_stream.RowStream.{RowStream}

-- ---- a stream

-- what the messages from here on tell
abbrev pub rows_told : RowGiving → List RawMessage → Option (Result RowsGiven Error)
rows_told g = rows_from g.statement true g.affected

-- no row comes behind the end
abbrev pub no_rows : RowGiving → RowsGiven
no_rows g = record { rows = []; affected = g.affected }

-- the rest of its reply was taken before, and the request was hung up then
abbrev pub rows_taken : RowStream → Bool
rows_taken s = s.taken

-- where each stands who has had something before
abbrev pub rows_behind : RowStream → Family (RowsGiven → RowsGiven) RowsGiven RowGiving (RowOf Column)
rows_behind s = brought_if s.taken (joined s.later.items) (family_of rows_told rows_heard s.items)

-- the same behind what was told
abbrev pub rows_stand : Told (RowOf Column) → RowStream → Family (RowsGiven → RowsGiven) RowsGiven RowGiving (RowOf Column)
rows_stand told s = brought_if s.taken (joined s.later.items) (family_behind rows_told with_row no_rows told s.items)

-- where one stands who has had nothing yet
abbrev pub rows_place : RowStream → Place RowsGiven
rows_place s = (rows_behind s).place (λ whole. whole)

-- the messages that came and aren't read, those that were taken before among them
abbrev pub unread_if : (taken : Bool) → (batch later : List RawMessage) → List RawMessage
unread_if true batch later = batch ++ later
unread_if false batch later = batch

-- the same of a stream
abbrev pub unread : RowStream → List RawMessage
unread s = unread_if s.taken s.items.batch (joined s.later.items)

-- what opens the rows was told first, and the messages behind it are read next
abbrev pub rows_opened : RowStream → List RawMessage → First (Unit {0}) (Unit {0})
rows_opened s more = record { told = Some (Item tt); giving = tt; left = unread s ++ more }

-- the end or an error was given
abbrev pub rows_over : RowStream → Bool
rows_over s = s.items.over

-- the statement whose rows they are
abbrev pub statement_of : RowStream → Statement
statement_of s = s.items.giving.statement

-- how many rows the last command affected, where one ended
abbrev pub affected_of : RowStream → Option ℕ
affected_of s = s.items.giving.affected

-- it gives more, and no command ended yet
abbrev pub IsBegun : RowStream → Type 0
IsBegun s = (rows_over s ≡ false) × (affected_of s ≡ None)

-- What a poll gives: a row, where it is told first, which stands in front of what comes from the new place on; the end, where that is, behind
-- which nothing comes; or an error, where no row is told first.
abbrev pub GivesRow : {D : Type 0} → (D → List Event → D → Type 0) → Stamp → D → (from : Family (RowsGiven → RowsGiven) RowsGiven RowGiving (RowOf Column)) → D → RowStream → Option (Result (RowOf Column) Error) → Type 0
GivesRow becomes stamp a from b new (Some (Ok row)) = GoesFor becomes stamp a from b (rows_stand (Item row) new)
GivesRow becomes stamp a from b new None = AnswersFor becomes stamp a from b (λ before. Ok (before (no_rows new.items.giving))) (EndFirst new.items)
GivesRow becomes stamp a from b new (Some (Err e)) = AnswersFor becomes stamp a from b (λ before. Err e) (NoItemFirst new.items)

-- The same of what was taken before: nothing is asked of the desk. Want of memory may be the answer at any place.
abbrev pub GivesTaken : (old new : RowStream) → Option (Result (RowOf Column) Error) → Type 0
GivesTaken old new (Some (Ok row)) = rows_stand (Item row) new ≡ rows_behind old
GivesTaken old new None = rows_stand Ends new ≡ rows_behind old
GivesTaken old new (Some (Err e)) = (rows_stand (Fails e) new ≡ rows_behind old) ⊎ (e ≡ OutOfMemory)

-- the events led to where a message is awaited, and all that came were read
pub record AwaitsRow {D : Type 0} (becomes : D → List Event → D → Type 0) (stamp : Stamp) (a : D) (from : Family (RowsGiven → RowsGiven) RowsGiven RowGiving (RowOf Column)) (b : D) (new : RowStream) : Type 0 where
  pub pauses : PausesFor becomes stamp a from b (rows_behind new)
  pub empty : unread new ≡ []

-- what is left to do where it is given up: nothing, where the request was hung up before
abbrev pub given_up_if : (taken : Bool) → Items RowGiving → Place (Unit {0})
given_up_if true items = record { dialogue = Answer (Ok tt); reads = items.id }
given_up_if false items = given_up items

-- the same of a stream
abbrev pub rows_given_up : RowStream → Place (Unit {0})
rows_given_up s = given_up_if s.taken s.items

-- ---- its opening

-- what the messages from here on tell
abbrev pub opening_told : RowOpening → List RawMessage → Option (Result RowsGiven Error)
opening_told o = rows_from o.statement o.bound None

-- what is told first: BindComplete, or an error
abbrev pub opening_first : Items RowOpening → List RawMessage → First (Unit {0}) (Unit {0})
opening_first items more = told_only (untold opening_heard items more)

-- where one stands, and what is told first
abbrev pub opening : Items RowOpening → Family (Unit {0}) RowsGiven (Unit {0}) (Unit {0})
opening items = alone (place_of opening_told items) (opening_first items)

-- what is told first of the reply to a request of this statement
abbrev pub asked_first : Statement → List RawMessage → First (Unit {0}) (Unit {0})
asked_first s more = told_only (first_told opening_heard (record { statement = s; bound = false }) more)

-- where one stands who executes it with these values, and closes it by this request, if there is one; a request of this number was read before
abbrev pub asked : (close : Option (List ℕ)) → Statement → Params → (reads : ℕ) → Family (Unit {0}) RowsGiven (Unit {0}) (Unit {0})
asked close s vs n = alone (record { dialogue = closed_by close (query_raw s vs); reads = n }) (asked_first s)

-- ---- its state

-- the statement that was handed in
abbrev pub handed : Handed → Statement
handed (Borrowed s) = s.now
handed (Owned s) = s

-- where one stands at a stage
abbrev pub stage_place : Stage → Place RowsGiven
stage_place (Opens items) = place_of opening_told items
stage_place Done = record { dialogue = Answer (Err Closed); reads = 0 }

-- what is told first at a stage
abbrev pub stage_first : Stage → List RawMessage → First (Unit {0}) (Unit {0})
stage_first (Opens items) = opening_first items
stage_first Done = λ more. record { told = None; giving = tt; left = more }

-- the statement of a stage, until it answered
abbrev pub stage_statement : Stage → Option Statement
stage_statement (Opens items) = Some items.giving.statement
stage_statement Done = None

-- the reply goes on, all that came of it was read, and BindComplete wasn't there
pub record IsOpening (items : Items RowOpening) : Type 0 where
  pub on : items.over ≡ false
  pub empty : items.batch ≡ []
  pub unbound : items.giving.bound ≡ false

-- it hasn't answered at a stage
abbrev pub IsLiveAt : Stage → Type 0
IsLiveAt (Opens items) = IsOpening items
IsLiveAt Done = ⊥

-- where one stands: he asks with these values, or reads the reply
abbrev pub place_so : {P : Type 0} → (P → Params) → Option (StatementAsks P) → Stage → Place RowsGiven
place_so of (Some a) stage = record { dialogue = query_raw (handed a.statement) (of a.values); reads = 0 }
place_so of None stage = stage_place stage

-- what is told first
abbrev pub first_so : {P : Type 0} → Option (StatementAsks P) → Stage → List RawMessage → First (Unit {0}) (Unit {0})
first_so (Some a) stage = asked_first (handed a.statement)
first_so None stage = stage_first stage

-- the statement, until it answered
abbrev pub statement_so : {P : Type 0} → Option (StatementAsks P) → Stage → Option Statement
statement_so (Some a) stage = Some (handed a.statement)
statement_so None stage = stage_statement stage

-- it hasn't answered
abbrev pub IsLiveSo : {P : Type 0} → Option (StatementAsks P) → Stage → Type 0
IsLiveSo (Some a) stage = Unit {0}
IsLiveSo None stage = IsLiveAt stage

-- where a state stands
abbrev pub state_place : {P : Type 0} → (P → Params) → StatementRawState P → Place RowsGiven
state_place of s = place_so of s.asks s.reply.stage

-- what is told first
abbrev pub state_first : {P : Type 0} → StatementRawState P → List RawMessage → First (Unit {0}) (Unit {0})
state_first s = first_so s.asks s.reply.stage

-- its statement, until it answered
abbrev pub state_statement : {P : Type 0} → StatementRawState P → Option Statement
state_statement s = statement_so s.asks s.reply.stage

-- it hasn't answered
abbrev pub IsLiveState : {P : Type 0} → StatementRawState P → Type 0
IsLiveState s = IsLiveSo s.asks s.reply.stage
