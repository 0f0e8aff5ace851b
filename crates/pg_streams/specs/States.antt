-- Where the state of a query stands whose rows are given one by one.
use Rattle.std.specs.Prelude.{◌≡◌, ℕ, List, Option, Some, None, Result, Err}
use Rattle.pg_spec.specs.RawMessages.{RawMessage}
use Rattle.pg_types.specs.declared.error.Error.{Error}
use Rattle.pg_types.specs.declared.error.Error.TheVariants.{Closed}
use Rattle.pg_execute.specs.Parameters.{Params}
use Rattle.pg_desk.specs.declared.statement.Described.{Described}
use Rattle.pg_query.specs.Dialogue.{Dialogue, Answer}
use Rattle.pg_query.specs.Meaning.{Place}
use Rattle.pg_execute.specs.Executes.{close_part, closed_by, on_text}
use Rattle.pg_states.specs.Texts.{prepare_text}
use Rattle.pg_execute.specs.declared.target.Target.{Target}
use Rattle.pg_execute.specs.declared.target.Target.TheVariants.{Query, OwnedQuery, Statement, Owned}
use Rattle.pg_streams.specs.Handing.{nothing_to_find}
use Rattle.pg_streams.specs.Hearing.{First}
use Rattle.pg_streams.specs.RowStates.{IsLiveState, asked_first, state_first, state_place, state_statement}
use Rattle.pg_streams.specs.RowStreams.{RowsGiven, query_raw}
use Rattle.pg_streams.specs.declared.query_raw.StatementRawState.{StatementRawState}
use Rattle.pg_streams.specs.declared.raw.TextAsks.{TextAsks}

-- the statement that is handed in, if one is
abbrev pub statement_in : Target → Option Described
statement_in (Query text) = None
statement_in (OwnedQuery text) = None
statement_in (Statement s) = Some s.now
statement_in (Owned s) = Some s

-- ---- a text

-- what is asked and answered with these values for the statement that it answered: it is queried, and closed behind that
abbrev pub queried_and_closed : Params → Described → Dialogue RowsGiven
queried_and_closed vs s = closed_by (close_part s.name) (query_raw s vs)

-- where one stands who queries it with these values, and whose prepare stands there
abbrev pub text_place : Place Described → Params → Place RowsGiven
text_place p vs = record { dialogue = on_text p.dialogue (λ s. query_raw s vs); reads = p.reads }

-- What is found out of a text: the statement that its prepare answers. By that one asks to query it and to close it behind that, and what is told first is what
-- opens the rows of that statement.
pub record FindsText (text : List ℕ) (vs : Params) (finding : Place Described) (asks : Described → Dialogue RowsGiven) (first : Described → List RawMessage → First (Unit {0}) (Unit {0})) : Type 0 where
  pub found : finding.dialogue ≡ prepare_text text
  pub asked : (k : Described) → asks k ≡ queried_and_closed vs k
  pub opens : (k : Described) → first k ≡ asked_first k

-- the same of what is handed in: of a statement nothing is to be found out, and what is told first is what opens its rows
abbrev pub FindsIn : Target → Params → Place Described → (asks : Described → Dialogue RowsGiven) → (first : Described → List RawMessage → First (Unit {0}) (Unit {0})) → Type 0
FindsIn (Query text) vs finding asks first = FindsText text.now vs finding asks first
FindsIn (OwnedQuery text) vs finding asks first = FindsText text vs finding asks first
FindsIn (Statement s) vs finding asks first = first ≡ (λ k. asked_first s.now)
FindsIn (Owned s) vs finding asks first = first ≡ (λ k. asked_first s)

-- ---- a state

-- where one stands: at the prepare of a text, or at the query
abbrev pub place_so : {A P : Type 0} → (A → Place Described) → (P → Params) → Option (TextAsks A P) → StatementRawState P → Place RowsGiven
place_so place of (Some t) query = text_place (place t.prepare) (of t.values)
place_so place of None query = state_place of query

-- the statement: none before a text is prepared, and none once it answered
abbrev pub statement_so : {A P : Type 0} → Option (TextAsks A P) → StatementRawState P → Option Described
statement_so (Some t) query = None
statement_so None query = state_statement query

-- what is asked and answered once this is the statement
abbrev pub asks_so : {A P : Type 0} → (P → Params) → Option (TextAsks A P) → StatementRawState P → Described → Dialogue RowsGiven
asks_so of (Some t) query = queried_and_closed (of t.values)
asks_so of None query = λ k. (state_place of query).dialogue

-- where one stands who finds out the statement of a text
abbrev pub finding_so : {A P : Type 0} → (A → Place Described) → Option (TextAsks A P) → Place Described
finding_so place (Some t) = place t.prepare
finding_so place None = nothing_to_find

-- what is told first then
abbrev pub first_so : {A P : Type 0} → Option (TextAsks A P) → StatementRawState P → Described → List RawMessage → First (Unit {0}) (Unit {0})
first_so (Some t) query = asked_first
first_so None query = λ k. state_first query

-- it hasn't answered; while a text is prepared the query asks nothing
abbrev pub IsLiveSo : {A P : Type 0} → (A → Type 0) → Option (TextAsks A P) → StatementRawState P → Type 0
IsLiveSo is_live (Some t) query = is_live t.prepare × (query.asks ≡ None)
IsLiveSo is_live None query = IsLiveState query
