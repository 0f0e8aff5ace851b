-- What is asked and answered where a portal is bound, its rows are queried, and it is closed (PostgreSQL documentation, "Extended Query").
use Rattle.std.specs.Prelude.{ℕ, ℤ, List, length, Bool, true, false, Option, None, Result, Ok, Err, if◌then◌else◌}
use Rattle.pg_spec.specs.Faults.{Parse, UnexpectedMessage, Wire}
use Rattle.pg_spec.specs.Messages as message
use Rattle.pg_spec.specs.Messages.{message_of}
use Rattle.pg_spec.specs.RawMessages.{RawMessage}
use Rattle.pg_spec.specs.Readings.{Next, Answers}
use Rattle.pg_spec.specs.SimpleQuery.{server_error}
use Rattle.pg_types.specs.declared.error.Error.{Error}
use Rattle.pg_desk.specs.declared.statement.Described.{Described}
use Rattle.pg_query.specs.declared.desk_call.DeskCall.TheVariants.{NextPortal}
use Rattle.pg_query.specs.Dialogue.{Dialogue, Answer}
use Rattle.pg_query.specs.Reading.{reads}
use Rattle.pg_core.specs.Composing.{asks_desk, asks_for}
use Rattle.pg_core.specs.Numbers.{number_told}
use Rattle.pg_core.specs.QueryReplies.{told_by}
use Rattle.pg_core.specs.Sequences.{then_do}
use Rattle.pg_execute.specs.Executes.{close_part, posts_before, sends, whole_rows}
use Rattle.pg_execute.specs.Parameters.{Params}
use Rattle.pg_execute.specs.Rows.{rows_read}
use Rattle.pg_execute.specs.Targets.{on_closing}
use Rattle.pg_execute.specs.Typed.{columns_came}
use Rattle.pg_execute.specs.declared.closes.Closing.TheVariants.{AtError}
use Rattle.pg_execute.specs.declared.how_many.HowMany.TheVariants.{Any}
use Rattle.pg_execute.specs.declared.result_set.ResultSet.{ResultSet}
use Rattle.pg_execute.specs.declared.target.Target.{Target}
use Rattle.pg_execute.specs.declared.target.Target.TheVariants.{Statement, Owned}
use Rattle.pg_portals.specs.Requests.{bind_request, close_portal_request, portal_request}
use Rattle.pg_portals.specs.declared.portal.Portal.{Portal}

-- ---- a portal is bound

-- asks for the next number, and answers it
abbrev pub draws_portal : Dialogue ℕ
draws_portal = asks_desk NextPortal number_told

-- the portal of a number
abbrev pub portal_of : (closes : Bool) → Described → (n : ℕ) → Portal
portal_of closes s n = record { number = n; statement = s; closes = closes }

-- what a message does: it was bound, or it is an error
abbrev pub bound_by : Portal → message.Message → Next Portal (Result Portal Error)
bound_by p (message.ErrorResponse fields) = Answers (Err (server_error fields))
bound_by p message.BindComplete = Answers (Ok p)
bound_by p other = Answers (Err UnexpectedMessage)

-- the same of a message that may be malformed
abbrev pub bound_next : Portal → RawMessage → Next Portal (Result Portal Error)
bound_next p raw = elim (message_of raw) [
  | Ok m ↦ bound_by p m
  | Err fault ↦ Answers (Err (Parse (Wire fault)))
]

-- the reply
abbrev pub bound : Portal → List RawMessage → Option (Result Portal Error)
bound = told_by bound_next

-- a portal is bound to these values, and the request is hung up then
abbrev pub asks_bind : Params → Portal → Dialogue Portal
asks_bind vs p = asks_for (bind_request p.number p.statement vs) (reads true (bound p))

-- A number is drawn, whatever the values are. Then the statement is bound to them, under the name that the number gives.
abbrev pub binds : (closes : Bool) → Params → Described → Dialogue Portal
binds closes vs s = then_do draws_portal (λ n. asks_bind vs (portal_of closes s n))

-- ---- of a target

-- its statement stands for this portal alone, and is closed with it
abbrev pub is_text : Target → Bool
is_text (Statement s) = false
is_text (Owned s) = false
is_text _ = true

-- bind: a portal of a statement or a text, with these values. The statement of a text is closed where that fails, and else with the portal.
abbrev pub bind : (prepares : List ℕ → Dialogue Described) → Target → Params → Dialogue Portal
bind prepares target vs = on_closing AtError prepares (binds (is_text target) vs) target

-- ---- its rows

-- query_portal: so many of the rows that are left, all of them for 0. BindComplete came before.
abbrev pub query_portal : Portal → (max_rows : ℤ) → Dialogue ResultSet
query_portal p max_rows =
    asks_for (portal_request p.number max_rows) (reads false (rows_read Any (length p.statement.columns) (whole_rows p.statement) columns_came))

-- ---- its end

-- what is closed with it: the statement of the text that it was bound from
abbrev pub closed_with : Portal → Option (List ℕ)
closed_with p = if p.closes then close_part p.statement.name else None

-- close_portal: Close and Sync are sent for it, and then for its statement where it was bound from a text. Nobody reads the replies.
abbrev pub close_portal : Portal → Dialogue (Unit {0})
close_portal p = then_do (sends (close_portal_request p.number)) (λ x. posts_before (closed_with p) (Ok x))
