-- Executions are commands that a session takes.
use Rattle.std.proofs.Common.{◌≡◌, ℕ, List, [], length, true, false, Option, Some, None, Result, Ok, Err, refl}
use Rattle.pg_types.specs.declared.error.Error.{Error}
use Rattle.pg_types.specs.declared.error.Error.TheVariants.{OutOfMemory}
use Rattle.pg_desk.specs.declared.statement.Described.{Described as Statement}
use Rattle.pg_query.specs.Dialogue.{Dialogue}
use Rattle.pg_query.specs.Reading.{reads}
use Rattle.pg_core.specs.Times.{EndsNone, LacksMemory}
use Rattle.pg_session.specs.Speeches.{IsWholeRequest}
use Rattle.pg_core.specs.Composing.{or_encode}
use Rattle.pg_core.specs.Lookups.{prepare}
use Rattle.pg_execute.specs.Counts.{count_read, nothing_counted}
use Rattle.pg_execute.specs.Executes.{close, close_part, close_request, closed_by, execute, executes, first_queried, on_text, posts, posts_before, queried, query, query_raw, query_scalar, scalars, sends, whole_rows}
use Rattle.pg_execute.specs.Parameters.{Params, execute_request}
use Rattle.pg_execute.specs.Rows.{nothing_got}
use Rattle.pg_execute.specs.Values.{value_of}
use Rattle.pg_execute.specs.declared.got.Got.{Got}
use Rattle.pg_execute.specs.declared.how_many.HowMany.{HowMany}
use Rattle.pg_execute.specs.declared.how_many.HowMany.TheVariants.{Any}
use Rattle.pg_query_laws.specs.Taken.{IsTaken}
use Rattle.pg_query_laws.proofs.Commands.{preparing-text}
use Rattle.pg_query_laws.proofs.ExecutionReadings.{reads-count, reads-first-rows, reads-rows}
use Rattle.pg_query_laws.proofs.ExecutionRequests.{whole-close, whole-closing, whole-execution}
use Rattle.pg_query_laws.proofs.Requests.{made-ok}
use Rattle.pg_query_laws.proofs.Taken.{answers, behinds, booked, sent-before, thens}

-- ---- a statement

-- a query, of whose rows something is made
querying : {A : Type 0} (how : HowMany) (makes : Statement → Got → Result A Error) (s : Statement) (vs : Params) → IsTaken (executes false (queried how makes s) s vs)
querying how makes s vs = booked (execute_request s vs) (reads false (queried how makes s)) (whole-execution s vs) (reads-rows how (length s.columns) (makes s) nothing_got)

pub queries-taken : (how : HowMany) (s : Statement) (vs : Params) → IsTaken (query how s vs)
queries-taken how s vs = querying how whole_rows s vs

pub raw-queries-taken : (take : ℕ) (s : Statement) (vs : Params) → IsTaken (query_raw take s vs)
raw-queries-taken take s vs = booked (execute_request s vs) (reads true (first_queried take whole_rows s)) (whole-execution s vs) (reads-first-rows take Any (length s.columns) (whole_rows s) nothing_got)

pub scalars-taken : (how : HowMany) (s : Statement) (vs : Params) → IsTaken (query_scalar how s vs)
scalars-taken how s vs = querying how (scalars value_of) s vs

pub executes-taken : (s : Statement) (vs : Params) → IsTaken (execute s vs)
executes-taken s vs = booked (execute_request s vs) (reads false (count_read nothing_counted)) (whole-execution s vs) (reads-count nothing_counted)

-- ---- a text

-- what is sent before an answer
pub posting : {T : Type 0} (part : Option (List ℕ)) (r : Result T Error) → ((x : List ℕ) → part ≡ Some x → IsWholeRequest x) → IsTaken (posts_before part r)
posting None r whole = answers r
posting (Some part) r whole = sent-before part r (whole part refl)

pub posting-lacks : {T : Type 0} (part : Option (List ℕ)) (r : Result T Error) → r ≡ Err OutOfMemory → LacksMemory (posts_before part r)
posting-lacks None r is = is
posting-lacks (Some part) r is = (refl, is)

pub posts-end-none : (part : Option (List ℕ)) → EndsNone (posts part)
posts-end-none None = tt
posts-end-none (Some part) = tt

-- a request that is sent
pub sending : (request : Result (List ℕ) Error) → ((x : List ℕ) → request ≡ Ok x → IsWholeRequest x) → IsTaken (sends request)
sending (Err e) whole = answers (Err e)
sending (Ok part) whole = sent-before part (Ok tt) (whole part refl)

-- a statement is closed
pub closes-taken : (s : Statement) → IsTaken (close s)
closes-taken s = sending (or_encode (close_request s.name)) (λ part e. whole-closing s.name part (made-ok (close_request s.name) part e))

closing : {T : Type 0} (name : List ℕ) (d : Dialogue T) → IsTaken d → IsTaken (closed_by (close_part name) d)
closing name d h = behinds (posts (close_part name)) (posts-end-none (close_part name)) d (posts_before (close_part name)) h (λ r. posting (close_part name) r (whole-close name)) (posting-lacks (close_part name))

pub on-text : {T : Type 0} (text : List ℕ) (body : Statement → Dialogue T) → ((s : Statement) → IsTaken (body s)) → IsTaken (on_text (prepare text []) body)
on-text text body h = thens (prepare text []) (λ s. closed_by (close_part s.name) (body s)) (preparing-text text []) (λ s. closing s.name (body s) (h s))
