-- What a session of simple queries alone promises, by what was asked.
use Rattle.std.specs.Prelude.{◌≡◌, ◌<◌, ℕ, List, length, Result, Ok, Err, IfOk, IfErr, ⊤}
use Rattle.pg_promises.specs.Causes.{Call, HasCause, MustRefuse, OfDialogue, Unless, WithSettings}
use Rattle.pg_spec.specs.Links.{OfBytes}
use Rattle.pg_types.specs.declared.error.Error.{Error}
use Rattle.pg_text.specs.Views.{as_answers, simple_report}
use Rattle.pg_text.specs.declared.report.Report as told
use Rattle.pg_promises.specs.EndedWell.{Session, HasRun, EndedWell}
use Rattle.pg_spec.specs.Faults.{Failure, LimitReached}
use Rattle.pg_promises.specs.Promises.{MustEndWell, NoneKeptBack, SentInOrder}
use Rattle.pg_spec.specs.Report.{Answer, Report}
use Rattle.pg_spec.specs.Settings.{Settings}
use Rattle.pg_spec.specs.Turns.{Times}
use Rattle.pg_wire.specs.LinkCalls.{Continues}
use Rattle.pg_session.specs.WholeSession.{IsClosed, LeavesOpen}

-- what a session answers
abbrev pub SessionResult : Type 0
SessionResult = Result Report Failure

-- it tells what `run_session` answered, whose answers are those of simple queries
abbrev pub IsSaidSo : Result told.Report Error → SessionResult → Type 0
IsSaidSo (Ok report) (Ok simple) = (answers : List (List Answer)) × (report.answers ≡ as_answers answers) × (simple ≡ simple_report report answers)
IsSaidSo (Err error) (Err failure) = failure ≡ error
IsSaidSo _ _ = ⊥

-- What `run_session` answered is told in the words of simple queries, and this holds of that.
pub record ToldSimply (result : Result told.Report Error) (P : SessionResult → Type 0) : Type 0 where
  pub simple : SessionResult
  pub said_so : IsSaidSo result simple
  pub holds : P simple

-- a call that ended with this report, where the server gave these bytes
abbrev pub session_of : Call → Settings → List ℕ → Report → Session
session_of call s g report = record { settings = s; nonce = call.nonce; scripts = call.scripts; turns = call.turns; given = g; report = report }

-- Where the link tells its bytes, the session was the dialogue of the connection string's settings, and ended
-- well: the main theorem.
abbrev pub IsEndedWell : Call → Report → Type 0
IsEndedWell call report = OfDialogue call (λ s g t. EndedWell (session_of call s g report) t)

-- More bytes than the limit are given only where the session fails for that, and tells how many, or memory lacks.
abbrev pub KeepsLimit : Call → SessionResult → Type 0
KeepsLimit call result = OfBytes call.before call.after (λ g t. call.limit < length g → Unless (λ failure. failure ≡ LimitReached (length g) call.limit) result)

-- what can be said of it over every link
abbrev pub IsRun : Call → Report → Type 0
IsRun call report = (schedule : List (List Times)) × HasRun call.scripts call.turns report schedule

-- Where a session fails, what was sent is in order: nothing, or a front of the SSLRequest where TLS is required, or, where it
-- isn't, of what the startup writes, or, once that is done, of it, of requests in script order, and of Terminate. A
-- connection string that means nothing has no startup.
abbrev pub SendsInOrder : Call → SessionResult → Type 0
SendsInOrder call (Ok report) = ⊤
SendsInOrder call (Err failure) = WithSettings call (λ s. ⊤) → OfDialogue call (λ s g t. SentInOrder call s g t)

-- What a session of simple queries promises of what was asked and of its answer.
pub record SessionContract (call : Call) (result : SessionResult) : Type 0 where
  -- where it answers Ok, the main theorem
  pub ended_well : IfOk result (IsEndedWell call)
  pub has_run : IfOk result (IsRun call)
  -- and all that the link took is flushed, and it is shut down; where it fails, it isn't shut down before Terminate was flushed
  pub closed : IfOk result (λ report. IsClosed call.before call.after)
  pub stays_open : IfErr result (LeavesOpen call.before call.after)
  -- the link went on from where it stood
  pub link : Continues call.before call.after
  -- each failure has its cause
  pub cause : IfErr result (HasCause call)
  pub limit : KeepsLimit call result
  pub sent : SendsInOrder call result
  pub none_kept_back : NoneKeptBack call result
  pub must_end_well : MustEndWell call result
  -- what is refused before any byte, exactly there: the string's first fault, no user, a nonce out of form, TLS that begins at once
  pub must_refuse : MustRefuse call result
