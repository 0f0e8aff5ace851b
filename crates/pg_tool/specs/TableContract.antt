-- What a session promises, by what the commands of the table mean.
use Rattle.std.specs.Prelude.{◌≡◌, ◌<◌, ℕ, List, length, Result, Ok, Err, IfOk, IfErr, ⊤}
use Rattle.pg_promises.specs.Calls.{Call, apart}
use Rattle.pg_promises.specs.Completeness.{MustEndWell}
use Rattle.pg_promises.specs.Kept.{NoneKeptBack}
use Rattle.pg_promises.specs.Sent.{SentInOrder}
use Rattle.pg_types.specs.declared.error.Error.{Error}
use Rattle.pg_promises.specs.Endings.{EndedWell, IsRun, Report, Session}
use Rattle.pg_table.specs.KeptApart.{AreKeptApart}
use Rattle.pg_promises.specs.Causes.{HasCause, MustRefuse, OfDialogue, Unless, WithSettings}
use Rattle.pg_spec.specs.Faults.{Failure, LimitReached}
use Rattle.pg_spec.specs.Links.{LinkView, OfBytes}
use Rattle.pg_spec.specs.Settings.{Settings}
use Rattle.pg_text.specs.declared.command.Answer.{Answer}
use Rattle.pg_text.specs.declared.command.Command.{Command}
use Rattle.pg_text.specs.declared.report.Report as told
use Rattle.pg_session.specs.Speeches.{meaning_of}
use Rattle.pg_table.specs.Headlines.{told_in}
use Rattle.pg_table.specs.Table.{table}
use Rattle.pg_wire.specs.LinkCalls.{Continues}
use Rattle.pg_session.specs.WholeSession.{IsClosed, LeavesOpen}

-- what a session answers, with the answers of its own commands
abbrev pub TableResult : Type 0
TableResult = Result (Report Answer) Failure

-- the same of what `run_session` answers
abbrev pub table_result : Result told.Report Error → TableResult
table_result (Ok report) = Ok (told_in report)
table_result (Err error) = Err error

-- what a session is asked, with its own commands, and its link before and after
abbrev pub table_call : (config nonce : List ℕ) → List (List Command) → (turns : List ℕ) → (limit : ℕ) → (before after : LinkView) → Call Command
table_call config nonce scripts turns limit before after = record {
  config = config;
  nonce = nonce;
  scripts = scripts;
  turns = turns;
  limit = limit;
  before = before;
  after = after;
}

-- a call that ended with this report, where the server gave these bytes
abbrev pub session_of : Call Command → Settings → List ℕ → Report Answer → Session Command Answer
session_of call s g report = record { settings = s; nonce = call.nonce; scripts = call.scripts; turns = call.turns; given = g; report = report }

-- Where the link tells its bytes, the session was the dialogue of the connection string's settings, and ended well: the main
-- theorem over any commands.
abbrev pub IsEndedWell : Call Command → Report Answer → Type 0
IsEndedWell call report = OfDialogue (apart call) (λ s g t. EndedWell (meaning_of table) (session_of call s g report) t)

-- In a session that ended well so its commands were kept apart.
abbrev pub EndedApart : Call Command → Report Answer → Type 0
EndedApart call report = OfDialogue (apart call) (λ s g t. (ended : EndedWell (meaning_of table) (session_of call s g report) t) × AreKeptApart ended.has_run)

-- the same, over every link
abbrev pub RanApart : Call Command → Report Answer → Type 0
RanApart call report = (run : IsRun (meaning_of table) call.scripts call.turns report) × AreKeptApart run.has_run

-- More bytes than the limit are given only where the session fails for that, and tells how many, or memory lacks.
abbrev pub KeepsLimit : Call Command → TableResult → Type 0
KeepsLimit call result = OfBytes call.before call.after (λ g t. call.limit < length g → Unless (λ failure. failure ≡ LimitReached (length g) call.limit) result)

-- Where a session fails, what was sent is in order by the definition over any commands.
abbrev pub SendsInOrder : Call Command → TableResult → Type 0
SendsInOrder call (Ok report) = ⊤
SendsInOrder call (Err failure) = WithSettings (apart call) (λ s. ⊤) → OfDialogue (apart call) (λ s g t. SentInOrder (meaning_of table) call s g t)

-- What a session promises of what was asked and of its answer, by what the commands of the table mean.
pub record TableContract (call : Call Command) (result : TableResult) : Type 0 where
  -- where it answers Ok, the main theorem, and what can be said of it over every link
  pub ended_well : IfOk result (IsEndedWell call)
  pub has_run : IfOk result (IsRun (meaning_of table) call.scripts call.turns)
  -- and its commands were kept apart
  pub kept_apart : IfOk result (EndedApart call)
  pub kept_apart_over_any_link : IfOk result (RanApart call)
  -- and all that the link took is flushed, and it is shut down; where it fails, it isn't shut down before Terminate was flushed
  pub closed : IfOk result (λ report. IsClosed call.before call.after)
  pub stays_open : IfErr result (LeavesOpen call.before call.after)
  -- the link went on from where it stood
  pub link : Continues call.before call.after
  -- each failure has its cause
  pub cause : IfErr result (HasCause (apart call))
  pub limit : KeepsLimit call result
  -- where it fails, what it sent
  pub sent : SendsInOrder call result
  pub none_kept_back : NoneKeptBack (meaning_of table) call result
  pub must_end_well : MustEndWell call result
  -- what is refused before any byte, exactly there: the string's first fault, no user, a nonce out of form, TLS that begins at once
  pub must_refuse : MustRefuse (apart call) result
