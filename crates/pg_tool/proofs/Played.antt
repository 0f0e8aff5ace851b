-- A session that was opened, played and reported.
use Rattle.std.proofs.Common.{ℕ, List, IfOk, Result, Ok, Err}
use Rattle.pg_types.specs.declared.error.Error.{Error}
use Rattle.pg_session.specs.Sessions.{HasPlayed}
use Rattle.pg_promises.specs.ConnectionStrings.{Means}
use Rattle.pg_spec.specs.Links.{LinkView}
use Rattle.pg_spec.specs.Settings.{Settings}
use Rattle.pg_text.specs.declared.command.Command.{Command}
use Rattle.pg_text.specs.declared.report.Report.{Report}
use Rattle.pg_promises.specs.Calls.{Call}
use Rattle.pg_promises.specs.Endings.{EndedWell, IsRun, course_of, replies}
use Rattle.pg_table.specs.KeptApart.{AreKeptApart}
use Rattle.pg_table.proofs.KeptApart.{kept-apart}
use Rattle.pg_spec.specs.RawMessages.{groups}
use Rattle.pg_session.specs.Speeches.{meaning_of}
use Rattle.pg_table.specs.Headlines.{told_in}
use Rattle.pg_table.specs.Table.{table}
use Rattle.pg_tool.specs.Fails.{PlaysWithin}
use Rattle.pg_tool.specs.ReadsOwn.{ReadsOwn}
use Rattle.pg_tool.specs.TableContract.{EndedApart, IsEndedWell, RanApart, session_of, table_result}
use Rattle.pg_tool.proofs.AtTable.{ends-well, is-run}
use Rattle.pg_tool.proofs.Limiting.{map_bytes}
use Rattle.pg_tool.proofs.Owning.{reads_own}

pub played_as : (config : List ℕ) (settings : Settings) (nonce : List ℕ) (scripts : List (List Command)) (given : List ℕ) (limit : ℕ) (before after : LinkView) (r : Result Report Error) →
    Means config settings → IfOk r (PlaysWithin settings nonce scripts given limit before after) →
    IfOk r (λ report. (s : Settings) × Means config s × HasPlayed table s nonce scripts given before after (told_in report))
played_as config settings nonce scripts given limit before after (Err e) means played = tt
played_as config settings nonce scripts given limit before after (Ok report) means played = (settings, means, played.0)

-- and in its turns each request read of its own reply
pub read_own : (config : List ℕ) (settings : Settings) (nonce : List ℕ) (scripts : List (List Command)) (given : List ℕ) (limit : ℕ) (before after : LinkView) (r : Result Report Error) →
    Means config settings → IfOk r (PlaysWithin settings nonce scripts given limit before after) →
    IfOk r (λ report. (s : Settings) × Means config s × ReadsOwn table s nonce scripts given before after (told_in report))
read_own config settings nonce scripts given limit before after (Err e) means played = tt
read_own config settings nonce scripts given limit before after (Ok report) means played =
    (settings, means, reads_own table settings nonce scripts given before after (told_in report) played.0)

-- the main theorem, of what was asked
pub ended_well : (call : Call Command) (settings : Settings) (r : Result Report Error) → Means call.config settings → IfOk r (PlaysWithin settings call.nonce call.scripts call.turns call.limit call.before call.after) →
    IfOk (table_result r) (IsEndedWell call)
ended_well call settings (Err e) means played = tt
ended_well call settings (Ok report) means played = (settings, means, ends-well settings call.nonce call.scripts call.turns call.before call.after (told_in report) played.0)

-- what can be said over every link
pub has_run : (call : Call Command) (settings : Settings) (r : Result Report Error) → IfOk r (PlaysWithin settings call.nonce call.scripts call.turns call.limit call.before call.after) →
    IfOk (table_result r) (IsRun (meaning_of table) call.scripts call.turns)
has_run call settings (Err e) played = tt
has_run call settings (Ok report) played = is-run settings call.nonce call.scripts call.turns call.before call.after (told_in report) played.0

-- ---- and its commands were kept apart

pub ended_apart : (call : Call Command) (r : Result Report Error) → IfOk (table_result r) (IsEndedWell call) → IfOk (table_result r) (EndedApart call)
ended_apart call (Err e) ended = tt
ended_apart call (Ok report) ended = (
  ended.0,
  ended.1,
  map_bytes call.before call.after (λ g t. EndedWell (meaning_of table) (session_of call ended.0 g (told_in report)) t)
      (λ g t. (e : EndedWell (meaning_of table) (session_of call ended.0 g (told_in report)) t) × AreKeptApart e.has_run)
      (λ g t well. (
        well,
        kept-apart call.scripts call.turns report.answers (course_of (told_in report) (replies (session_of call ended.0 g (told_in report))) well.asked) well.has_run,
      )) ended.2,
)

pub ran_apart : (call : Call Command) (r : Result Report Error) → IfOk (table_result r) (IsRun (meaning_of table) call.scripts call.turns) → IfOk (table_result r) (RanApart call)
ran_apart call (Err e) run = tt
ran_apart call (Ok report) run = (run, kept-apart call.scripts call.turns report.answers (course_of (told_in report) (groups run.later) run.asked) run.has_run)
