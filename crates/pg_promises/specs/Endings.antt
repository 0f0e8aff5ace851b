-- The main theorem over any commands: what a session that ended well did.
use Rattle.std.specs.Prelude.{◌≡◌, ◌≢◌, ℕ, ◌≤◌, IsTrue, IsFalse, List, ◌++◌, length, map, Some, EachIndex, ℤ}
use Rattle.std.specs.List.{concat, list_all}
use Rattle.pg_spec.specs.Asides.{is_readable}
use Rattle.pg_spec.specs.Book.{Booking, wire}
use Rattle.pg_spec.specs.Frames.{terminate_frame}
use Rattle.pg_spec.specs.Parameters.{AreLastValues, parameter_reports}
use Rattle.pg_spec.specs.RawMessages.{RawMessage, messages, bytes_left, has_bad_header, groups, is_whole_group, sync_of, async_of}
use Rattle.pg_spec.specs.Report.{AsyncMessage, async_of_raw}
use Rattle.pg_spec.specs.Settings.{Settings, Require}
use Rattle.pg_spec.specs.Startup.{Startup, Done, startup, startup_part, session_part, cancel_key}
use Rattle.pg_spec.specs.declared.stamps.TurnMark.{TurnMark}
use Rattle.pg_spec.specs.Turns.{delivered_before, delivered_after}
use Rattle.pg_spec.specs.Courses.{Asked, Course}
use Rattle.pg_spec.specs.Meanings.{Meaning, HasRun}

-- what a session reports
pub record Report (A : Type 0) : Type 0 where
  pub answers : List (List A)
  pub asynchronous : List AsyncMessage
  pub parameters : List (List ℕ × List ℕ)
  pub process_id : ℤ
  pub secret_key : ℤ
  pub book : List Booking
  pub trace : List TurnMark
  pub sent : List ℕ

-- a session: what was asked, the bytes that the server gave, and the report
pub record Session (C A : Type 0) : Type 0 where
  pub settings : Settings
  pub nonce : List ℕ
  pub scripts : List (List C)
  pub turns : List ℕ
  pub given : List ℕ
  pub report : Report A

-- the server's messages
abbrev pub received : {C A : Type 0} → Session C A → List RawMessage
received s = messages s.given

-- the startup dialogue
abbrev pub startup_of : {C A : Type 0} → Session C A → Startup
startup_of s = startup s.settings s.nonce (received s)

-- the messages of the startup, up to its ReadyForQuery
abbrev pub startup_messages : {C A : Type 0} → Session C A → List RawMessage
startup_messages s = startup_part s.settings s.nonce (received s)

-- the messages behind it
abbrev pub later_messages : {C A : Type 0} → Session C A → List RawMessage
later_messages s = session_part s.settings s.nonce (received s)

-- the server's replies: group k answers request k
abbrev pub replies : {C A : Type 0} → Session C A → List (List RawMessage)
replies s = groups (later_messages s)

-- what a report tells of a session's course, where these were the replies and this was asked of the desk
abbrev pub course_of : {A Q R : Type 0} → Report A → List (List RawMessage) → List (Asked Q R) → Course Q R
course_of report replies asked = record { trace = report.trace; book = report.book; replies = replies; asked = asked }

-- What can be said of a session without its bytes: behind its startup some messages came, one whole group to each request, and all
-- were delivered; by these its commands did what they mean.
pub record IsRun {C A E Q R : Type 0} (meaning : Meaning C A E Q R) (scripts : List (List C)) (turns : List ℕ) (report : Report A) : Type 0 where
  pub later : List RawMessage
  pub asked : List (Asked Q R)
  pub has_run : HasRun meaning scripts turns report.answers (course_of report (groups later) asked)
  pub one_group_each : length (groups later) ≡ length report.book
  pub whole_groups : IsTrue (list_all is_whole_group (groups later))
  pub delivered_all : delivered_before report.trace (length report.trace) ≡ length (sync_of later)

-- What a session that ended well did, whatever its turns and however the bytes were cut.
pub record EndedWell {C A E Q R : Type 0} (meaning : Meaning C A E Q R) (s : Session C A) (taken : List ℕ) : Type 0 where
  -- its commands did what they mean, by the server's replies
  pub asked : List (Asked Q R)
  pub has_run : HasRun meaning s.scripts s.turns s.report.answers (course_of s.report (replies s) asked)
  -- No TLS is required. The startup is done, and behind it come whole groups, one for each request.
  pub no_tls : s.settings.ssl_mode ≢ Require
  pub started : (used : ℕ) × ((startup_of s).outcome ≡ Done used)
  pub one_group_each : length (replies s) ≡ length s.report.book
  pub whole_groups : IsTrue (list_all is_whole_group (replies s))
  -- no header in what was given has a length below 4
  pub no_bad_header : IsFalse (has_bad_header (bytes_left s.given))
  -- It sent the startup's frames, each request whole, in booking order, and Terminate.
  pub sent : taken ≡ concat (startup_of s).frames ++ wire s.report.book ++ terminate_frame
  pub reported : s.report.sent ≡ taken
  -- At each turn a front of the synchronous messages is delivered; in the end all are.
  pub delivered_front : EachIndex s.report.trace (λ place. delivered_after s.report.trace place ≤ length (sync_of (later_messages s)))
  pub delivered_all : delivered_before s.report.trace (length s.report.trace) ≡ length (sync_of (later_messages s))
  -- What no request asked for: each message of it can be read, so none was skipped; notices and notifications
  -- complete and in order, the last parameters, the key.
  pub readable : IsTrue (list_all is_readable (received s))
  pub asynchronous : map (λ m. Some m) s.report.asynchronous ≡ map async_of_raw (async_of (startup_messages s ++ later_messages s))
  pub parameters : AreLastValues (parameter_reports (received s)) s.report.parameters
  pub key : (s.report.process_id, s.report.secret_key) ≡ cancel_key (startup_messages s)
