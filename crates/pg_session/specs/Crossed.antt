-- What crossed the link in a session that ended.
use Rattle.std.specs.Prelude.{◌≡◌, ◌≢◌, ℕ, ◌≤◌, ◌++◌, IsTrue, IsFalse, List, length, map, Some, EachIndex}
use Rattle.std.specs.List.{concat, list_all}
use Rattle.pg_spec.specs.Book.{wire}
use Rattle.pg_spec.specs.Asides.{is_readable}
use Rattle.pg_spec.specs.Settings.{Settings, Require}
use Rattle.pg_promises.specs.Endings.{Report, Session, received, startup_of, startup_messages, later_messages, replies}
use Rattle.pg_spec.specs.Frames.{terminate_frame}
use Rattle.pg_spec.specs.Parameters.{AreLastValues, parameter_reports}
use Rattle.pg_spec.specs.RawMessages.{bytes_left, has_bad_header, is_whole_group, sync_of, async_of}
use Rattle.pg_spec.specs.Report.{async_of_raw}
use Rattle.pg_spec.specs.Startup.{Done, cancel_key}
use Rattle.pg_spec.specs.Turns.{delivered_before, delivered_after}

-- the session that was played, where the server gave these bytes
abbrev pub session_of : {C A : Type 0} → (settings : Settings) (nonce : List ℕ) (scripts : List (List C)) (given : List ℕ) (report : Report A) (g : List ℕ) → Session C A
session_of settings nonce scripts given report g = record { settings = settings; nonce = nonce; scripts = scripts; turns = given; given = g; report = report }

-- What the client sent in a session, and that no more was delivered than came, in the words of the main theorem.
pub record Sent {C A : Type 0} (s : Session C A) (taken : List ℕ) : Type 0 where
  pub no_tls : s.settings.ssl_mode ≢ Require
  pub started : (used : ℕ) × ((startup_of s).outcome ≡ Done used)
  pub sent : taken ≡ concat (startup_of s).frames ++ wire s.report.book ++ terminate_frame
  pub reported : s.report.sent ≡ taken
  pub delivered_front : EachIndex s.report.trace (λ place. delivered_after s.report.trace place ≤ length (sync_of (later_messages s)))

-- what crossed the link, both ways, in the words of the main theorem
pub record Crossed {C A : Type 0} (s : Session C A) (taken : List ℕ) : Type 0 where
  pub sends : Sent s taken
  pub one_group_each : length (replies s) ≡ length s.report.book
  pub whole_groups : IsTrue (list_all is_whole_group (replies s))
  pub no_bad_header : IsFalse (has_bad_header (bytes_left s.given))
  pub delivered_all : delivered_before s.report.trace (length s.report.trace) ≡ length (sync_of (later_messages s))
  pub readable : IsTrue (list_all is_readable (received s))
  pub asynchronous : map (λ m. Some m) s.report.asynchronous ≡ map async_of_raw (async_of (startup_messages s ++ later_messages s))
  pub parameters : AreLastValues (parameter_reports (received s)) s.report.parameters
  pub key : (s.report.process_id, s.report.secret_key) ≡ cancel_key (startup_messages s)
