-- Sessions over a server: pipelined equals one at a time (PostgreSQL documentation, "Message Flow": "Pipelining").
use Rattle.std.specs.Prelude.{◌≡◌, ℕ, List, ◌++◌, map, Some}
use Rattle.std.specs.List.{AllByRecursion}
use Rattle.pg_promises.specs.EndedWell.{Session, replies, answer_of}
use Rattle.pg_spec.specs.Book.{Booking, request_of}
use Rattle.pg_spec.specs.RawMessages.{sync_of}
use Rattle.pg_spec.specs.Report.{Command}
use Rattle.pg_spec.specs.Turns.{entry_at}
use Rattle.pg_machine.specs.Serving.{Service, joined}
use Rattle.pg_machine.specs.Requests.{IsReply, OnlyCopiesOpen}
use Rattle.pg_machine.specs.Sessions.{AreRequests, alone, begun, frames_of, spoken}

-- Each booking is the whole frames of one request, and no request but a copy's opens a copy of this server.
pub record AsksInRequests {S : Type 0} (service : Service S) (begins : S) (book : List Booking) : Type 0 where
  pub requests : AreRequests book
  pub only_copies_open : OnlyCopiesOpen service (begun begins) (map frames_of book)

-- the session, if its server gave its startup and then a reply to each request, fed one at a time
abbrev pub fed_alone : {S : Type 0} → Service S → S → (startup : List ℕ) → Session → Session
fed_alone service begins startup s = record s { given = startup ++ spoken (joined (alone service begins s.report.book)) }

-- A session in which the server's replies are those that it gives where it is fed one request at a time.
pub record IsOneAtATime {S : Type 0} (service : Service S) (begins : S) (startup : List ℕ) (s : Session) : Type 0 where
  -- group k is the reply to request k, but for notices, notifications and parameter reports
  pub groups : replies s ≡ map sync_of (alone service begins s.report.book)
  -- and each of these replies is ended by its only ReadyForQuery
  pub each : AllByRecursion IsReply (alone service begins s.report.book)
  -- so each answer is the one that these replies give
  pub answers : (handle place : ℕ) (command : Command) → entry_at s.scripts handle place ≡ Some command →
      entry_at s.report.answers handle place ≡ answer_of (fed_alone service begins startup s) command (request_of s.report.book handle place)
