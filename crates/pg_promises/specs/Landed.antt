-- A session of simple queries alone, in the words of the theorem on these.
use Rattle.std.specs.Prelude.{◌≡◌, ℕ, List, Option, Some}
use Rattle.pg_spec.specs.Book.{bookings_of, request_of}
use Rattle.pg_spec.specs.Report as said
use Rattle.pg_spec.specs.Report.{Command, Simple, Answer, simple_answer}
use Rattle.pg_spec.specs.SimpleQuery.{SimpleAnswer}
use Rattle.pg_spec.specs.Turns.{IsFirstTurn, Times}
use Rattle.pg_promises.specs.EndedWell as landed
use Rattle.pg_spec.specs.Courses.{Asked, Course}
use Rattle.pg_spec.specs.Simples.{Simply}
use Rattle.pg_promises.specs.Endings.{Report, Session}

-- each command is a simple query
abbrev pub simple_of : Command → Option (List ℕ × Option ℕ)
simple_of (Simple text take) = Some (text, take)

-- and its answer is told so
abbrev pub simply : Simply Command Answer
simply = record { simple = simple_of; said = simple_answer }

-- the same report
abbrev pub report_of : Report Answer → said.Report
report_of r = record {
  answers = r.answers;
  asynchronous = r.asynchronous;
  parameters = r.parameters;
  process_id = r.process_id;
  secret_key = r.secret_key;
  book = r.book;
  trace = r.trace;
  sent = r.sent;
}

-- the same session
abbrev pub session_of : Session Command Answer → landed.Session
session_of s = record { settings = s.settings; nonce = s.nonce; scripts = s.scripts; turns = s.turns; given = s.given; report = report_of s.report }

-- its course, where this was asked of the desk
abbrev pub course_of : {Q R : Type 0} → landed.Session → List (Asked Q R) → Course Q R
course_of s asked = record { trace = s.report.trace; book = s.report.book; replies = landed.replies s; asked = asked }

-- What `EndedWell` says of one simple query: its one request, its answer, and the turn in which it answers.
pub record IsAsLanded (s : landed.Session) (handle place : ℕ) (text : List ℕ) (take : Option ℕ) (times : Times) (answer : SimpleAnswer) : Type 0 where
  pub own_request : bookings_of s.report.book handle place ≡ landed.own_requests handle place (Simple text take) times
  pub answers : Some (simple_answer answer) ≡ landed.answer_of s (Simple text take) (request_of s.report.book handle place)
  pub answers_in_turn : IsFirstTurn s.report.trace handle times.begins (landed.IsDecided s (Simple text take) (request_of s.report.book handle place)) times.answers
