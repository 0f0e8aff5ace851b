-- Worked sessions.
use Rattle.std.specs.Prelude.{ℕ, List, [], ◌∷◌, ◌++◌, false, Some, None, Result, Ok, Err, codes, decimal}
use Rattle.pg_spec.specs.Book.{Booking}
use Rattle.pg_spec.specs.Faults.{FrameFault}
use Rattle.pg_spec.specs.Frames.{query_frame, flush_frame, sync_frame, copy_data_frame}
use Rattle.pg_spec.specs.RawMessages.{RawMessage}
use Rattle.pg_spec.specs.SimpleQuery.{Complete}
use Rattle.pg_spec.specs.Stamps.{stamped, marked}
use Rattle.pg_spec.specs.declared.stamps.TurnMark.{TurnMark}
use Rattle.pg_spec.specs.Courses.{Asked, Course}
use Rattle.pg_spec.specs.Meanings.{HasRun}
use Rattle.pg_promises.specs.Words.{Question, NextStatement, TypeOf, SetType, Told, Number, Named}
use Rattle.pg_promises.specs.Replies.{ready, complete, error, column, columns, row, describes, no_data, bound, copy_in_response}
use Rattle.pg_promises.specs.Rows.{Command, Simple, Prepare, Query, CopyIn, Begin, Commit, Answer, Messages, Prepared, Rows, Count, Failed, Statement, Own, meaning, prepare_request, run_request, lookup_request, ending}

-- a session: its scripts, the turns that were given, the answers, and its course
pub record Session : Type 0 where
  pub scripts : List (List Command)
  pub turns : List ℕ
  pub answers : List (List Answer)
  pub course : Course Question Told

-- its commands did what they mean
abbrev pub IsRight : Session → Type 0
IsRight s = HasRun meaning s.scripts s.turns s.answers s.course

-- a request that can be written
abbrev pub frame : Result (List ℕ) FrameFault → List ℕ
frame (Ok bytes) = bytes
frame (Err fault) = []

-- it was booked by a command of a handle in a turn
abbrev pub booked : (owner command turn : ℕ) → List (List ℕ) → Booking
booked owner command turn parts = record { stamp = stamped owner command turn; parts = parts }

-- a question of one, and what it was told
abbrev pub asked : (owner command turn : ℕ) → Question → Told → Asked Question Told
asked owner command turn question reply = record { stamp = stamped owner command turn; question = question; reply = reply }

-- ---- a statement is prepared, and queried by its slot

-- the request that prepares its text
abbrev pub prepare_q : List ℕ
prepare_q = frame (prepare_request 0 (codes "q"))

-- the first statement, whose columns have these types
abbrev pub s0 : List (List ℕ) → Statement
s0 types = record { name = codes "s0"; types = types }

-- what its script has then
abbrev pub has : Statement → Own
has s = record { statements = (0, s) ∷ []; is_open = false }

-- it is described: one column of int4
abbrev pub one_int : List RawMessage
one_int = describes (columns (column (codes "c") 23 ∷ []))

-- the reply to the query
abbrev pub one_row : List RawMessage
one_row = bound ∷ row (codes "5" ∷ []) ∷ complete (codes "SELECT 1") ∷ ready ∷ []

-- Handle 0 and the connection take turns. Four messages describe the statement; of the reply to the query two messages come in the
-- sixth turn, and two in the eighth.
abbrev pub ten_turns : List TurnMark
ten_turns = marked 0 0 ∷ marked 1 4 ∷ marked 0 4 ∷ marked 1 4 ∷ marked 0 4 ∷ marked 1 6 ∷ marked 0 6 ∷ marked 1 8 ∷ marked 0 8 ∷ marked 1 8 ∷ []

-- the session
abbrev pub prepared_and_queried : Session
prepared_and_queried = record {
  scripts = (Prepare 0 (codes "q") ∷ Query 0 ∷ []) ∷ [];
  turns = [];
  answers = (Prepared (codes "s0") (codes "int4" ∷ []) ∷ Rows ((Some (codes "5") ∷ []) ∷ []) ∷ []) ∷ [];
  course = record {
    trace = ten_turns;
    book = booked 0 0 0 (prepare_q ∷ []) ∷ booked 0 1 4 (frame (run_request sync_frame (s0 (codes "int4" ∷ []))) ∷ []) ∷ [];
    replies = one_int ∷ one_row ∷ [];
    asked = asked 0 0 0 NextStatement (Number 0) ∷ [];
  };
}

-- ---- two handles with a column of one type, which the first looks up

-- the name of the type
abbrev pub mood : List ℕ
mood = codes "mood"

-- one column of it is described
abbrev pub one_mood : List RawMessage
one_mood = describes (columns (column (codes "c") 90000 ∷ []))

-- the reply to the lookup
abbrev pub mood_found : List RawMessage
mood_found = columns (column (codes "typname") 19 ∷ []) ∷ row (mood ∷ []) ∷ complete (codes "SELECT 1") ∷ ready ∷ []

-- the request that looks it up
abbrev pub look_up : List ℕ
look_up = frame (lookup_request 90000)

-- the second draws its number before the first meets the type, and is described behind the lookup
abbrev pub shared_type : Session
shared_type = record {
  scripts = (Prepare 0 (codes "q") ∷ []) ∷ (Prepare 0 (codes "r") ∷ []) ∷ [];
  turns = [];
  answers = (Prepared (codes "s0") (mood ∷ []) ∷ []) ∷ (Prepared (codes "s1") (mood ∷ []) ∷ []) ∷ [];
  course = record {
    trace = marked 0 0 ∷ marked 1 0 ∷ marked 2 4 ∷ marked 0 4 ∷ marked 1 4 ∷ marked 2 12 ∷ marked 0 12 ∷ marked 1 12 ∷ marked 2 12 ∷ [];
    book = booked 0 0 0 (prepare_q ∷ []) ∷ booked 1 0 1 (frame (prepare_request 1 (codes "r")) ∷ []) ∷ booked 0 0 3 (look_up ∷ []) ∷ [];
    replies = one_mood ∷ one_mood ∷ mood_found ∷ [];
    asked = asked 0 0 0 NextStatement (Number 0) ∷ asked 1 0 1 NextStatement (Number 1) ∷ asked 0 0 3 (TypeOf 90000) (Named None)
        ∷ asked 0 0 6 (SetType 90000 mood) (Named (Some mood)) ∷ asked 1 0 7 (TypeOf 90000) (Named (Some mood)) ∷ [];
  };
}

-- ---- a statement is prepared, and a row is copied by it

-- the part that opens the copy
abbrev pub copy_opening : List ℕ
copy_opening = frame (run_request flush_frame (s0 []))

-- the part of its one piece
abbrev pub copy_piece : List ℕ
copy_piece = frame (copy_data_frame (codes "1"))

-- a statement without columns is described
abbrev pub described_copy : List RawMessage
described_copy = describes no_data

-- the reply to the copy
abbrev pub copied_one : List RawMessage
copied_one = bound ∷ copy_in_response ∷ complete (codes "COPY 1") ∷ ready ∷ []

-- the session
abbrev pub copied : Session
copied = record {
  scripts = (Prepare 0 (codes "q") ∷ CopyIn 0 (codes "1" ∷ []) ∷ []) ∷ [];
  turns = [];
  answers = (Prepared (codes "s0") [] ∷ Count 1 ∷ []) ∷ [];
  course = record {
    trace = ten_turns;
    book = booked 0 0 0 (prepare_q ∷ []) ∷ booked 0 1 4 (copy_opening ∷ copy_piece ∷ ending ∷ []) ∷ [];
    replies = described_copy ∷ copied_one ∷ [];
    asked = asked 0 0 0 NextStatement (Number 0) ∷ [];
  };
}

-- ---- the same, where the piece is put a turn later than it could be: of an open copy a turn may end at a part

-- the handle has a turn more, in which it puts the piece
abbrev pub twelve_turns : List TurnMark
twelve_turns = marked 0 0 ∷ marked 1 4 ∷ marked 0 4 ∷ marked 1 4 ∷ marked 0 4 ∷ marked 1 6 ∷ marked 0 6 ∷ marked 1 6 ∷ marked 0 6 ∷ marked 1 8 ∷ marked 0 8 ∷ marked 1 8 ∷ []

-- the session
abbrev pub copied_late : Session
copied_late = record copied { course = record copied.course { trace = twelve_turns } }

-- ---- simple queries

-- the query of the first
abbrev pub simple_a : Command
simple_a = Simple (codes "a") None

-- the query of the second
abbrev pub simple_b : Command
simple_b = Simple (codes "b") None

-- the request of the first
abbrev pub query_a : List ℕ
query_a = frame (query_frame (codes "a"))

-- the request of the second
abbrev pub query_b : List ℕ
query_b = frame (query_frame (codes "b"))

-- the reply to one that updates so many rows
abbrev pub updated : ℕ → List RawMessage
updated n = complete (codes "UPDATE " ++ decimal n) ∷ ready ∷ []

-- so many rows were affected
abbrev pub affected_so : ℕ → Answer
affected_so n = Messages (Ok (Complete n ∷ []))

-- ---- the same beside a query of another handle, and a handle without commands

-- the query is booked between the copy's opening and its piece, and goes out behind the whole copy
abbrev pub copied_beside : Session
copied_beside = record {
  scripts = (Prepare 0 (codes "q") ∷ CopyIn 0 (codes "1" ∷ []) ∷ []) ∷ (simple_b ∷ []) ∷ [] ∷ [];
  turns = 0 ∷ 3 ∷ 0 ∷ 3 ∷ 0 ∷ 1 ∷ 3 ∷ 0 ∷ 3 ∷ [];
  answers = (Prepared (codes "s0") [] ∷ Count 1 ∷ []) ∷ (affected_so 2 ∷ []) ∷ [] ∷ [];
  course = record {
    trace = marked 0 0 ∷ marked 3 4 ∷ marked 0 4 ∷ marked 3 4 ∷ marked 0 4 ∷ marked 1 4 ∷ marked 3 6 ∷ marked 0 6 ∷ marked 3 10 ∷ marked 0 10 ∷ marked 1 10 ∷ marked 2 10 ∷ marked 3 10 ∷ [];
    book = booked 0 0 0 (prepare_q ∷ []) ∷ booked 0 1 4 (copy_opening ∷ copy_piece ∷ ending ∷ []) ∷ booked 1 0 5 (query_b ∷ []) ∷ [];
    replies = described_copy ∷ copied_one ∷ updated 2 ∷ [];
    asked = asked 0 0 0 NextStatement (Number 0) ∷ [];
  };
}

-- ---- a begin that the server refuses, and a commit behind it

-- the request that begins it
abbrev pub begin_frame : List ℕ
begin_frame = frame (query_frame (codes "BEGIN"))

-- the session
abbrev pub refused_begin : Session
refused_begin = record {
  scripts = (Begin ∷ Commit ∷ []) ∷ [];
  turns = [];
  answers = (Failed ∷ Failed ∷ []) ∷ [];
  course = record {
    trace = marked 0 0 ∷ marked 1 2 ∷ marked 0 2 ∷ marked 1 4 ∷ marked 0 4 ∷ marked 1 4 ∷ [];
    book = booked 0 0 0 (begin_frame ∷ []) ∷ booked 0 0 2 (frame (query_frame (codes "ROLLBACK")) ∷ []) ∷ [];
    replies = (error ∷ ready ∷ []) ∷ (complete (codes "ROLLBACK") ∷ ready ∷ []) ∷ [];
    asked = [];
  };
}

-- ---- two handles with a simple query each

-- the session
abbrev pub two_queries : Session
two_queries = record {
  scripts = (simple_a ∷ []) ∷ (simple_b ∷ []) ∷ [];
  turns = [];
  answers = (affected_so 1 ∷ []) ∷ (affected_so 2 ∷ []) ∷ [];
  course = record {
    trace = marked 0 0 ∷ marked 1 0 ∷ marked 2 4 ∷ marked 0 4 ∷ marked 1 4 ∷ marked 2 4 ∷ [];
    book = booked 0 0 0 (query_a ∷ []) ∷ booked 1 0 1 (query_b ∷ []) ∷ [];
    replies = updated 1 ∷ updated 2 ∷ [];
    asked = [];
  };
}
