-- Sessions in which something isn't what the commands mean.
use Rattle.std.specs.Prelude.{[], ◌∷◌, ◌++◌, None, Some, codes}
use Rattle.pg_spec.specs.Stamps.{marked}
use Rattle.pg_promises.specs.Words.{NextStatement, TypeOf, SetType, Number, Named}
use Rattle.pg_promises.specs.Rows.{Failed, Prepared, ending, prepare_request}
use Rattle.pg_promises.specs.Sessions.{Session, affected_so, asked, begin_frame, booked, copied_beside, copy_opening, copy_piece, frame, look_up, mood, mood_found, one_mood, prepare_q, prepared_and_queried, query_a, query_b, refused_begin, shared_type, simple_a, simple_b, two_queries, updated}

-- a simple query whose request is booked in its handle's second turn
abbrev pub booked_late : Session
booked_late = record {
  scripts = (simple_a ∷ []) ∷ [];
  turns = [];
  answers = (affected_so 1 ∷ []) ∷ [];
  course = record {
    trace = marked 0 0 ∷ marked 1 0 ∷ marked 0 0 ∷ marked 1 2 ∷ marked 0 2 ∷ marked 1 2 ∷ [];
    book = booked 0 0 2 (query_a ∷ []) ∷ [];
    replies = updated 1 ∷ [];
    asked = [];
  };
}

-- the reply to a query is delivered before the query is booked
abbrev pub replied_early : Session
replied_early = record prepared_and_queried {
  course = record prepared_and_queried.course {
    trace = marked 0 0 ∷ marked 1 8 ∷ marked 0 8 ∷ marked 1 8 ∷ marked 0 8 ∷ marked 1 8 ∷ [];
  };
}

-- The desk forgets a type that was looked up: the second handle is told none, and looks it up again.
abbrev pub forgotten : Session
forgotten = record shared_type {
  course = record {
    trace = marked 0 0 ∷ marked 1 0 ∷ marked 2 4 ∷ marked 0 4 ∷ marked 1 4 ∷ marked 2 12 ∷ marked 0 12 ∷ marked 1 12 ∷ marked 2 16 ∷ marked 0 16 ∷ marked 1 16 ∷ marked 2 16 ∷ [];
    book = booked 0 0 0 (prepare_q ∷ []) ∷ booked 1 0 1 (frame (prepare_request 1 (codes "r")) ∷ []) ∷ booked 0 0 3 (look_up ∷ []) ∷ booked 1 0 7 (look_up ∷ []) ∷ [];
    replies = one_mood ∷ one_mood ∷ mood_found ∷ mood_found ∷ [];
    asked = asked 0 0 0 NextStatement (Number 0) ∷ asked 1 0 1 NextStatement (Number 1) ∷ asked 0 0 3 (TypeOf 90000) (Named None)
        ∷ asked 0 0 6 (SetType 90000 mood) (Named (Some mood)) ∷ asked 1 0 7 (TypeOf 90000) (Named None) ∷ asked 1 0 10 (SetType 90000 mood) (Named (Some mood)) ∷ [];
  };
}

-- each of two queries is answered by what the other reads
abbrev pub exchanged : Session
exchanged = record two_queries { answers = (affected_so 2 ∷ []) ∷ (affected_so 1 ∷ []) ∷ [] }

-- Behind a copy's opening another handle's request is booked, and behind that the rest of the copy.
abbrev pub copy_cut : Session
copy_cut = record copied_beside {
  course = record copied_beside.course {
    book = booked 0 0 0 (prepare_q ∷ []) ∷ booked 0 1 4 (copy_opening ∷ []) ∷ booked 1 0 5 (query_b ∷ []) ∷ booked 0 1 7 (copy_piece ∷ ending ∷ []) ∷ [];
  };
}

-- the copy's piece stands in that other request
abbrev pub copy_astray : Session
copy_astray = record copied_beside {
  course = record copied_beside.course {
    book = booked 0 0 0 (prepare_q ∷ []) ∷ booked 0 1 4 (copy_opening ∷ ending ∷ []) ∷ booked 1 0 5 (query_b ∷ copy_piece ∷ []) ∷ [];
  };
}

-- a begin is refused, and nothing rolls it back
abbrev pub not_rolled_back : Session
not_rolled_back = record refused_begin { course = record refused_begin.course { book = booked 0 0 0 (begin_frame ∷ []) ∷ [] } }

-- a command draws two numbers
abbrev pub drawn_twice : Session
drawn_twice = record prepared_and_queried {
  course = record prepared_and_queried.course {
    asked = asked 0 0 0 NextStatement (Number 0) ∷ asked 0 0 0 NextStatement (Number 1) ∷ [];
  };
}

-- a request that is no command's
abbrev pub of_nobody : Session
of_nobody = record two_queries { course = record two_queries.course { book = two_queries.course.book ++ booked 7 0 1 (query_a ∷ []) ∷ [] } }

-- The first of two queries is answered a turn after its reply was delivered, so that the second is booked late.
abbrev pub begun_late : Session
begun_late = record {
  scripts = (simple_a ∷ simple_b ∷ []) ∷ [];
  turns = [];
  answers = (affected_so 1 ∷ affected_so 2 ∷ []) ∷ [];
  course = record {
    trace = marked 0 0 ∷ marked 1 2 ∷ marked 0 2 ∷ marked 1 2 ∷ marked 0 2 ∷ marked 1 2 ∷ marked 0 2 ∷ marked 1 4 ∷ marked 0 4 ∷ marked 1 4 ∷ [];
    book = booked 0 0 0 (query_a ∷ []) ∷ booked 0 1 6 (query_b ∷ []) ∷ [];
    replies = updated 1 ∷ updated 2 ∷ [];
    asked = [];
  };
}

-- a statement that was prepared is lost: its query fails without a request
abbrev pub slot_lost : Session
slot_lost = record prepared_and_queried {
  answers = (Prepared (codes "s0") (codes "int4" ∷ []) ∷ Failed ∷ []) ∷ [];
  course = record prepared_and_queried.course { book = booked 0 0 0 (prepare_q ∷ []) ∷ [] };
}

-- a question that is no command's
abbrev pub asked_by_nobody : Session
asked_by_nobody = record prepared_and_queried {
  course = record prepared_and_queried.course {
    asked = asked 0 0 0 NextStatement (Number 0) ∷ asked 7 0 1 NextStatement (Number 1) ∷ [];
  };
}

-- the second command isn't answered
abbrev pub unanswered : Session
unanswered = record prepared_and_queried { answers = (Prepared (codes "s0") (codes "int4" ∷ []) ∷ []) ∷ [] }

-- the request of the later turn stands first in the book, and each command is answered by its own
abbrev pub out_of_order : Session
out_of_order = record two_queries {
  course = record two_queries.course {
    book = booked 1 0 1 (query_b ∷ []) ∷ booked 0 0 0 (query_a ∷ []) ∷ [];
    replies = updated 2 ∷ updated 1 ∷ [];
  };
}

-- a request is booked twice, and the server replies to both
abbrev pub booked_twice : Session
booked_twice = record two_queries {
  course = record two_queries.course {
    trace = marked 0 0 ∷ marked 1 0 ∷ marked 2 6 ∷ marked 0 6 ∷ marked 1 6 ∷ marked 2 6 ∷ [];
    book = booked 0 0 0 (query_a ∷ []) ∷ booked 0 0 0 (query_a ∷ []) ∷ booked 1 0 1 (query_b ∷ []) ∷ [];
    replies = updated 1 ∷ updated 1 ∷ updated 2 ∷ [];
  };
}
