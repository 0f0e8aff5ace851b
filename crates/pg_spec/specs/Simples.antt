-- A simple query as a dialogue (PostgreSQL documentation, "Simple Query"), what it does in any course, and the headline of a session
-- of any commands among which some are simple queries.
use Rattle.std.specs.Prelude.{◌≡◌, ℕ, ◌≤◌, false, List, [], ◌∷◌, Option, Some, None, is_some, Result, Ok, Err}
use Rattle.pg_spec.specs.Book.{Booking, bookings_of, request_of}
use Rattle.pg_spec.specs.Faults.{FrameFault, Encode, Frame, UnexpectedMessage}
use Rattle.pg_spec.specs.Frames.{query_frame}
use Rattle.pg_spec.specs.Stamps.{stamped}
use Rattle.pg_spec.specs.SimpleQuery.{SimpleAnswer, simple_decision, simple_reading}
use Rattle.pg_spec.specs.Turns.{entry_at, IsFirstTurn, Times}
use Rattle.pg_spec.specs.Courses.{Asked, Course, Given, Point, Request, Unfolds, begun_in, delivered_to, reply_to, requests_of, questions_of}
use Rattle.pg_spec.specs.Dialogues.{Dialogue, Answers, Asks, Reads, behind}
use Rattle.pg_spec.specs.Meanings.{Meaning, EachCommand}

-- ---- what it asks and answers

-- the answer, where the messages tell one
abbrev pub told_or : Option SimpleAnswer → SimpleAnswer
told_or (Some r) = r
told_or None = Err UnexpectedMessage

-- the reply to a simple query is read; an answer that stands without a message is given at once
abbrev pub reads_unless : {Q R : Type 0} → (take : Option ℕ) → Option SimpleAnswer → Dialogue Q R SimpleAnswer
reads_unless take (Some r) = Answers r
reads_unless take None = Reads (λ ms. is_some (simple_reading take ms)) (λ ms. Answers (told_or (simple_reading take ms)))

-- its request, where the text can be written
abbrev pub asks_by : {Q R : Type 0} → (take : Option ℕ) → Result (List ℕ) FrameFault → Dialogue Q R SimpleAnswer
asks_by take (Err fault) = Answers (Err (Encode (Frame fault)))
asks_by take (Ok frame) = Asks false frame (reads_unless take (simple_reading take []))

-- a simple query of this text, of which so many items are wanted
abbrev pub simple_query : {Q R : Type 0} → (text : List ℕ) → (take : Option ℕ) → Dialogue Q R SimpleAnswer
simple_query text take = asks_by take (query_frame text)

-- ---- what it does in a course

-- one request, with its whole frame, booked when it begins; none for a text that its frame's writer refuses
abbrev pub own_requests : (handle place : ℕ) → (text : List ℕ) → Times → List Booking
own_requests handle place text times = elim (query_frame text) [
  | Ok frame ↦ record { stamp = stamped handle place times.begins; parts = frame ∷ [] } ∷ []
  | Err fault ↦ []
]

-- its answer, from the reply to its request
abbrev pub answer_by : {Q R : Type 0} → Course Q R → (text : List ℕ) → (take : Option ℕ) → (request : Option ℕ) → Option SimpleAnswer
answer_by course text take request = elim (query_frame text) [
  | Err fault ↦ Some (Err (Encode (Frame fault)))
  | Ok frame ↦ elim request [ None ↦ None | Some k ↦ simple_reading take (reply_to course (Some k)) ]
]

-- its answer stands: its text is refused, or the messages that decide it were delivered
abbrev pub IsDecided : {Q R : Type 0} → Course Q R → (text : List ℕ) → (take : Option ℕ) → (request : Option ℕ) → (place : ℕ) → Type 0
IsDecided course text take request place = elim (query_frame text) [
  | Err fault ↦ Unit {0}
  | Ok frame ↦ elim request [
    | None ↦ ⊥
    | Some k ↦ elim (simple_decision take (reply_to course (Some k))) [ None ↦ ⊥ | Some d ↦ d.after ≤ delivered_to course (Some k) place ]
  ]
]

-- One request of its own, booked when it begins; its answer is the reading of that request's group, given in its handle's first turn in
-- which it stands.
pub record IsAsBefore {Q R : Type 0} (course : Course Q R) (handle place : ℕ) (text : List ℕ) (take : Option ℕ) (times : Times) (answer : SimpleAnswer) : Type 0 where
  pub own_request : bookings_of course.book handle place ≡ own_requests handle place text times
  pub answers : Some answer ≡ answer_by course text take (request_of course.book handle place)
  pub answers_in_turn : IsFirstTurn course.trace handle times.begins (IsDecided course text take (request_of course.book handle place)) times.answers

-- a simple query unfolds, behind a command that stopped there
abbrev pub UnfoldsBehind : {Q R : Type 0} → Course Q R → (handle place : ℕ) → (text : List ℕ) → (take : Option ℕ) → Times → SimpleAnswer → (former : Point) → Type 0
UnfoldsBehind course handle place text take times answer former =
    (at : Point) × (at.turn ≡ times.answers)
    × Unfolds course handle (begun_in former times.begins) (simple_query text take) (requests_of course.book handle place)
    (questions_of course.asked handle place) (record { at = at; answer = answer })

-- the same, wherever the former command stopped
abbrev pub UnfoldsSimple : {Q R : Type 0} → Course Q R → (handle place : ℕ) → (text : List ℕ) → (take : Option ℕ) → Times → SimpleAnswer → Type 0
UnfoldsSimple course handle place text take times answer = (former : Point) × UnfoldsBehind course handle place text take times answer former

-- ---- the headline

-- which commands are simple queries, and how their answers are told in the words of all answers
pub record Simply (C A : Type 0) : Type 0 where
  pub simple : C → Option (List ℕ × Option ℕ)
  pub said : SimpleAnswer → A

-- these commands mean what the headline says, and leave their script as it was
abbrev pub AreSimple : {C A E Q R : Type 0} → Meaning C A E Q R → Simply C A → Type 0
AreSimple {C} {A} {E} {Q} {R} meaning how = (own : E) (c : C) (text : List ℕ) (take : Option ℕ) → how.simple c ≡ Some (text, take) →
    meaning.asks own c ≡ behind (simple_query text take) (λ a. Answers (record { answer = how.said a; own = own }))

-- a simple query of a session: its answer stands in its place, and it did what the headline says
pub record IsAnswered {C A Q R : Type 0} (how : Simply C A) (answers : List (List A)) (course : Course Q R) (handle place : ℕ) (text : List ℕ) (take : Option ℕ) (times : Times) : Type 0 where
  pub answer : SimpleAnswer
  pub answered : entry_at answers handle place ≡ Some (how.said answer)
  pub as_before : IsAsBefore course handle place text take times answer

-- each simple query of the scripts did so
abbrev pub Headline : {C A Q R : Type 0} → Simply C A → (scripts : List (List C)) (answers : List (List A)) → Course Q R → (schedule : List (List Times)) → Type 0
Headline {C} how scripts answers course schedule = EachCommand scripts schedule (λ handle place c times. (text : List ℕ) (take : Option ℕ) →
    how.simple c ≡ Some (text, take) → IsAnswered how answers course handle place text take times)

-- what a dialogue answered before its answer was told in other words
pub record Unmapped {Q R A B : Type 0} (course : Course Q R) (handle : ℕ) (at : Point) (d : Dialogue Q R A) (f : A → B) (requests : List Request) (asked : List (Asked Q R)) (given : Given B) : Type 0 where
  pub answer : A
  pub is : given.answer ≡ f answer
  pub unfolds : Unfolds course handle at d requests asked (record { at = given.at; answer = answer })
