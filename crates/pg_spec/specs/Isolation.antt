-- What follows for commands that met the same.
use Rattle.std.specs.Prelude.{◌≡◌, ℕ, List, [], map, Some}
use Rattle.pg_spec.specs.RawMessages.{RawMessage}
use Rattle.pg_spec.specs.Turns.{Times, entry_at}
use Rattle.pg_spec.specs.Dialogues.{Dialogue, Answers, Asks, Sends, Reads, Puts, Closes, Calls, behind}
use Rattle.pg_spec.specs.Courses.{Asked, Course, Request, Point, Given, Met, Unfolds, met_in, outcome, outcome_of, questions_of, requests_of, unread}
use Rattle.pg_spec.specs.Meanings.{Did, Ending, Meaning}

-- how a command unfolds, from any point, follows from what it met alone: what it booked, what it asked, its answer, and what it left
abbrev pub ComesOfIt : {Q R A : Type 0} → Course Q R → Point → Dialogue Q R A → List Request → List (Asked Q R) → Given A → Type 0
ComesOfIt course at d requests asked given =
    outcome d (met_in course requests asked) (unread course at)
    ≡ record { parts = at.parts; requests = map (λ r. r.booking.parts) requests; asked = map (λ a. a.question) asked; answer = Some given.answer; left = unread course given.at }

-- ---- isolation, by what a command names of what its script has

-- the answer alone, without what the script has then
abbrev pub answer_alone : {Q R A E : Type 0} → Dialogue Q R (Ending A E) → Dialogue Q R A
answer_alone d = behind d (λ e. Answers e.answer)

-- what commands name of what their script has decides all but what the script has then
abbrev pub IsByNames : {C A E Q R N : Type 0} → Meaning C A E Q R → (C → E → N) → Type 0
IsByNames {C} {A} {E} {Q} {R} {N} meaning named =
    (own own' : E) (c : C) → named c own ≡ named c own' → answer_alone (meaning.asks own c) ≡ answer_alone (meaning.asks own' c)

-- A command in some session, with all that it may depend on.
pub record DidSo {C A E Q R : Type 0} (meaning : Meaning C A E Q R) (c : C) (course : Course Q R) : Type 0 where
  pub handle : ℕ
  -- where it began, and what its script had
  pub from : Point
  pub own : E
  pub requests : List Request
  pub asked : List (Asked Q R)
  pub given : Given (Ending A E)
  pub unfolds : Unfolds course handle from (meaning.asks own c) requests asked given

-- two of them, maybe of different sessions, with the same answer, which booked and asked the same, and left the same
pub record IsSame {C A E Q R : Type 0} {meaning : Meaning C A E Q R} (c : C) (a b : Course Q R) (x : DidSo meaning c a) (y : DidSo meaning c b) : Type 0 where
  pub answer : y.given.answer.answer ≡ x.given.answer.answer
  pub requests : map (λ r. r.booking.parts) y.requests ≡ map (λ r. r.booking.parts) x.requests
  pub asked : map (λ q. q.question) y.asked ≡ map (λ q. q.question) x.asked
  pub left : unread b y.given.at ≡ unread a x.given.at

-- A command of a session: which it is, what it did, and so what the report says of it.
pub record RanSo {C A E Q R : Type 0} (meaning : Meaning C A E Q R) (c : C) (answers : List (List A)) (course : Course Q R) : Type 0 where
  pub handle : ℕ
  pub place : ℕ
  pub times : Times
  pub states : List (List E)
  pub did : Did meaning course states answers handle place c times

-- what it met: the replies to its own requests, and what its desk told it
abbrev pub met_by : {Q R : Type 0} → Course Q R → (handle place : ℕ) → Met R
met_by course handle place = met_in course (requests_of course.book handle place) (questions_of course.asked handle place)

-- What it booked, asked and answered is the outcome of its dialogue on what it met.
pub record IsOutcome {C A E Q R : Type 0} {meaning : Meaning C A E Q R} (c : C) (answers : List (List A)) (course : Course Q R) (x : RanSo meaning c answers course) : Type 0 where
  pub ending : Ending A E
  pub left : List RawMessage
  pub answered : entry_at answers x.handle x.place ≡ Some ending.answer
  pub comes : outcome_of (meaning.asks x.did.before c) (met_by course x.handle x.place)
      ≡ record { parts = []; requests = map (λ r. r.booking.parts) (requests_of course.book x.handle x.place); asked = map (λ a. a.question) (questions_of course.asked x.handle x.place); answer = Some ending; left = left }

-- ---- nothing is left to choose

-- no part waits for room
abbrev pub NoPuts : {Q R A : Type 0} → Dialogue Q R A → Type 0
NoPuts (Answers a) = Unit {0}
NoPuts (Asks copying part d) = NoPuts d
NoPuts (Sends part d) = NoPuts d
NoPuts (Reads decides next) = (ms : List RawMessage) → NoPuts (next ms)
NoPuts (Puts part d) = ⊥
NoPuts (Closes part d) = NoPuts d
NoPuts {R = R} (Calls q next) = (r : R) → NoPuts (next r)
