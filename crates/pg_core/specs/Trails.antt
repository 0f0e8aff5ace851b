-- A command turn by turn: what it did in each of its handle's turns, as equations.
use Rattle.std.specs.Prelude.{◌≡◌, ◌≢◌, ◌⊎◌, ℕ, zero, suc, ◌+◌, ◌<◌, ◌≤◌, List, [], ◌∷◌, ◌++◌, length, map, take, drop, Option, Some, None, Result}
use Rattle.pg_spec.specs.RawMessages.{RawMessage}
use Rattle.pg_spec.specs.Turns.{IsOwnTurn, turn_of}
use Rattle.pg_types.specs.declared.error.Error.{Error}
use Rattle.pg_query.specs.Dialogue as code
use Rattle.pg_query.specs.Dialogue.{feed}
use Rattle.pg_query.specs.Meaning.{Place}
use Rattle.pg_query.specs.Scripts.{IsRead, IsPut}
use Rattle.pg_query.specs.declared.desk_call.DeskCall.{DeskCall}
use Rattle.pg_query.specs.declared.desk_call.Reply.{Reply}
use Rattle.pg_spec.specs.Courses.{Asked, Course, Request, Point, Who, stamp_of, reply_to, requests_of, delivered_to}
use Rattle.pg_query.specs.Lives.{Deed}
use Rattle.pg_spec.specs.Book as said
use Rattle.pg_desk.specs.declared.event.Booking.{Booking}
use Rattle.pg_spec.specs.declared.stamps.Stamp.{Stamp}
use Rattle.pg_core.specs.Deeds.{Addition, bookings_in, additions_in, answers_in, requests_in, added_in, granted, AreGranted, got_after, EndsRefused}
use Rattle.pg_desk.specs.History.{State}
use Rattle.pg_core.specs.Lists.{EndsEmpty, EndsFull, came_of, got_of, state_behind}
use Rattle.pg_core.specs.Runs.{Ran, of_request, stays, run, IsTidy, At, Ends, MayWait}

-- where it stands in this turn
abbrev pub point_of : {T : Type 0} → (turn : ℕ) → Ran T → Point
point_of turn s = record { turn = turn; request = s.at; read = s.read; parts = [] }

-- what came by a turn: so much of each reply as was delivered by then
abbrev pub CameBy : Course DeskCall Reply → (place : ℕ) → (ℕ → List RawMessage) → Type 0
CameBy course place came = (k : ℕ) → came k ≡ take (delivered_to course (Some k) place) (reply_to course (Some k))

-- requests of one turn: their numbers follow each other, and they bear its stamp
abbrev pub AreNumbered : Who → (turn number : ℕ) → List Request → Type 0
AreNumbered who turn number [] = Unit {0}
AreNumbered who turn number (r ∷ rs) = (r.number ≡ number) × (r.booking.stamp ≡ stamp_of who turn) × AreNumbered who turn (number + 1) rs

-- questions of one turn: each is told by those before it, and bears its stamp
abbrev pub AreToldIn : (List DeskCall → DeskCall → Reply) → Who → (turn : ℕ) → (before : List DeskCall) → List (Asked DeskCall Reply) → Type 0
AreToldIn tells who turn before [] = Unit {0}
AreToldIn tells who turn before (a ∷ qs) = (a.stamp ≡ stamp_of who turn) × (a.reply ≡ tells before a.question) × AreToldIn tells who turn (before ++ a.question ∷ []) qs

-- it may wait, or has answered
abbrev pub IsSettled : {T : Type 0} → code.Dialogue T → Type 0
IsSettled {T} d = MayWait d ⊎ ((r : Result T Error) × (d ≡ code.Answer r))

-- one turn of a command: what had come, and what became of what it booked, added and asked
pub record Moment : Type 0 where
  pub place : ℕ
  pub came : ℕ → List RawMessage
  pub bookings : List (Result Request Error)
  pub answers : List (Result (Asked DeskCall Reply) Error)
  pub additions : List (Result Addition Error)

-- one stretch behind another
abbrev pub then_ran : {T : Type 0} → Ran T → Ran T → Ran T
then_ran s t = record {
  requests = s.requests ++ t.requests;
  copies = s.copies ++ t.copies;
  added = s.added ++ t.added;
  parts = λ later. s.parts (t.parts later);
  whole = λ later. s.whole (t.parts later) ++ t.whole later;
  asked = s.asked ++ t.asked;
  at = t.at;
  read = t.read;
  left = t.left;
}

-- what a turn adds
abbrev pub goes_on : {T : Type 0} → Ran T → Moment → Ran T
goes_on s m = run m.came s.at s.read s.left m.bookings m.answers m.additions

-- where a command stands after its turns, the last one first
abbrev pub ran_by : {T : Type 0} → code.Dialogue T → List Moment → Ran T
ran_by d [] = stays None 0 d
ran_by d (m ∷ before) = then_ran (ran_by d before) (goes_on (ran_by d before) m)

-- In each turn it booked, added and asked what the function says.
abbrev pub AreMet : {T : Type 0} → code.Dialogue T → List Moment → Type 0
AreMet d [] = Unit {0}
AreMet d (m ∷ before) =
    ((goes_on (ran_by d before) m).requests ≡ granted m.bookings) × ((goes_on (ran_by d before) m).asked ≡ granted m.answers)
    × ((goes_on (ran_by d before) m).added ≡ granted m.additions) × AreMet d before

-- A command that runs, as equations: its place is where its turns led, with what was taken and isn't read. So too where it hasn't begun.
pub record IsRunning {T : Type 0} (d : code.Dialogue T) (trail : List Moment) (got : ℕ → List RawMessage) (p : Place T) : Type 0 where
  pub met : AreMet d trail
  pub at : At (ran_by d trail).at p.reads (ran_by d trail).left
  pub tidy : IsTidy (ran_by d trail).left
  pub within : (ran_by d trail).read ≤ length (of_request got (ran_by d trail).at)
  pub place : p.dialogue ≡ feed (drop (ran_by d trail).read (of_request got (ran_by d trail).at)) (ran_by d trail).left

-- what one poll did, as a turn
abbrev pub moment_of : (place : ℕ) → (ℕ → List RawMessage) → List Deed → Moment
moment_of place came ds = record { place = place; came = came; bookings = bookings_in ds; answers = answers_in ds; additions = additions_in ds }

-- where a poll led: it waits, and runs on; or it answered; or a take or a hanging up was refused
pub data LedTo {T : Type 0} (d : code.Dialogue T) (trail : List Moment) (got : ℕ → List RawMessage) (ds : List Deed) (q : Place T) : Type 0 where
  Waiting : IsRunning d trail (got_after got ds) q → MayWait (ran_by d trail).left → LedTo d trail got ds q
  Answering : (r : Result T Error) → q.dialogue ≡ code.Answer r → (ran_by d trail).left ≡ code.Answer r → LedTo d trail got ds q
  Refusing : EndsRefused ds q.dialogue → LedTo d trail got ds q

-- One poll is one turn of the function: what it booked, added and asked, and where it led.
pub record PollsOn {T : Type 0} (d : code.Dialogue T) (m : Moment) (before : List Moment) (got : ℕ → List RawMessage) (ds : List Deed) (q : Place T) : Type 0 where
  pub met : AreMet d (m ∷ before)
  pub within : (ran_by d before).read ≤ length (of_request m.came (ran_by d before).at)
  pub leads : Ends m.came got ds q.dialogue q.reads → LedTo d (m ∷ before) got ds q

-- no turn of the handle lies between
abbrev pub NoneBetween : Course DeskCall Reply → (handle former next : ℕ) → Type 0
NoneBetween course handle former next = (place : ℕ) → former < place → place < next → turn_of course.trace place ≡ handle → ⊥

-- a turn, behind those before: the first of a command, or the next of its handle
abbrev pub IsNext : {T : Type 0} → Course DeskCall Reply → (handle : ℕ) → code.Dialogue T → (before : List Moment) → ℕ → Type 0
IsNext course handle d [] place = Unit {0}
IsNext course handle d (m ∷ before) place = (m.place < place) × NoneBetween course handle m.place place × MayWait (ran_by d (m ∷ before)).left

-- one turn in a session, before which so many requests were booked and these questions asked
pub record IsTurnOf {T : Type 0} (tells : List DeskCall → DeskCall → Reply) (course : Course DeskCall Reply) (who : Who) (d : code.Dialogue T) (before : List Moment) (number : ℕ) (former : List DeskCall) (m : Moment) : Type 0 where
  pub own : IsOwnTurn course.trace who.handle m.place m.place
  pub next : IsNext course who.handle d before m.place
  pub came : CameBy course m.place m.came
  pub within : (ran_by d before).read ≤ length (of_request m.came (ran_by d before).at)
  pub numbered : AreNumbered who m.place number (granted m.bookings)
  pub told : AreToldIn tells who m.place former (granted m.answers)
  -- the desk refused nothing
  pub booked : AreGranted m.bookings
  pub answered : AreGranted m.answers
  pub all_added : AreGranted m.additions
  pub settled : IsSettled (goes_on (ran_by d before) m).left

-- all turns of a command
abbrev pub AreTurnsOf : {T : Type 0} → (List DeskCall → DeskCall → Reply) → Course DeskCall Reply → Who → code.Dialogue T → List Moment → Type 0
AreTurnsOf tells course who d [] = Unit {0}
AreTurnsOf tells course who d (m ∷ before) = (number : ℕ) × (former : List DeskCall) × IsTurnOf tells course who d before number former m × AreTurnsOf tells course who d before

-- the turn in which it began
abbrev pub begun_at : Moment → List Moment → ℕ
begun_at m [] = m.place
begun_at m (n ∷ before) = begun_at n before

-- Where a turn of its own led, by the states of a legal list: it waits and runs on, or answered, or the desk refused.
pub data Turned {T : Type 0} (d : code.Dialogue T) (trail : List Moment) (s : State) (ds : List Deed) (q : Place T) : Type 0 where
  RunsOn : IsRunning d trail (got_of s) q → MayWait (ran_by d trail).left → Turned d trail s ds q
  HasAnswered : (r : Result T Error) → q.dialogue ≡ code.Answer r → (ran_by d trail).left ≡ code.Answer r → Turned d trail s ds q
  WasRefused : EndsRefused ds q.dialogue → Turned d trail s ds q

-- a poll ends in an answer, or its last take gave nothing, or there was no room for its last part
pub data PollEnds {T : Type 0} (ds : List Deed) (q : Place T) : Type 0 where
  Gave : (r : Result T Error) → q.dialogue ≡ code.Answer r → PollEnds ds q
  Pauses : IsRead q.dialogue → EndsEmpty ds q.reads → PollEnds ds q
  HoldsBack : IsPut q.dialogue → EndsFull ds q.reads → PollEnds ds q

-- a turn of its own, from a state to a state
pub record OwnTurn {T : Type 0} (d : code.Dialogue T) (place : ℕ) (trail : List Moment) (s : State) (ds : List Deed) (q : Place T) : Type 0 where
  pub met : AreMet d (moment_of place (came_of (state_behind s ds)) ds ∷ trail)
  pub within : (ran_by d trail).read ≤ length (of_request (came_of (state_behind s ds)) (ran_by d trail).at)
  pub turned : Turned d (moment_of place (came_of (state_behind s ds)) ds ∷ trail) (state_behind s ds) ds q

-- all under one stamp
abbrev pub AllUnder : Stamp → List Deed → Type 0
AllUnder stamp [] = Unit {0}
AllUnder stamp (a ∷ ds) = (a.stamp ≡ stamp) × AllUnder stamp ds

-- a booking of the desk, as a book tells it
abbrev pub said_booking : Booking → said.Booking
said_booking b = record { stamp = b.stamp; parts = b.parts }

-- a book in which a request has this part more
abbrev pub with_part : ℕ → List ℕ → List said.Booking → List said.Booking
with_part k part [] = []
with_part zero part (b ∷ bs) = record { stamp = b.stamp; parts = b.parts ++ part ∷ [] } ∷ bs
with_part (suc k) part (b ∷ bs) = b ∷ with_part k part bs

-- the same with all of these, in order
abbrev pub with_all : List Addition → List said.Booking → List said.Booking
with_all [] bs = bs
with_all (a ∷ more) bs = with_all more (with_part a.request a.part bs)

-- none of these requests has this number
abbrev pub HasNone : ℕ → List Request → Type 0
HasNone k [] = Unit {0}
HasNone k (r ∷ rs) = (r.number ≢ k) × HasNone k rs

-- these parts go to none of these requests
abbrev pub HasNoneOf : List Addition → List Request → Type 0
HasNoneOf [] rs = Unit {0}
HasNoneOf (a ∷ more) rs = HasNone a.request rs × HasNoneOf more rs

-- parts that come to the request that is read
abbrev pub to_request : Option ℕ → List (List ℕ) → List Addition
to_request None later = []
to_request (Some k) later = map (λ part. record { request = k; part = part }) later

-- the request that is read is one of the book, or none is read yet
abbrev pub IsBookedAt : Option ℕ → List said.Booking → Type 0
IsBookedAt None book = Unit {0}
IsBookedAt (Some k) book = k < length book

-- The book holds a command's requests as its turns name them, with all their parts, whatever parts come later.
pub record HoldsRequests {T : Type 0} (who : Who) (book : List said.Booking) (s : Ran T) : Type 0 where
  pub within : IsBookedAt s.at book
  pub requests : (later : List (List ℕ)) → requests_of (with_all (to_request s.at later) book) who.handle who.command ≡ s.whole later

-- The requests of a turn: their numbers follow those of the book, they bear the turn's stamp, and the book grew by them and by the parts that
-- were added to copies.
pub record BooksSo (who : Who) (turn : ℕ) (s : State) (ds : List Deed) : Type 0 where
  pub numbered : AreNumbered who turn (length s.book) (requests_in ds)
  pub book : map said_booking (state_behind s ds).book ≡ with_all (added_in ds) (map said_booking s.book ++ map (λ r. r.booking) (requests_in ds))
