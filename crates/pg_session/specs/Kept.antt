-- What is kept between turns: of a running command, of a handle, and of a session. All in the course of the whole session, so that no
-- turn changes what is known of the turns before it.
use Rattle.std.specs.Prelude.{◌≡◌, ℕ, zero, suc, ◌+◌, ◌<◌, ◌≤◌, List, [], ◌∷◌, length, map, Option, Some, None, unwrap_or, option_map, slice_get, take, sum_by, All, IsSome, ⊤}
use Rattle.std.specs.List.Sorted.{IsNonDecreasingBy}
use Rattle.pg_spec.specs.Book.{Booking}
use Rattle.pg_spec.specs.Turns.{Times, delivered_before, entry_at, turn_of, IsFirstTurn}
use Rattle.pg_desk.specs.History.{State}
use Rattle.pg_query.specs.Dialogue.{Dialogue}
use Rattle.pg_query.specs.Meaning.{Place}
use Rattle.pg_query.specs.declared.desk_call.DeskCall.{DeskCall}
use Rattle.pg_query.specs.declared.desk_call.Reply.{Reply}
use Rattle.pg_spec.specs.Courses.{Asked, Course, Point, Who, Unfolds, begun_in, nowhere, requests_of, questions_of}
use Rattle.pg_spec.specs.Meanings.{AreTold, Ending, booked_in}
use Rattle.pg_core.specs.Counters.{Counts, tells}
use Rattle.pg_core.specs.Lists.{IsReached}
use Rattle.pg_core.specs.Times.{IsUpright}
use Rattle.pg_core.specs.Runs.{MayWait}
use Rattle.pg_core.specs.Trails.{HoldsRequests, Moment, AreTurnsOf, begun_at, ran_by, said_booking}
use Rattle.pg_session.specs.Speeches.{Speech, meaning_of}
use Rattle.pg_session.specs.Handles.{HandleState}

-- what stands of a session: so many turns were made, this was asked of its desk, and this is the state of its hub
pub record Now : Type 0 where
  pub turns : ℕ
  pub asked : List (Asked DeskCall Reply)
  pub state : State

-- what was booked
abbrev pub book_of : Now → List Booking
book_of now = map said_booking now.state.book

-- a command that answered: what it answered, when, and where it stood
pub record Past (A E : Type 0) : Type 0 where
  pub ending : Ending A E
  pub times : Times
  pub at : Point

-- what a script kept before each of its commands that began, and behind the last that answered
abbrev pub states_of : {A E : Type 0} → E → List (Past A E) → List E
states_of begins past = begins ∷ map (λ x. x.ending.own) past

-- a handle's first turn from which command `j` may begin
abbrev pub free_of : {A E : Type 0} → List (Past A E) → (command : ℕ) → ℕ
free_of past zero = 0
free_of past (suc j) = unwrap_or (option_map (λ x. x.times.answers + 1) (slice_get past j)) 0

-- the handle made no turn from there on
abbrev pub NoneFrom : Course DeskCall Reply → (handle from turns : ℕ) → Type 0
NoneFrom course handle from turns = (place : ℕ) → from ≤ place → place < turns → turn_of course.trace place ≡ handle → ⊥

-- the turn in which a command began whose next turn is this
abbrev pub first_at : (turn : ℕ) → List Moment → ℕ
first_at turn [] = turn
first_at turn (m ∷ before) = begun_at m before

-- A command that is polled in this turn, or could be: it stands as its turns so far say, of which there may be none.
pub record IsReady {T : Type 0} (course : Course DeskCall Reply) (who : Who) (d : Dialogue T) (trail : List Moment) (now : Now) (p : Place T) : Type 0 where
  pub upright : IsUpright d trail now.state p
  pub turns : AreTurnsOf tells course who d trail
  pub requests : HoldsRequests who (book_of now) (ran_by d trail)
  pub questions : questions_of now.asked who.handle who.command ≡ (ran_by d trail).asked

-- A command that runs: it had turns, the last of which is its handle's last.
pub record IsUnderWay {T : Type 0} (course : Course DeskCall Reply) (who : Who) (d : Dialogue T) (free : ℕ) (now : Now) (p : Place T) : Type 0 where
  pub last : Moment
  pub before : List Moment
  pub ready : IsReady course who d (last ∷ before) now p
  pub waits : MayWait p.dialogue
  pub stands : MayWait (ran_by d (last ∷ before)).left
  pub latest : last.place < now.turns
  pub none_since : NoneFrom course who.handle (last.place + 1) now.turns
  pub begins : IsFirstTurn course.trace who.handle free (λ place. ⊤) (begun_at last before)

-- the command that runs, and what it says
pub record Runs {C T A E : Type 0} (speech : Speech C T A E) (course : Course DeskCall Reply) (script : List C) (handle : ℕ) (own : E) (past : List (Past A E)) (now : Now) (p : Place T) : Type 0 where
  pub command : C
  pub stands : slice_get script (length past) ≡ Some command
  pub under_way : IsUnderWay course (record { handle = handle; command = length past }) (speech.says own command) (free_of past (length past)) now p

-- No command runs: of the next, where there is one, nothing was done yet, and it could have had no turn.
pub record Rests {C A E : Type 0} (course : Course DeskCall Reply) (script : List C) (handle : ℕ) (past : List (Past A E)) (now : Now) : Type 0 where
  pub requests : requests_of (book_of now) handle (length past) ≡ []
  pub questions : questions_of now.asked handle (length past) ≡ []
  pub no_turn : (command : C) → slice_get script (length past) ≡ Some command → NoneFrom course handle (free_of past (length past)) now.turns

-- what a handle does
abbrev pub Does : {C T A E : Type 0} → Speech C T A E → Course DeskCall Reply → (script : List C) → (handle : ℕ) → E → List (Past A E) → Now → Option (Place T) → Type 0
Does speech course script handle own past now None = Rests course script handle past now
Does speech course script handle own past now (Some p) = Runs speech course script handle own past now p

-- a command that answered did what it means
pub record HasDone {C T A E : Type 0} (speech : Speech C T A E) (course : Course DeskCall Reply) (script : List C) (handle : ℕ) (past : List (Past A E)) (now : Now) (j : ℕ) (x : Past A E) : Type 0 where
  pub command : C
  pub stands : slice_get script j ≡ Some command
  pub before : E
  pub had : slice_get (states_of speech.begins past) j ≡ Some before
  pub begins : IsFirstTurn course.trace handle (free_of past j) (λ place. ⊤) x.times.begins
  pub in_turn : x.at.turn ≡ x.times.answers
  pub unfolds : Unfolds course handle (begun_in nowhere x.times.begins) ((meaning_of speech).asks before command) (requests_of (book_of now) handle j)
      (questions_of now.asked handle j) (record { at = x.at; answer = x.ending })

-- a handle: what each command did that answered, what it does, and that no later command did anything
pub record HandleKept {C T A E : Type 0} (speech : Speech C T A E) (course : Course DeskCall Reply) (script : List C) (handle : ℕ) (h : HandleState T A E) (past : List (Past A E)) (now : Now) : Type 0 where
  pub answers : h.answers ≡ map (λ x. x.ending.answer) past
  pub own : slice_get (states_of speech.begins past) (length past) ≡ Some h.own
  pub done : (j : ℕ) (x : Past A E) → slice_get past j ≡ Some x → HasDone speech course script handle past now j x
  pub does : Does speech course script handle h.own past now h.running
  pub free : free_of past (length past) ≤ now.turns
  pub none_later : (j : ℕ) → length past < j → (requests_of (book_of now) handle j ≡ []) × (questions_of now.asked handle j ≡ [])

-- Every booking, or question, is a command's, made in a turn so far; they are in the order of their turns.
pub record AreKnown {C X : Type 0} (scripts : List (List C)) (owner command turn : X → ℕ) (turns : ℕ) (xs : List X) : Type 0 where
  pub known : All (λ x. IsSome (entry_at scripts (owner x) (command x))) xs
  pub in_order : IsNonDecreasingBy turn xs
  pub past : All (λ x. turn x < turns) xs

-- what holds of all handles between two turns
pub record AllKept {C T A E : Type 0} (speech : Speech C T A E) (scripts : List (List C)) (course : Course DeskCall Reply) (now : Now) (handles : List (HandleState T A E)) : Type 0 where
  pub reached : IsReached now.state
  pub counts : Counts (map (λ a. a.question) now.asked) now.state
  -- what the commands of each handle answered
  pub pasts : List (List (Past A E))
  pub as_many : length pasts ≡ length scripts
  pub each : (i : ℕ) (script : List C) (h : HandleState T A E) (past : List (Past A E)) → slice_get scripts i ≡ Some script → slice_get handles i ≡ Some h → slice_get pasts i ≡ Some past →
      HandleKept speech course script i h past now
  pub book : AreKnown scripts (λ b. b.stamp.owner) (λ b. b.stamp.command) (λ b. b.stamp.turn) now.turns (book_of now)
  pub questions : AreKnown scripts (λ a. a.stamp.owner) (λ a. a.stamp.command) (λ a. a.stamp.turn) now.turns now.asked
  pub told : AreTold tells [] now.asked
  pub asked_first : (k : ℕ) → k < length (book_of now) → delivered_before course.trace (booked_in (book_of now) k) ≤ sum_by length (take k course.replies)
