-- What the commands of scripts mean, over any words: commands `C`, answers `A`, what a script keeps between its commands `E`,
-- questions to the desk `Q`, and what it tells `R`.
use Rattle.std.specs.Prelude.{◌≡◌, ℕ, ◌+◌, ◌<◌, ◌≤◌, List, [], ◌∷◌, ◌++◌, length, map, take, sum_by, slice_get, unwrap_or, option_map, Some, All, EachIndex, IsSome}
use Rattle.std.specs.List.Sorted.{IsNonDecreasingBy}
use Rattle.pg_spec.specs.Book.{Booking}
use Rattle.pg_spec.specs.Turns.{entry_at, IsTrace, Times, BeginInTurn, delivered_before}
use Rattle.pg_spec.specs.Dialogues.{Dialogue}
use Rattle.pg_spec.specs.Courses.{Asked, Course, Point, Unfolds, begun_in, nowhere, requests_of, questions_of}

-- a command's answer, and what its script has behind it
pub record Ending (A E : Type 0) : Type 0 where
  pub answer : A
  pub own : E

-- the meaning of commands
pub record Meaning (C A E Q R : Type 0) : Type 0 where
  -- what a script has before its first command
  pub begins : E
  -- what a command asks and answers, by what its script has
  pub asks : E → C → Dialogue Q R (Ending A E)
  -- what a desk tells, by all that it was asked before
  pub tells : List Q → Q → R

-- the desk told each of these questions its reply, where it had been asked those before
abbrev pub AreTold : {Q R : Type 0} → (List Q → Q → R) → (before : List Q) → List (Asked Q R) → Type 0
AreTold tells before [] = Unit {0}
AreTold tells before (a ∷ asked) = (a.reply ≡ tells before a.question) × AreTold tells (before ++ a.question ∷ []) asked

-- the turn in which request k was booked
abbrev pub booked_in : List Booking → ℕ → ℕ
booked_in book k = unwrap_or (option_map (λ b. b.stamp.turn) (slice_get book k)) 0

-- nothing of the reply to a request was delivered when the turn began in which it was booked
abbrev pub AreAskedFirst : {Q R : Type 0} → Course Q R → Type 0
AreAskedFirst course = EachIndex course.book (λ k. delivered_before course.trace (booked_in course.book k) ≤ sum_by length (take k course.replies))

-- A command of a script: what its script had before it and behind it, and its answer, in its times.
pub record Did {C A E Q R : Type 0} (meaning : Meaning C A E Q R) (course : Course Q R) (states : List (List E)) (answers : List (List A))
    (handle place : ℕ) (command : C) (times : Times) : Type 0 where
  pub before : E
  pub had : entry_at states handle place ≡ Some before
  pub ending : Ending A E
  pub answered : entry_at answers handle place ≡ Some ending.answer
  pub has : entry_at states handle (place + 1) ≡ Some ending.own
  -- where it stood when it answered; it began with nothing read
  pub at : Point
  pub in_turn : at.turn ≡ times.answers
  pub unfolds : Unfolds course handle (begun_in nowhere times.begins) (meaning.asks before command) (requests_of course.book handle place)
      (questions_of course.asked handle place) (record { at = at; answer = ending })

-- P of each command, with its handle, its place in the script and its times
abbrev pub EachCommand : {C : Type 0} → (scripts : List (List C)) (schedule : List (List Times)) → (ℕ → ℕ → C → Times → Type 0) → Type 0
EachCommand {C} scripts schedule P = (handle place : ℕ) (command : C) (times : Times) →
    entry_at scripts handle place ≡ Some command → entry_at schedule handle place ≡ Some times →
    P handle place command times

-- What the commands of the scripts did in a session, whatever its bytes.
pub record HasRun {C A E Q R : Type 0} (meaning : Meaning C A E Q R) (scripts : List (List C)) (turns : List ℕ) (answers : List (List A)) (course : Course Q R) : Type 0 where
  -- when each command began and answered, and what each script had before each of its commands, and at its end
  pub schedule : List (List Times)
  pub states : List (List E)
  pub one_answer_each : map length answers ≡ map length scripts
  pub one_time_each : map length schedule ≡ map length scripts
  pub new : (handle : ℕ) → handle < length scripts → entry_at states handle 0 ≡ Some meaning.begins
  -- The turns are those of the turn list, and a command begins behind its handle's former answer.
  pub turns_made : IsTrace turns (length scripts) course.trace
  pub begins : BeginInTurn course.trace schedule
  -- Each command did what it means, and answered so.
  pub did : EachCommand scripts schedule (Did meaning course states answers)
  -- Every request and every question is a command's, and they are in the order of their turns.
  pub no_other : All (λ b. IsSome (entry_at scripts b.stamp.owner b.stamp.command)) course.book
  pub in_order : IsNonDecreasingBy (λ b. b.stamp.turn) course.book
  pub asked_first : AreAskedFirst course
  pub none_asked_beside : All (λ a. IsSome (entry_at scripts a.stamp.owner a.stamp.command)) course.asked
  pub asked_in_order : IsNonDecreasingBy (λ a. a.stamp.turn) course.asked
  -- The desk told what it was asked before.
  pub told : AreTold meaning.tells [] course.asked
