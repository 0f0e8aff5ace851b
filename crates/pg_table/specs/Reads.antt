-- What the commands of a session read, and what follows for two that read the same.
use Rattle.std.specs.Prelude.{◌≡◌, ℕ, ◌+◌, List, Some}
use Rattle.pg_spec.specs.Turns.{entry_at}
use Rattle.pg_spec.specs.Courses.{Course, Met}
use Rattle.pg_spec.specs.Isolation.{met_by}
use Rattle.pg_spec.specs.Meanings.{Ending, HasRun, Meaning}
use Rattle.pg_promises.specs.Sent.{HasEnded, asked_of, outcome_in, parts_of}

-- A command stands there in a session that has run, and its script had kept this before it.
pub record Stands {C A E Q R : Type 0} {meaning : Meaning C A E Q R} {scripts : List (List C)} {turns : List ℕ} {answers : List (List A)} {course : Course Q R}
    (run : HasRun meaning scripts turns answers course) (handle place : ℕ) (c : C) : Type 0 where
  pub is : entry_at scripts handle place ≡ Some c
  pub own : E
  pub had : entry_at run.states handle place ≡ Some own

-- ---- one command

-- It booked and asked what comes of its dialogue by the replies to its own requests and by what its desk told it; so it answered, and
-- so its script had kept something before the next.
pub record AnswersByReads {C A E Q R : Type 0} {meaning : Meaning C A E Q R} {scripts : List (List C)} {turns : List ℕ} {answers : List (List A)} {course : Course Q R}
    (run : HasRun meaning scripts turns answers course) (handle place : ℕ) (c : C) (x : Stands run handle place c) : Type 0 where
  pub ending : Ending A E
  pub comes : HasEnded course handle place (outcome_in meaning course handle place x.own c) ending
  pub answered : entry_at answers handle place ≡ Some ending.answer
  pub has : entry_at run.states handle (place + 1) ≡ Some ending.own

-- each command of the scripts stands in its place, and did so
abbrev pub EachAnswers : {C A E Q R : Type 0} {meaning : Meaning C A E Q R} {scripts : List (List C)} {turns : List ℕ} {answers : List (List A)} {course : Course Q R} →
    HasRun meaning scripts turns answers course → Type 0
EachAnswers {C} {A} {E} {Q} {R} {meaning} {scripts} {turns} {answers} {course} run = (handle place : ℕ) (c : C) →
    entry_at scripts handle place ≡ Some c → (x : Stands run handle place c) × AnswersByReads run handle place c x

-- ---- two commands

-- what a command reads: what it names of what its script had kept, the replies to its own requests, and what its desk told it
pub record Reads (N R : Type 0) : Type 0 where
  pub names : N
  pub met : Met R

-- what a command of a session read
abbrev pub reads_of : {C E Q R N : Type 0} → (named : C → E → N) → Course Q R → (handle place : ℕ) → E → C → Reads N R
reads_of named course handle place own c = record { names = named c own; met = met_by course handle place }

-- two of them, of two sessions or of one: the same was booked, part by part, and asked, and answered
pub record AreSame {A Q R : Type 0} (one two : List (List A)) (a b : Course Q R) (handle place handle' place' : ℕ) : Type 0 where
  pub answer : entry_at two handle' place' ≡ entry_at one handle place
  pub requests : parts_of b handle' place' ≡ parts_of a handle place
  pub asked : asked_of b handle' place' ≡ asked_of a handle place

-- A command that read the same in two sessions did the same, whatever else there was in them.
abbrev pub AreIsolated : {C A E Q R N : Type 0} {meaning : Meaning C A E Q R} {scripts scripts' : List (List C)} {turns turns' : List ℕ} {one two : List (List A)} {a b : Course Q R} →
    (named : C → E → N) → HasRun meaning scripts turns one a → HasRun meaning scripts' turns' two b → Type 0
AreIsolated {C} {A} {E} {Q} {R} {N} {meaning} {scripts} {scripts'} {turns} {turns'} {one} {two} {a} {b} named run other =
    (c : C) (handle place handle' place' : ℕ) (x : Stands run handle place c) (y : Stands other handle' place' c) →
    reads_of named b handle' place' y.own c ≡ reads_of named a handle place x.own c → AreSame one two a b handle place handle' place'
