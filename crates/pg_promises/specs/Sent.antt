-- What a session of any commands sent where it failed (PostgreSQL documentation, "Message Flow").
use Rattle.std.specs.Prelude.{◌≡◌, ℕ, ◌+◌, ◌<◌, ◌≤◌, ◌⊎◌, Bool, true, false, IsTrue, List, [], ◌∷◌, ◌++◌, length, map, filter, Some, slice_get, ◌==◌, All, IsSome, if◌then◌else◌}
use Rattle.std.specs.List.{concat, list_all}
use Rattle.std.specs.List.Sorted.{IsNonDecreasingBy}
use Rattle.pg_spec.specs.Courses.{Asked, Course, Outcome, outcome_of, met_in, requests_of, questions_of}
use Rattle.pg_spec.specs.Meanings.{Ending, Meaning, AreTold}
use Rattle.pg_promises.specs.Causes.{MustAskForTls, NeedsNoTls, startup_after}
use Rattle.pg_promises.specs.Promises.{IsFront}
use Rattle.pg_spec.specs.Book.{Booking, wire}
use Rattle.pg_spec.specs.Frames.{ssl_request, terminate_frame}
use Rattle.pg_spec.specs.RawMessages.{messages, groups, ends_in}
use Rattle.pg_spec.specs.Sent.{ends_unit}
use Rattle.pg_spec.specs.Settings.{Settings}
use Rattle.pg_spec.specs.Startup.{Done, session_part}
use Rattle.pg_spec.specs.Turns.{entry_at}
use Rattle.pg_promises.specs.Calls.{Call, apart}

-- ---- one command

-- what comes of a command of a session so far, by the replies to its requests and by what its desk told it
abbrev pub outcome_in : {C A E Q R : Type 0} → Meaning C A E Q R → Course Q R → (handle place : ℕ) → E → C → Outcome Q (Ending A E)
outcome_in meaning course handle place own c =
    outcome_of (meaning.asks own c) (met_in course (requests_of course.book handle place) (questions_of course.asked handle place))

-- the requests of a command, part by part
abbrev pub parts_of : {Q R : Type 0} → Course Q R → (handle place : ℕ) → List (List (List ℕ))
parts_of course handle place = map (λ r. r.booking.parts) (requests_of course.book handle place)

-- what it asked of the desk
abbrev pub asked_of : {Q R : Type 0} → Course Q R → (handle place : ℕ) → List Q
asked_of course handle place = map (λ a. a.question) (questions_of course.asked handle place)

-- these parts of a request end in Query or Sync, as those of a copy that is open don't (PostgreSQL documentation, "Simple Query", "Extended
-- Query")
abbrev pub are_ended : List (List ℕ) → Bool
are_ended parts = ends_in ends_unit (messages (concat parts))

-- A request as far as it was booked: all of it where it is ended, and else the first of its parts, as of a copy that is open.
abbrev pub IsBegun : (ended : Bool) → (begun all : List (List ℕ)) → Type 0
IsBegun true begun all = begun ≡ all
IsBegun false [] all = ⊥
IsBegun false (part ∷ begun) all = (more : List (List ℕ)) × (part ∷ (begun ++ more) ≡ all)

-- each of these requests is the one at its place, as far as it was booked
abbrev pub AreBegun : (begun all : List (List (List ℕ))) → Type 0
AreBegun [] all = Unit {0}
AreBegun (x ∷ xs) [] = ⊥
AreBegun (x ∷ xs) (y ∷ ys) = IsBegun (are_ended x) x y × AreBegun xs ys

-- each of these requests is ended
abbrev pub AllEnded : List (List (List ℕ)) → Type 0
AllEnded [] = Unit {0}
AllEnded (x ∷ xs) = IsTrue (are_ended x) × AllEnded xs

-- A command that is under way: of the requests that come of it these are the first ones, each whole, or as far as a copy that is open was
-- booked, and this is all that it asked; nothing is asked for a later command of its script.
pub record IsUnderWay {Q R A : Type 0} (course : Course Q R) (handle place : ℕ) (o : Outcome Q A) : Type 0 where
  pub requests : AreBegun (parts_of course handle place) o.requests
  pub asked : asked_of course handle place ≡ o.asked
  pub none_later : (later : ℕ) → place < later → (requests_of course.book handle later ≡ []) × (questions_of course.asked handle later ≡ [])

-- A command that has ended, with this answer: these are its requests, and this is all that it asked.
pub record HasEnded {Q R A : Type 0} (course : Course Q R) (handle place : ℕ) (o : Outcome Q A) (answer : A) : Type 0 where
  pub requests : parts_of course handle place ≡ o.requests
  pub asked : asked_of course handle place ≡ o.asked
  pub answered : o.answer ≡ Some answer
  -- no part stands before its first request
  pub none_before : o.parts ≡ []

-- The commands of a script from a place on, where the script has this: some have ended, one behind the other, and the next is
-- under way.
abbrev pub AskedInOrder : {C A E Q R : Type 0} → Meaning C A E Q R → Course Q R → (handle place : ℕ) → E → List C → Type 0
AskedInOrder meaning course handle place own [] = Unit {0}
AskedInOrder {C} {A} {E} {Q} {R} meaning course handle place own (c ∷ cs) =
    IsUnderWay course handle place (outcome_in meaning course handle place own c)
    ⊎ ((ending : Ending A E) × HasEnded course handle place (outcome_in meaning course handle place own c) ending
    × AskedInOrder meaning course handle (place + 1) ending.own cs)

-- ---- all commands

-- a request that ends so
abbrev pub is_ended : Booking → Bool
is_ended booking = are_ended booking.parts

-- each but the last is ended: behind a copy that is open nothing else goes out (PostgreSQL documentation, "COPY Operations")
abbrev pub AllButLastEnded : List Booking → Type 0
AllButLastEnded [] = Unit {0}
AllButLastEnded (b ∷ []) = Unit {0}
AllButLastEnded (b ∷ c ∷ book) = IsTrue (is_ended b) × AllButLastEnded (c ∷ book)

-- Terminate, which goes out behind requests that are ended (PostgreSQL documentation, "Termination")
abbrev pub goodbye : List Booking → List ℕ
goodbye book = if list_all is_ended book then terminate_frame else []

-- The requests of each handle, and its questions, are those of its script, in its order, and nobody else's.
pub record InScriptOrder {C A E Q R : Type 0} (meaning : Meaning C A E Q R) (scripts : List (List C)) (course : Course Q R) : Type 0 where
  pub owners : All (λ b. IsSome (entry_at scripts b.stamp.owner b.stamp.command)) course.book
  pub askers : All (λ a. IsSome (entry_at scripts a.stamp.owner a.stamp.command)) course.asked
  pub in_order : (handle : ℕ) → IsNonDecreasingBy (λ b. b.stamp.command) (filter (λ b. b.stamp.owner == handle) course.book)
  pub asked_in_order : (handle : ℕ) → IsNonDecreasingBy (λ a. a.stamp.command) (filter (λ a. a.stamp.owner == handle) course.asked)
  pub each : (handle : ℕ) (script : List C) → slice_get scripts handle ≡ Some script → AskedInOrder meaning course handle 0 meaning.begins script
  -- The desk told what it was asked before.
  pub told : AreTold meaning.tells [] course.asked
  pub ended : AllButLastEnded course.book

-- what is known of a session's course where it failed: its requests, the replies that came, and its questions, but no turns
abbrev pub course_so_far : {C Q R : Type 0} → Call C → Settings → (given : List ℕ) → List Booking → List (Asked Q R) → Course Q R
course_so_far call s given book asked = record { trace = []; book = book; replies = groups (session_part s call.nonce (messages given)); asked = asked }

-- Nothing; or, where TLS is required, a front of the SSLRequest and nothing else, and at most the byte that answers it was
-- read; or, where it isn't, a front of the startup's frames, or, once the startup is done, these and then a front of requests
-- and Terminate, where each request is the next one of its handle's script.
pub record SentInOrder {C A E Q R : Type 0} (meaning : Meaning C A E Q R) (call : Call C) (s : Settings) (g t : List ℕ) : Type 0 where
  pub book : List Booking
  pub asked : List (Asked Q R)
  pub order : InScriptOrder meaning call.scripts (course_so_far call s g book asked)
  pub front : (t ≡ []) ⊎ (MustAskForTls s × IsFront t ssl_request × (length g ≤ 1))
      ⊎ (NeedsNoTls s × (IsFront t (concat (startup_after (apart call) s g).frames)
      ⊎ (((used : ℕ) × ((startup_after (apart call) s g).outcome ≡ Done used))
      × IsFront t (concat (startup_after (apart call) s g).frames ++ wire book ++ goodbye book))))
