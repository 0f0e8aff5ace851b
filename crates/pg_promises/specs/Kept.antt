-- No request is kept back.
use Rattle.std.specs.Prelude.{◌≡◌, ℕ, ◌≤◌, ◌<◌, ◌++◌, IsTrue, IsFalse, IfSome, List, length, count_by, slice_get, Some, Result, Ok, Err, All, nat_lt, ⊤}
use Rattle.std.specs.List.{AllByRecursion, concat}
use Rattle.pg_spec.specs.Book.{wire}
use Rattle.pg_spec.specs.Courses.{requests_of}
use Rattle.pg_spec.specs.Dialogues.{Dialogue, Answers, Asks, Sends, Reads, Puts, Closes, Calls}
use Rattle.pg_spec.specs.Meanings.{Meaning}
use Rattle.pg_promises.specs.Causes.{OfDialogue, startup_after}
use Rattle.pg_spec.specs.Faults.{Failure, Stalled, Tls}
use Rattle.pg_spec.specs.RawMessages.{RawMessage}
use Rattle.pg_spec.specs.Sent.{whole_units}
use Rattle.pg_spec.specs.Settings.{Settings}
use Rattle.pg_spec.specs.Startup.{Done}
use Rattle.pg_promises.specs.Calls.{Call, apart}
use Rattle.pg_promises.specs.Sent.{SentInOrder, is_ended}

-- none of its requests is a copy, behind which the next ones wait
abbrev pub HasNoCopy : {Q R A : Type 0} → Dialogue Q R A → Type 0
HasNoCopy (Answers a) = Unit {0}
HasNoCopy (Asks copying part d) = IsFalse copying × HasNoCopy d
HasNoCopy (Sends part d) = HasNoCopy d
HasNoCopy (Reads decides next) = (ms : List RawMessage) → HasNoCopy (next ms)
HasNoCopy (Puts part d) = HasNoCopy d
HasNoCopy (Closes part d) = HasNoCopy d
HasNoCopy {R = R} (Calls q next) = (r : R) → HasNoCopy (next r)

-- it begins with a request
abbrev pub BeginsWithRequest : {Q R A : Type 0} → Dialogue Q R A → Type 0
BeginsWithRequest (Asks copying part d) = Unit {0}
BeginsWithRequest other = ⊥

-- a script none of whose commands holds anything back
abbrev pub CopiesNothing : {C A E Q R : Type 0} → Meaning C A E Q R → List C → Type 0
CopiesNothing {C} {A} {E} {Q} {R} meaning script = All (λ c. (own : E) → HasNoCopy (meaning.asks own c)) script

-- a script whose first command asks for something as soon as it begins, and none of whose commands holds anything back
pub record AsksAtOnce {C A E Q R : Type 0} (meaning : Meaning C A E Q R) (script : List C) : Type 0 where
  pub first : IfSome (slice_get script 0) (λ c. BeginsWithRequest (meaning.asks meaning.begins c))
  pub no_copy : CopiesNothing meaning script

-- What a session that stalled had sent behind its startup: requests in script order, and all of them went out whole. A script that
-- holds a command and asks at once has one of its own among them, of its first command. Where all scripts ask at once, as many
-- were sent as scripts hold a command, or more.
pub record AllWentOut {C A E Q R : Type 0} (meaning : Meaning C A E Q R) (call : Call C) (s : Settings) (g t : List ℕ) : Type 0 where
  pub asked : SentInOrder meaning call s g t
  pub whole : t ≡ concat (startup_after (apart call) s g).frames ++ wire asked.book
  pub ended : AllByRecursion (λ b. IsTrue (is_ended b)) asked.book
  pub own : (handle : ℕ) (script : List C) → slice_get call.scripts handle ≡ Some script → 0 < length script → AsksAtOnce meaning script →
      0 < length (requests_of asked.book handle 0)
  pub count : All (AsksAtOnce meaning) call.scripts → count_by (λ script. nat_lt 0 (length script)) call.scripts ≤ whole_units t

-- Over a steady link an Ok session, and one that ends in Tls, never waited in vain; and one that stalled behind its startup, whose
-- scripts copy nothing, kept no request back.
abbrev pub NoneKeptBack : {C A E Q R T : Type 0} → Meaning C A E Q R → Call C → Result T Failure → Type 0
NoneKeptBack meaning call (Ok report) = IsTrue call.before.steady → call.after.lulls ≡ call.before.lulls
NoneKeptBack meaning call (Err (Stalled before after)) = IsTrue call.before.steady → All (CopiesNothing meaning) call.scripts →
    OfDialogue (apart call) (λ s g t. ((used : ℕ) × ((startup_after (apart call) s g).outcome ≡ Done used)) → AllWentOut meaning call s g t)
NoneKeptBack meaning call (Err (Tls cause)) = IsTrue call.before.steady → call.after.lulls ≡ call.before.lulls
NoneKeptBack meaning call (Err failure) = ⊤
