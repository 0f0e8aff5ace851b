-- When a session of any commands must end well: valid input over a link that conforms (PostgreSQL documentation, "Message Flow").
use Rattle.std.specs.Prelude.{◌≡◌, ℕ, ◌++◌, Bool, true, false, IsTrue, IsFalse, List, [], ◌∷◌, map, filter, drop, Some, None, Result, Ok, Err, if◌then◌else◌, ⊤}
use Rattle.std.specs.List.{concat, list_any}
use Rattle.pg_spec.specs.Copies.{is_opened}
use Rattle.pg_spec.specs.Meanings.{Meaning}
use Rattle.pg_promises.specs.ConnectionStrings.{Means}
use Rattle.pg_promises.specs.Promises.{AnswersStartup, IsOneReply, IsValid}
use Rattle.pg_spec.specs.Faults.{Failure, OutOfMemory}
use Rattle.pg_spec.specs.Links.{Plan}
use Rattle.pg_spec.specs.RawMessages.{messages, is_ready, sync_of}
use Rattle.pg_spec.specs.Sent.{after_startup_frame, asked_for_tls, gives_turn}
use Rattle.pg_spec.specs.Settings.{Settings}
use Rattle.pg_promises.specs.Calls.{Call, apart}
use Rattle.pg_promises.specs.FailedCauses.{is_flush}
use Rattle.pg_promises.specs.Sent.{SentInOrder}

-- ---- a server that conforms

-- the entry of a Flush answers a copy's opening, and ends no group (PostgreSQL documentation, "COPY Operations")
pub record IsOpening (entry : List ℕ) : Type 0 where
  pub unended : IsFalse (list_any is_ready (messages entry))
  pub answers : IsTrue (is_opened (sync_of (messages entry)))

-- the entry of a frame that gives the server the turn: a Flush, or another
abbrev pub IsReplyTo : (flush : Bool) → List ℕ → Type 0
IsReplyTo true entry = IsOpening entry
IsReplyTo false entry = IsOneReply entry

-- each frame has its entry
abbrev pub AreReplies : List Bool → List (List ℕ) → Type 0
AreReplies [] entries = Unit {0}
AreReplies (flush ∷ frames) [] = ⊥
AreReplies (flush ∷ frames) (entry ∷ entries) = IsReplyTo flush entry × AreReplies frames entries

-- the frames that were sent whole and give the server the turn, SSLRequest and the startup frame among them: whether each is a Flush
abbrev pub flushes : List ℕ → List Bool
flushes sent =
    (if asked_for_tls sent then false ∷ [] else [])
    ++ elim (after_startup_frame sent) [ None ↦ [] | Some rest ↦ false ∷ map is_flush (filter gives_turn (messages rest)) ]

-- so far as frames were sent, each behind those of the startup, `frames` of them, has its entry
abbrev pub AnswersRequests : Plan → (frames : ℕ) → (taken : List ℕ) → Type 0
AnswersRequests plan frames taken = AreReplies (drop frames (flushes taken)) (drop frames plan.entries)

-- it answers the startup, and each request that was sent
pub record Conforms {C : Type 0} (call : Call C) (s : Settings) (plan : Plan) (taken : List ℕ) : Type 0 where
  pub opens : AnswersStartup (apart call) s plan
  pub later : AnswersRequests plan opens.frames taken

-- the answer is Ok, or want of memory
abbrev pub EndsWell : {T : Type 0} → Result T Failure → Type 0
EndsWell (Ok report) = ⊤
EndsWell (Err OutOfMemory) = ⊤
EndsWell (Err failure) = ⊥

-- valid input over a link that has given nothing yet and conforms ends well
abbrev pub MustEndWell : {C T : Type 0} → Call C → Result T Failure → Type 0
MustEndWell call result = (plan : Plan) (s : Settings) (taken : List ℕ) →
    call.before.given ≡ Some [] → call.before.taken ≡ Some [] → call.before.plan ≡ Some plan → call.after.taken ≡ Some taken →
    Means call.config s → IsValid (apart call) s plan → Conforms call s plan taken → EndsWell result

-- ---- a plan that answers all

-- The plan answers whatever the scripts may ask, by its replies, whatever their turns are. This is over every order in which
-- requests may be booked. So no plan answers all where a copy stands beside another handle's request, which may come first and
-- get what answers the opening; what is promised of a session is by the bytes that were taken, and such a one may end well too.
abbrev pub AnswersAll : {C A E Q R : Type 0} → Meaning C A E Q R → Call C → Settings → Plan → (frames : ℕ) → Type 0
AnswersAll meaning call s plan frames = (taken : List ℕ) → SentInOrder meaning call s (concat plan.entries) taken → AnswersRequests plan frames taken
