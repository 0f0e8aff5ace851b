-- More that a session promises, beside its main theorem: when it must end well, what it sent where it
-- failed, and that no request is kept back.
use Rattle.std.specs.Prelude.{◌≡◌, ◌≢◌, ℕ, ◌+◌, ◌≤◌, ◌<◌, ◌⊎◌, Bool, true, false, ◌||◌, IsTrue, IsFalse, List, [], ◌∷◌, ◌++◌, length, map, take, drop, filter, filter_map, count_by, sum_by, Option, Some, None, Result, Ok, Err, All, IsOk, IsSome, slice_get, ◌==◌, nat_lt, ⊤}
use Rattle.std.specs.List.{concat, list_all}
use Rattle.pg_promises.specs.Causes.{Call, OfDialogue, MustAskForTls, NeedsNoTls, startup_after}
use Rattle.pg_spec.specs.Passwords.{is_nonce}
use Rattle.pg_spec.specs.Asides.{is_readable}
use Rattle.pg_promises.specs.ConnectionStrings.{Means}
use Rattle.pg_spec.specs.Faults.{Failure, OutOfMemory, Stalled, Tls}
use Rattle.pg_spec.specs.Frames.{startup_frame, query_frame, ssl_request, terminate_frame}
use Rattle.pg_spec.specs.Links.{Plan}
use Rattle.pg_spec.specs.RawMessages.{messages, bytes_left, groups, is_whole_group, is_async, is_parameter}
use Rattle.pg_spec.specs.Sent.{turns_given, whole_units}
use Rattle.pg_spec.specs.Book.{Booking, wire}
use Rattle.pg_spec.specs.Report.{Command, Simple, Report}
use Rattle.pg_spec.specs.Settings.{Settings, Require, startup_parameters}
use Rattle.pg_spec.specs.Startup.{Startup, Done, startup}

-- ---- valid input over a conforming link ends well

-- what the caller owes
pub record IsValid (call : Call) (s : Settings) (plan : Plan) : Type 0 where
  pub user : IsSome s.user
  pub nonce : IsTrue (is_nonce call.nonce)
  pub frame : IsOk (startup_frame (startup_parameters s))
  pub no_tls : s.ssl_mode ≢ Require
  pub no_binding : s.channel_binding ≢ Require
  pub limit : length (concat plan.entries) ≤ call.limit

-- the dialogue over the first entries of the plan
abbrev pub dialogue_over : Call → Settings → Plan → ℕ → Startup
dialogue_over call s plan entries = startup s call.nonce (messages (concat (take entries plan.entries)))

-- the messages of an entry are one whole group, and what may stand anywhere
abbrev pub IsOneReply : List ℕ → Type 0
IsOneReply entry = (length (groups (messages entry)) ≡ 1) × IsTrue (list_all is_whole_group (groups (messages entry)))

-- what the server owes to a startup: its frames, `frames` of them, are answered by a startup
pub record AnswersStartup (call : Call) (s : Settings) (plan : Plan) : Type 0 where
  pub untroubled : IsFalse (plan.is_troubled || plan.ends)
  pub whole : All (λ entry. bytes_left entry ≡ []) plan.entries
  pub frames : ℕ
  pub started : (used : ℕ) × ((dialogue_over call s plan frames).outcome ≡ Done used)
      × All (λ m. IsTrue (is_async m || is_parameter m)) (drop used (messages (concat (take frames plan.entries))))
  -- each entry but the last ends in the message that the next frame answers, and each frame has its entry
  pub each_frame : (i : ℕ) → i < frames → length (dialogue_over call s plan i).frames ≡ i + 1
  pub all_frames : length (dialogue_over call s plan frames).frames ≡ frames
  pub readable : IsTrue (list_all is_readable (messages (concat plan.entries)))

-- and to each later frame that gives it the turn one reply, so far as frames were sent
pub record AnswersRequests (plan : Plan) (frames : ℕ) (taken : List ℕ) : Type 0 where
  pub entries : turns_given taken ≤ length plan.entries
  pub replies : All IsOneReply (drop frames (take (turns_given taken) plan.entries))

-- both
pub record Conforms (call : Call) (s : Settings) (plan : Plan) (taken : List ℕ) : Type 0 where
  pub opens : AnswersStartup call s plan
  pub later : AnswersRequests plan opens.frames taken

-- the answer is Ok, or want of memory
abbrev pub EndsWell : Result Report Failure → Type 0
EndsWell (Ok report) = ⊤
EndsWell (Err OutOfMemory) = ⊤
EndsWell (Err failure) = ⊥

-- valid input over a link that has given nothing yet and conforms ends well
abbrev pub MustEndWell : Call → Result Report Failure → Type 0
MustEndWell call result = (plan : Plan) (s : Settings) (taken : List ℕ) →
    call.before.given ≡ Some [] → call.before.taken ≡ Some [] → call.before.plan ≡ Some plan → call.after.taken ≡ Some taken →
    Means call.config s → IsValid call s plan → Conforms call s plan taken → EndsWell result

-- ---- what was sent where it failed

-- the one begins the other
abbrev pub IsFront : List ℕ → List ℕ → Type 0
IsFront front whole = (rest : List ℕ) × (front ++ rest ≡ whole)

-- the frame of a simple query, where its text isn't refused
abbrev pub request_frame : Command → Option (List ℕ)
request_frame (Simple text take) = elim (query_frame text) [ Ok frame ↦ Some frame | Err fault ↦ None ]

-- how many requests the scripts ask: one for each simple query whose text isn't refused
abbrev pub requests_in : List (List Command) → ℕ
requests_in scripts = sum_by (λ script. length (filter_map request_frame script)) scripts

-- the requests of each handle are those of its script, from the front
abbrev pub InScriptOrder : List (List Command) → List Booking → Type 0
InScriptOrder scripts book = (handle : ℕ) (script : List Command) → slice_get scripts handle ≡ Some script →
    (later : List (List (List ℕ))) × (map (λ b. b.parts) (filter (λ b. b.stamp.owner == handle) book) ++ later
    ≡ map (λ frame. frame ∷ []) (filter_map request_frame script))

-- Nothing; or, where TLS is required, a front of the SSLRequest and nothing else, and at most the byte that answers it was
-- read; or, where it isn't, a front of the startup's frames, or, once the startup is done, these and then a front of requests
-- and Terminate.
pub record SentInOrder (call : Call) (s : Settings) (g t : List ℕ) : Type 0 where
  pub book : List Booking
  pub owners : All (λ b. b.stamp.owner < length call.scripts) book
  pub order : InScriptOrder call.scripts book
  pub front : (t ≡ []) ⊎ (MustAskForTls s × IsFront t ssl_request × (length g ≤ 1))
      ⊎ (NeedsNoTls s × (IsFront t (concat (startup_after call s g).frames)
      ⊎ (((used : ℕ) × ((startup_after call s g).outcome ≡ Done used))
      × IsFront t (concat (startup_after call s g).frames ++ wire book ++ terminate_frame))))

-- ---- no request is kept back

-- a simple query without a number, whose text isn't refused
abbrev pub is_plain : Command → Bool
is_plain (Simple text None) = elim (query_frame text) [ Ok frame ↦ true | Err fault ↦ false ]
is_plain (Simple text (Some n)) = false

-- over a steady link an Ok session, and one that ends in Tls, never waited in vain, and one that stalled had sent a request of
-- each script
abbrev pub NoneKeptBack : Call → Result Report Failure → Type 0
NoneKeptBack call (Ok report) = IsTrue call.before.steady → call.after.lulls ≡ call.before.lulls
NoneKeptBack call (Err (Stalled before after)) = IsTrue call.before.steady →
    All (λ script. All (λ command. IsTrue (is_plain command)) script) call.scripts →
    OfDialogue call (λ s g t. ((used : ℕ) × ((startup_after call s g).outcome ≡ Done used)) →
    count_by (λ script. nat_lt 0 (length script)) call.scripts ≤ whole_units t)
NoneKeptBack call (Err (Tls cause)) = IsTrue call.before.steady → call.after.lulls ≡ call.before.lulls
NoneKeptBack call (Err failure) = ⊤
