-- A session over a link to such a server: what the link may give, and what each request is answered one at a time.
use Rattle.std.specs.Prelude.{◌≡◌, ℕ, List, [], ◌∷◌, ◌++◌, length, map, Some, None, IsTrue}
use Rattle.std.specs.List.{AllByRecursion, concat, flat_map, list_all}
use Rattle.pg_spec.specs.Book.{Booking, wire}
use Rattle.pg_spec.specs.Frames.{terminate_frame}
use Rattle.pg_spec.specs.RawMessages.{RawMessage, messages, message_bytes, bytes_left, groups, is_whole_group}
use Rattle.pg_spec.specs.Sent.{after_startup_frame}
use Rattle.pg_spec.specs.Settings.{Settings}
use Rattle.pg_spec.specs.Startup.{Done, startup, session_part}
use Rattle.pg_machine.specs.declared.serving.Mode.TheVariants.{Normal}
use Rattle.pg_machine.specs.Serving.{Service, Serving, served, joined, one_at_a_time}
use Rattle.pg_machine.specs.Requests.{IsRequest, SoundAlong, OnlyCopiesOpen}

-- a server that hasn't been fed
abbrev pub begun : {S : Type 0} → S → Serving S
begun state = record { state = state; mode = Normal }

-- the bytes of messages
abbrev pub spoken : List RawMessage → List ℕ
spoken ms = flat_map message_bytes ms

-- What it gives in all, by the bytes taken: nothing before the startup frame came whole; then its startup, and what the
-- frames behind that are replied.
abbrev pub gives : {S : Type 0} → Service S → S → (startup taken : List ℕ) → List ℕ
gives service begins startup taken = elim (after_startup_frame taken) [
  | None ↦ []
  | Some rest ↦ startup ++ spoken (served service (begun begins) (messages rest)).reply
]

-- the frames of a request
abbrev pub frames_of : Booking → List RawMessage
frames_of booking = messages (concat booking.parts)

-- each booking is the whole frames of one request
abbrev pub AreRequests : List Booking → Type 0
AreRequests book = AllByRecursion (λ booking. (bytes_left (concat booking.parts) ≡ []) × IsRequest (frames_of booking)) book

-- the replies of the server to these requests, fed one at a time
abbrev pub alone : {S : Type 0} → Service S → S → List Booking → List (List RawMessage)
alone service begins book = one_at_a_time service (begun begins) (map frames_of book)

-- what a session that ended well sent and was given (the clauses of the session theorem that are about bytes)
pub record IsExchange (s : Settings) (nonce : List ℕ) (book : List Booking) (given taken : List ℕ) : Type 0 where
  pub started : (used : ℕ) × ((startup s nonce (messages given)).outcome ≡ Done used)
  pub one_group_each : length (groups (session_part s nonce (messages given))) ≡ length book
  pub whole_groups : IsTrue (list_all is_whole_group (groups (session_part s nonce (messages given))))
  pub sent : taken ≡ concat (startup s nonce (messages given)).frames ++ wire book ++ terminate_frame

-- these bytes are a startup that asks for nothing
pub record IsStartup (s : Settings) (nonce bytes : List ℕ) : Type 0 where
  pub whole : bytes_left bytes ≡ []
  pub frame : List ℕ
  pub done : startup s nonce (messages bytes) ≡ record { frames = frame ∷ []; outcome = Done (length (messages bytes)) }

-- a session over a link to this server
pub record IsOver {S : Type 0} (service : Service S) (begins : S) (bytes given taken : List ℕ) : Type 0 where
  pub due : List ℕ
  pub in_all : given ++ due ≡ gives service begins bytes taken

-- No request but a copy's opens a copy, and each answer is one that a server may give.
pub record KeepsRules {S : Type 0} (service : Service S) (begins : S) (book : List Booking) : Type 0 where
  pub sound : SoundAlong service (begun begins) (joined (map frames_of book))
  pub only_copies_open : OnlyCopiesOpen service (begun begins) (map frames_of book)
