-- What a session did, as its commands see it, and how a command unfolds in it.
use Rattle.std.specs.Prelude.{◌≡◌, ℕ, ◌+◌, ◌-◌, ◌≤◌, List, [], ◌∷◌, length, map, take, drop, filter, sum_by, Option, Some, None, unwrap_or, slice_get}
use Rattle.pg_spec.specs.Book.{Booking, is_of}
use Rattle.pg_spec.specs.Stamps.{stamped}
use Rattle.pg_spec.specs.declared.stamps.Stamp.{Stamp}
use Rattle.pg_spec.specs.declared.stamps.TurnMark.{TurnMark}
use Rattle.pg_spec.specs.RawMessages.{RawMessage}
use Rattle.pg_spec.specs.Turns.{delivered_before, IsFirstTurn, IsOwnTurn}
use Rattle.pg_spec.specs.Dialogues.{Dialogue, Answers, Asks, Sends, Reads, Puts, Closes, Calls, decided_after}

-- a question that a command asked of the desk, and what it was told
pub record Asked (Q R : Type 0) : Type 0 where
  pub stamp : Stamp
  pub question : Q
  pub reply : R

-- what a session did
pub record Course (Q R : Type 0) : Type 0 where
  pub trace : List TurnMark
  pub book : List Booking
  -- what the server replied to request k
  pub replies : List (List RawMessage)
  -- what was asked of the desk, in order
  pub asked : List (Asked Q R)

-- a request and its number
pub record Request : Type 0 where
  pub number : ℕ
  pub booking : Booking

-- who acts: a command of a handle
pub record Who : Type 0 where
  pub handle : ℕ
  pub command : ℕ

-- the stamp of what it books or asks in a turn
abbrev pub stamp_of : Who → ℕ → Stamp
stamp_of who turn = stamped who.handle who.command turn

-- requests with their numbers, from this one on
abbrev pub numbered : ℕ → List Booking → List Request
numbered n [] = []
numbered n (b ∷ bs) = record { number = n; booking = b } ∷ numbered (n + 1) bs

-- the requests of a command, in order
abbrev pub requests_of : List Booking → (owner command : ℕ) → List Request
requests_of book owner command = filter (λ r. is_of owner command r.booking) (numbered 0 book)

-- what a command asked of the desk, in order
abbrev pub questions_of : {Q R : Type 0} → List (Asked Q R) → (owner command : ℕ) → List (Asked Q R)
questions_of asked owner command = filter (λ a. is_of owner command (record { stamp = a.stamp; parts = [] })) asked

-- the reply to a request, the empty one where there is none
abbrev pub reply_to : {Q R : Type 0} → Course Q R → Option ℕ → List RawMessage
reply_to course None = []
reply_to course (Some k) = unwrap_or (slice_get course.replies k) []

-- how many messages were delivered from that reply on, those of later replies too, when a turn began
abbrev pub delivered_to : {Q R : Type 0} → Course Q R → Option ℕ → (place : ℕ) → ℕ
delivered_to course None place = 0
delivered_to course (Some k) place = delivered_before course.trace place - sum_by length (take k course.replies)

-- where a command stands
pub record Point : Type 0 where
  -- the turn in which it came there
  pub turn : ℕ
  -- the request that it reads, how many messages of the reply it has read, and the parts that the request has yet to get
  pub request : Option ℕ
  pub read : ℕ
  pub parts : List (List ℕ)

-- where a script stands that has read nothing
abbrev pub nowhere : Point
nowhere = record { turn = 0; request = None; read = 0; parts = [] }

-- a command that begins in this turn, behind one that stopped there: it may read on in the same reply
abbrev pub begun_in : Point → ℕ → Point
begun_in former turn = record { turn = turn; request = former.request; read = former.read; parts = [] }

-- what it hasn't read yet
abbrev pub unread : {Q R : Type 0} → Course Q R → Point → List RawMessage
unread course at = drop at.read (reply_to course at.request)

-- An answer, and where the command stood when it gave it.
pub record Given (A : Type 0) : Type 0 where
  pub at : Point
  pub answer : A

-- A command unfolds, from where it stands to its answer. These are the requests that it has yet to book, and what it has yet to
-- ask; none is left over.
--
-- All that it does between two messages is done in one turn, in which the former was read. It reads a message that decides
-- in a turn that is the `first`, from where it stands, by which that message was delivered. Only a part of a copy may wait, for
-- room, and then for any turn of its `own`. What these two are is the session's.
abbrev pub UnfoldsBy : {Q R A : Type 0} → (first : (from : ℕ) → (there : ℕ → Type 0) → (turn : ℕ) → Type 0) → (own : (from turn : ℕ) → Type 0) → Course Q R → Point → Dialogue Q R A → List Request → List (Asked Q R) → Given A → Type 0
UnfoldsBy first own course at (Answers a) requests asked given =
    (requests ≡ []) × (asked ≡ []) × (at.parts ≡ []) × (given ≡ record { at = at; answer = a })
UnfoldsBy first own course at (Asks copying part d) [] asked given = ⊥
UnfoldsBy first own course at (Asks copying part d) (r ∷ requests) asked given =
    (at.parts ≡ []) × (r.booking.stamp.turn ≡ at.turn) × (more : List (List ℕ)) × (r.booking.parts ≡ part ∷ more)
    × UnfoldsBy first own course (record { turn = at.turn; request = Some r.number; read = 0; parts = more }) d requests asked given
UnfoldsBy first own course at (Sends part d) [] asked given = ⊥
UnfoldsBy first own course at (Sends part d) (r ∷ requests) asked given =
    (r.booking.stamp.turn ≡ at.turn) × (r.booking.parts ≡ part ∷ []) × UnfoldsBy first own course at d requests asked given
UnfoldsBy first own course at (Reads decides next) requests asked given =
    (n : ℕ) × (decided_after decides (unread course at) ≡ Some n)
    × (turn : ℕ) × first at.turn (λ place. at.read + n ≤ delivered_to course at.request place) turn
    × UnfoldsBy first own course (record at { turn = turn; read = at.read + n }) (next (take n (unread course at))) requests asked given
UnfoldsBy first own course at (Puts part d) requests asked given =
    (turn : ℕ) × own at.turn turn × (more : List (List ℕ)) × (at.parts ≡ part ∷ more)
    × UnfoldsBy first own course (record at { turn = turn; parts = more }) d requests asked given
UnfoldsBy first own course at (Closes part d) requests asked given =
    (more : List (List ℕ)) × (at.parts ≡ part ∷ more) × UnfoldsBy first own course (record at { parts = more }) d requests asked given
UnfoldsBy first own course at (Calls q next) requests [] given = ⊥
UnfoldsBy first own course at (Calls q next) requests (a ∷ asked) given =
    (a.stamp.turn ≡ at.turn) × (a.question ≡ q) × UnfoldsBy first own course at (next a.reply) requests asked given

-- The same by the turns of a session: a command goes on in its handle's first turn by which a message was delivered, and puts
-- a part of a copy in any.
abbrev pub Unfolds : {Q R A : Type 0} → Course Q R → (handle : ℕ) → Point → Dialogue Q R A → List Request → List (Asked Q R) → Given A → Type 0
Unfolds course handle = UnfoldsBy (IsFirstTurn course.trace handle) (IsOwnTurn course.trace handle) course

-- ---- what a command meets, and what comes of it by that alone

-- the replies to its requests, and what its desk tells it, in order
pub record Met (R : Type 0) : Type 0 where
  pub replies : List (List RawMessage)
  pub told : List R

-- what it met in a session
abbrev pub met_in : {Q R : Type 0} → Course Q R → List Request → List (Asked Q R) → Met R
met_in course requests asked = record { replies = map (λ r. reply_to course (Some r.number)) requests; told = map (λ a. a.reply) asked }

-- The parts that the request which is read gets from here on, the requests that are booked, with their parts, what the desk is
-- asked, and the answer, once it stands.
pub record Outcome (Q A : Type 0) : Type 0 where
  pub parts : List (List ℕ)
  pub requests : List (List (List ℕ))
  pub asked : List Q
  pub answer : Option A
  -- what is left of the reply that it read last
  pub left : List RawMessage

-- nothing comes of it yet
abbrev pub nothing_yet : {Q A : Type 0} → Outcome Q A
nothing_yet = record { parts = []; requests = []; asked = []; answer = None; left = [] }

-- a request more, of this part and of those that it gets
abbrev pub with_request : {Q A : Type 0} → List ℕ → Outcome Q A → Outcome Q A
with_request part o = record o { parts = []; requests = (part ∷ o.parts) ∷ o.requests }

-- a request of one part, whose reply nobody reads
abbrev pub with_sent : {Q A : Type 0} → List ℕ → Outcome Q A → Outcome Q A
with_sent part o = record o { requests = (part ∷ []) ∷ o.requests }

-- a part more
abbrev pub with_part : {Q A : Type 0} → List ℕ → Outcome Q A → Outcome Q A
with_part part o = record o { parts = part ∷ o.parts }

-- a question more
abbrev pub with_question : {Q A : Type 0} → Q → Outcome Q A → Outcome Q A
with_question q o = record o { asked = q ∷ o.asked }

-- the reply to the next request
abbrev pub first_reply : List (List RawMessage) → List RawMessage
first_reply [] = []
first_reply (g ∷ gs) = g

-- the replies behind it
abbrev pub later_replies : List (List RawMessage) → List (List RawMessage)
later_replies [] = []
later_replies (g ∷ gs) = gs

-- one reply less
abbrev pub past_reply : {R : Type 0} → Met R → Met R
past_reply met = record { replies = later_replies met.replies; told = met.told }

-- what comes of it, where this is left of the reply that it reads
abbrev pub outcome : {Q R A : Type 0} → Dialogue Q R A → Met R → List RawMessage → Outcome Q A
outcome (Answers a) met left = record { parts = []; requests = []; asked = []; answer = Some a; left = left }
outcome (Asks copying part d) met left = with_request part (outcome d (past_reply met) (first_reply met.replies))
outcome (Sends part d) met left = with_sent part (outcome d (past_reply met) left)
outcome (Reads decides next) met left = elim (decided_after decides left) [
  | None ↦ nothing_yet
  | Some n ↦ outcome (next (take n left)) met (drop n left)
]
outcome (Puts part d) met left = with_part part (outcome d met left)
outcome (Closes part d) met left = with_part part (outcome d met left)
outcome (Calls q next) met left = elim met.told [
  | [] ↦ nothing_yet
  | r ∷ told ↦ with_question q (outcome (next r) (record { replies = met.replies; told = told }) left)
]

-- the same of a command that begins with nothing read
abbrev pub outcome_of : {Q R A : Type 0} → Dialogue Q R A → Met R → Outcome Q A
outcome_of d met = outcome d met []
