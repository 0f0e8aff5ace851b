-- A turn of a command as a function: it goes on as far as what was delivered lets it, and puts the parts of a copy for which there is room.
use Rattle.std.specs.Prelude.{ℕ, zero, suc, ◌+◌, nat_le, List, [], ◌∷◌, ◌++◌, take, Bool, false, if◌then◌else◌, Option, Some, None}
use Rattle.pg_spec.specs.declared.stamps.Stamp.{Stamp}
use Rattle.pg_spec.specs.Dialogues.{Dialogue, Answers, Asks, Sends, Reads, Puts, Closes, Calls, decided_after}
use Rattle.pg_spec.specs.Courses.{Asked, Course, Request, Point, Who, stamp_of, unread, delivered_to}

-- What a command did, and where it stands. The request that it reads at last may get parts later: by these, the parts that the
-- request gets which it read at first, and the requests that it booked.
pub record Step (Q R A : Type 0) : Type 0 where
  pub parts : List (List ℕ) → List (List ℕ)
  pub requests : List (List ℕ) → List Request
  pub asked : List (Asked Q R)
  pub at : Point
  pub left : Dialogue Q R A

-- it stands there with these parts to come
abbrev pub with_parts : List (List ℕ) → Point → Point
with_parts parts at = record at { parts = parts }

-- so many messages of its request decide, and they are delivered
abbrev pub is_delivered : {Q R : Type 0} → Course Q R → Point → (place : ℕ) → Option ℕ → Bool
is_delivered course at place None = false
is_delivered course at place (Some n) = nat_le (at.read + n) (delivered_to course at.request place)

-- it does nothing
abbrev pub stands : {Q R A : Type 0} → Point → Dialogue Q R A → Step Q R A
stands at d = record { parts = λ later. later; requests = λ later. []; asked = []; at = at; left = d }

-- a request of this part and of those that it gets
abbrev pub books : {Q R A : Type 0} → (number : ℕ) → Stamp → List ℕ → Step Q R A → Step Q R A
books number stamp part s = record s {
  parts = λ later. [];
  requests = λ later. record { number = number; booking = record { stamp = stamp; parts = part ∷ s.parts later } } ∷ s.requests later;
}

-- a request of one part, whose reply nobody reads
abbrev pub sends : {Q R A : Type 0} → (number : ℕ) → Stamp → List ℕ → Step Q R A → Step Q R A
sends number stamp part s = record s { requests = λ later. record { number = number; booking = record { stamp = stamp; parts = part ∷ [] } } ∷ s.requests later }

-- a part more
abbrev pub puts : {Q R A : Type 0} → List ℕ → Step Q R A → Step Q R A
puts part s = record s { parts = λ later. part ∷ s.parts later }

-- a question more
abbrev pub asks : {Q R A : Type 0} → Asked Q R → Step Q R A → Step Q R A
asks a s = record s { asked = a ∷ s.asked }

-- In one turn, where the next request has this number, the desk was asked these before, and there is room for so many parts.
abbrev pub goes : {Q R A : Type 0} → (List Q → Q → R) → Course Q R → Who → (number : ℕ) → (before : List Q) → Point → Dialogue Q R A → (room : ℕ) → Step Q R A
goes tells course who number before at (Answers a) room = stands at (Answers a)
goes tells course who number before at (Asks copying part d) room =
    books number (stamp_of who at.turn) part (goes tells course who (number + 1) before (record { turn = at.turn; request = Some number; read = 0; parts = [] }) d room)
goes tells course who number before at (Sends part d) room = sends number (stamp_of who at.turn) part (goes tells course who (number + 1) before at d room)
goes tells course who number before at (Reads decides next) room = elim (decided_after decides (unread course at)) [
  | None ↦ stands at (Reads decides next)
  | Some n ↦ if is_delivered course at at.turn (Some n)
      then goes tells course who number before (record at { turn = at.turn; read = at.read + n }) (next (take n (unread course at))) room
      else stands at (Reads decides next)
]
goes tells course who number before at (Puts part d) zero = stands at (Puts part d)
goes tells course who number before at (Puts part d) (suc room) = puts part (goes tells course who number before at d room)
goes tells course who number before at (Closes part d) room = puts part (goes tells course who number before at d room)
goes tells course who number before at (Calls q next) room =
    asks (record { stamp = stamp_of who at.turn; question = q; reply = tells before q }) (goes tells course who number (before ++ q ∷ []) at (next (tells before q)) room)

-- at a place of the trace it can go on: its messages were delivered
abbrev pub may_read : {Q R A : Type 0} → Course Q R → (place : ℕ) → Point → Dialogue Q R A → Bool
may_read course place at (Reads decides next) = is_delivered course at place (decided_after decides (unread course at))
may_read course place at d = false
