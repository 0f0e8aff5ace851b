-- A stretch of a command as a function of what came, of the numbers that it was given and of what it was told.
use Rattle.std.specs.Prelude.{◌≡◌, ◌⊎◌, ℕ, ◌+◌, ◌≤◌, List, [], ◌∷◌, ◌++◌, length, take, drop, Bool, true, false, Option, Some, None, Result, Ok, Err}
use Rattle.pg_spec.specs.RawMessages.{RawMessage}
use Rattle.pg_types.specs.declared.error.Error.{Error}
use Rattle.pg_types.specs.declared.error.Error.TheVariants.{Closed}
use Rattle.pg_query.specs.Dialogue.{Dialogue, Answer, Ask, Send, Leave, Read, Put, Finish, Close, HangUp, Call, Hear, feed, fits}
use Rattle.pg_query.specs.Lives.{Deed}
use Rattle.pg_query.specs.Scripts.{IsPut, IsRead}
use Rattle.pg_query.specs.declared.desk_call.DeskCall.{DeskCall}
use Rattle.pg_query.specs.declared.desk_call.Reply.{Reply}
use Rattle.pg_spec.specs.Courses.{Asked, Request}
use Rattle.pg_spec.specs.Dialogues.{decided_after}
use Rattle.pg_core.specs.Deeds.{Addition, requests_in, copies_in, added_in, asked_in, parts_of, whole_in, got_after, EndsRefused}

-- What it booked, added and asked, and where it stands: the request that it reads, how many messages it has read of it, and what is
-- left to do.
pub record Ran (T : Type 0) : Type 0 where
  -- the requests that it booked, each by its first part
  pub requests : List Request
  -- for each of them, whether it is a copy
  pub copies : List Bool
  -- the parts that it added
  pub added : List Addition
  -- the parts of the request that it read at its begin, where these come later to the one that it reads now
  pub parts : List (List ℕ) → List (List ℕ)
  -- the requests with all their parts, where these come later
  pub whole : List (List ℕ) → List Request
  pub asked : List (Asked DeskCall Reply)
  pub at : Option ℕ
  pub read : ℕ
  pub left : Dialogue T

-- what is said of each request, of the one that is read
abbrev pub of_request : (ℕ → List RawMessage) → Option ℕ → List RawMessage
of_request f None = []
of_request f (Some k) = f k

-- nothing is booked, added or asked
abbrev pub stays : {T : Type 0} → Option ℕ → ℕ → Dialogue T → Ran T
stays at n d = record { requests = []; copies = []; added = []; parts = λ later. later; whole = λ later. []; asked = []; at = at; read = n; left = d }

-- the request of this part, with the number and the stamp that it was given
abbrev pub of_part : Request → List ℕ → Request
of_part r part = record { number = r.number; booking = record { stamp = r.booking.stamp; parts = part ∷ [] } }

-- this question, with what was told and when
abbrev pub of_question : Asked DeskCall Reply → DeskCall → Asked DeskCall Reply
of_question a q = record { stamp = a.stamp; question = q; reply = a.reply }

-- a request with more parts
abbrev pub with_more : Request → List (List ℕ) → Request
with_more r parts = record { number = r.number; booking = record { stamp = r.booking.stamp; parts = r.booking.parts ++ parts } }

-- one request more, in front, which is read: the parts that come are its
abbrev pub book_first : {T : Type 0} → (copying : Bool) → Request → Ran T → Ran T
book_first copying r s = record {
  requests = r ∷ s.requests;
  copies = copying ∷ s.copies;
  added = s.added;
  parts = λ later. [];
  whole = λ later. with_more r (s.parts later) ∷ s.whole later;
  asked = s.asked;
  at = s.at;
  read = s.read;
  left = s.left;
}

-- one request more, in front, whose reply nobody reads
abbrev pub send_first : {T : Type 0} → Request → Ran T → Ran T
send_first r s = record {
  requests = r ∷ s.requests;
  copies = false ∷ s.copies;
  added = s.added;
  parts = s.parts;
  whole = λ later. r ∷ s.whole later;
  asked = s.asked;
  at = s.at;
  read = s.read;
  left = s.left;
}

-- one part more, in front, of this request, which is read
abbrev pub add_first : {T : Type 0} → (request : ℕ) → List ℕ → Ran T → Ran T
add_first k part s = record {
  requests = s.requests;
  copies = s.copies;
  added = record { request = k; part = part } ∷ s.added;
  parts = λ later. part ∷ s.parts later;
  whole = s.whole;
  asked = s.asked;
  at = s.at;
  read = s.read;
  left = s.left;
}

-- one question more, in front
abbrev pub ask_first : {T : Type 0} → Asked DeskCall Reply → Ran T → Ran T
ask_first a s = record {
  requests = s.requests;
  copies = s.copies;
  added = s.added;
  parts = s.parts;
  whole = s.whole;
  asked = a ∷ s.asked;
  at = s.at;
  read = s.read;
  left = s.left;
}

-- where an end is refused: a copy that is gone is ended already, and it goes on; else it answers
abbrev pub if_gone : {T : Type 0} → Error → Ran T → Ran T → Ran T
if_gone Closed on answers = on
if_gone _ on answers = answers

-- As far as what came lets it. Of the next bookings it takes numbers and stamps, of the next questions stamps and replies, of the next
-- parts whether they were added, or why they were refused; it writes the parts and the questions itself.
abbrev pub run : {T : Type 0} → (came : ℕ → List RawMessage) → Option ℕ → ℕ → Dialogue T → List (Result Request Error) → List (Result (Asked DeskCall Reply) Error) → List (Result Addition Error) → Ran T
run came at n (Answer r) bs qs ps = stays at n (Answer r)
run came at n (Ask copying part d) [] qs ps = stays at n (Ask copying part d)
run came at n (Ask copying part d) (Ok r ∷ bs) qs ps = book_first copying (of_part r part) (run came (Some r.number) 0 d bs qs ps)
run came at n (Ask copying part d) (Err e ∷ bs) qs ps = stays at n (Answer (Err e))
run came at n (Send part refused d) [] qs ps = stays at n (Send part refused d)
run came at n (Send part refused d) (Ok r ∷ bs) qs ps = send_first (of_part r part) (run came at n d bs qs ps)
run came at n (Send part refused d) (Err e ∷ bs) qs ps = run came at n (refused e) bs qs ps
run came at n (Leave id d) bs qs ps = run came at n d bs qs ps
run came at n (Read cleanup decides next) bs qs ps = elim (decided_after decides (drop n (of_request came at))) [
  | None ↦ stays at n (Read cleanup decides next)
  | Some k ↦ run came at (n + k) (next (take k (drop n (of_request came at)))) bs qs ps
]
run came None n (Put cleanup part d) bs qs ps = stays None n (Put cleanup part d)
run came (Some k) n (Put cleanup part d) bs qs [] = stays (Some k) n (Put cleanup part d)
run came (Some k) n (Put cleanup part d) bs qs (Ok a ∷ ps) = add_first k part (run came (Some k) n d bs qs ps)
run came (Some k) n (Put cleanup part d) bs qs (Err e ∷ ps) = stays (Some k) n (Answer (Err e))
run came None n (Finish part d) bs qs ps = stays None n (Finish part d)
run came (Some k) n (Finish part d) bs qs [] = stays (Some k) n (Finish part d)
run came (Some k) n (Finish part d) bs qs (Ok a ∷ ps) = add_first k part (run came (Some k) n d bs qs ps)
run came (Some k) n (Finish part d) bs qs (Err e ∷ ps) = stays (Some k) n (Answer (Err e))
run came None n (Close part d) bs qs ps = stays None n (Close part d)
run came (Some k) n (Close part d) bs qs [] = stays (Some k) n (Close part d)
run came (Some k) n (Close part d) bs qs (Ok a ∷ ps) = add_first k part (run came (Some k) n d bs qs ps)
run came (Some k) n (Close part d) bs qs (Err e ∷ ps) = if_gone e (run came (Some k) n d bs qs ps) (stays (Some k) n (Answer (Err e)))
run came at n (HangUp d) bs qs ps = run came at n d bs qs ps
run came at n (Call q refused next) bs [] ps = stays at n (Call q refused next)
run came at n (Call q refused next) bs (Ok a ∷ qs) ps = ask_first (of_question a q) (run came at n (next a.reply) bs qs ps)
run came at n (Call q refused next) bs (Err e ∷ qs) ps = run came at n (refused e) bs qs ps
run came at n (Hear next) bs qs ps = stays at n (Hear next)

-- Before its first request a command reads, adds and hangs up nothing, whatever its desk may tell it. (A reply of a kind that isn't told to a
-- question never comes, and nothing is said of where it would lead, here and below.)
abbrev pub ReadsNothing : {T : Type 0} → Dialogue T → Type 0
ReadsNothing (Answer r) = Unit {0}
ReadsNothing (Ask copying part d) = Unit {0}
ReadsNothing (Send part refused d) = ((e : Error) → ReadsNothing (refused e)) × ReadsNothing d
ReadsNothing (Leave id d) = ReadsNothing d
ReadsNothing (Read cleanup decides next) = ⊥
ReadsNothing (Put cleanup part d) = ⊥
ReadsNothing (Finish part d) = ⊥
ReadsNothing (Close part d) = ⊥
ReadsNothing (HangUp d) = ⊥
ReadsNothing (Call q refused next) = ((e : Error) → ReadsNothing (refused e)) × ((r : Reply) → fits q r ≡ true → ReadsNothing (next r))
ReadsNothing (Hear next) = ⊥

-- no part is added before the next request is booked
abbrev pub AddsNone : {T : Type 0} → Dialogue T → Type 0
AddsNone (Answer r) = Unit {0}
AddsNone (Ask copying part d) = Unit {0}
AddsNone (Send part refused d) = ((e : Error) → AddsNone (refused e)) × AddsNone d
AddsNone (Leave id d) = AddsNone d
AddsNone (Read cleanup decides next) = (ms : List RawMessage) → decided_after decides ms ≡ Some (length ms) → AddsNone (next ms)
AddsNone (Put cleanup part d) = ⊥
AddsNone (Finish part d) = ⊥
AddsNone (Close part d) = ⊥
AddsNone (HangUp d) = AddsNone d
AddsNone (Call q refused next) = ((e : Error) → AddsNone (refused e)) × ((r : Reply) → fits q r ≡ true → AddsNone (next r))
AddsNone (Hear next) = Unit {0}

-- a request that is no copy gets no part more
abbrev pub AddsTo : {T : Type 0} → (copying : Bool) → Dialogue T → Type 0
AddsTo true d = Unit {0}
AddsTo false d = AddsNone d

-- Parts are added to a copy alone, and behind a hang-up nothing is read, added or hung up before the next request is booked.
abbrev pub IsTidy : {T : Type 0} → Dialogue T → Type 0
IsTidy (Answer r) = Unit {0}
IsTidy (Ask copying part d) = AddsTo copying d × IsTidy d
IsTidy (Send part refused d) = ((e : Error) → IsTidy (refused e)) × IsTidy d
IsTidy (Leave id d) = IsTidy d
IsTidy (Read cleanup decides next) = (ms : List RawMessage) → decided_after decides ms ≡ Some (length ms) → IsTidy (next ms)
IsTidy (Put cleanup part d) = IsTidy d
IsTidy (Finish part d) = IsTidy d
IsTidy (Close part d) = IsTidy d
IsTidy (HangUp d) = ReadsNothing d × IsTidy d
IsTidy (Call q refused next) = ((e : Error) → IsTidy (refused e)) × ((r : Reply) → fits q r ≡ true → IsTidy (next r))
IsTidy (Hear next) = Unit {0}

-- a place reads this request, or none yet
abbrev pub At : {T : Type 0} → Option ℕ → ℕ → Dialogue T → Type 0
At None id d = ReadsNothing d
At (Some k) id d = k ≡ id

-- What was taken of the request that is read: what is read of it, so many messages, and what is left. More came perhaps.
pub record Holds (came got : ℕ → List RawMessage) (at : Option ℕ) (n : ℕ) (left : List RawMessage) : Type 0 where
  pub read : List RawMessage
  pub count : length read ≡ n
  pub took : of_request got at ≡ read ++ left
  pub more : List RawMessage
  pub all : read ++ (left ++ more) ≡ of_request came at

-- a message is read here, or a part is put: a command may wait
abbrev pub MayWait : {T : Type 0} → Dialogue T → Type 0
MayWait d = IsRead d ⊎ IsPut d

-- a walk ends in an answer, or where it reads and all that came is taken, or where it puts a part
pub data Ends {T : Type 0} (came got : ℕ → List RawMessage) (ds : List Deed) (q : Dialogue T) (end : ℕ) : Type 0 where
  Answered : (r : Result T Error) → q ≡ Answer r → Ends came got ds q end
  Waits : IsRead q → got_after got ds end ≡ came end → Ends came got ds q end
  HoldsBack : IsPut q → Ends came got ds q end

-- Where it stands then: the walk ends where the function does, with what was taken and isn't read, or the desk refused.
pub data Stands {T : Type 0} (came got : ℕ → List RawMessage) (s : Ran T) (ds : List Deed) (q : Dialogue T) (end : ℕ) : Type 0 where
  Gave : (r : Result T Error) → q ≡ Answer r → s.left ≡ Answer r → Stands came got s ds q end
  Rests : s.at ≡ Some end → MayWait q → MayWait s.left → IsTidy s.left → s.read ≤ length (got_after got ds end) → q ≡ feed (drop s.read (got_after got ds end)) s.left → Stands came got s ds q end
  Refused : EndsRefused ds q → Stands came got s ds q end

-- A walk comes to what the function says: what it booked, added and asked, and where it stands.
pub record Comes {T : Type 0} (came got : ℕ → List RawMessage) (s : Ran T) (ds : List Deed) (q : Dialogue T) (end : ℕ) : Type 0 where
  pub requests : s.requests ≡ requests_in ds
  pub copies : s.copies ≡ copies_in ds
  pub added : s.added ≡ added_in ds
  pub parts : s.parts [] ≡ parts_of ds
  pub whole : s.whole [] ≡ whole_in ds
  pub asked : s.asked ≡ asked_in ds
  pub stands : Ends came got ds q end → Stands came got s ds q end
