-- What a list of events stands for, with no queue and no mailbox in it.
use Rattle.std.specs.Prelude.{◌≡◌, ◌⊎◌, ◌<◌, ◌≤◌, ℕ, zero, suc, ◌+◌, ◌-◌, ◌^◌, ◌==◌, List, [], ◌∷◌, ◌++◌, length, drop, Bool, true, false, not, ◌&&◌, ◌||◌, if◌then◌else◌, Option, Some, None, is_some, Ok, Err, nat_lt, unwrap_or, slice_get, slice_set}
use Rattle.pg_spec.specs.RawMessages.{RawMessage, groups}
use Rattle.pg_spec.specs.declared.stamps.Stamp.{Stamp}
use Rattle.pg_desk.specs.declared.event.Booking.{Booking}
use Rattle.pg_desk.specs.declared.event.DeskFault.TheVariants as fault
use Rattle.pg_desk.specs.declared.event.Take.{Take}
use Rattle.pg_desk.specs.declared.event.Take.TheVariants as taking
use Rattle.pg_desk.specs.declared.event.Put.TheVariants as putting
use Rattle.pg_desk.specs.declared.event.Out.{Out}
use Rattle.pg_desk.specs.declared.event.Out.TheVariants as out
use Rattle.pg_desk.specs.declared.event.Deliver.TheVariants as delivering
use Rattle.pg_desk.specs.declared.event.CatalogCall.{CatalogCall}
use Rattle.pg_desk.specs.declared.event.Event.{Event}
use Rattle.pg_desk.specs.declared.event.Event.TheVariants.{Book, Put as PutEvent, EndCopy, Take as TakeEvent, HangUp, NextStatement, NextPortal, Catalog as CatalogEvent, NextOut, Deliver as DeliverEvent, CloseRequests, Fail}
use Rattle.pg_desk.specs.Catalog.{Catalog, nothing_kept, after_catalog, AllowsCatalog, NeedsCatalog, leaves_catalog}
use Rattle.pg_spec.specs.Batches.{is_batch}

-- a batch that was delivered, and the request that it belongs to
pub record Delivery : Type 0 where
  pub owner : ℕ
  pub messages : List RawMessage
  pub complete : Bool

-- a batch that was taken by the reader of a request
pub record Taken : Type 0 where
  pub id : ℕ
  pub messages : List RawMessage

-- what a list of events stands for
pub record State : Type 0 where
  -- the requests, request k at place k
  pub book : List Booking
  -- for each of them, whether it is a copy that isn't ended
  pub copying : List Bool
  -- the parts that went out
  pub gone_out : List (List ℕ)
  -- the batches that came
  pub deliveries : List Delivery
  -- the batches that readers took
  pub takes : List Taken
  -- the requests whose reader hung up
  pub hung_up : List ℕ
  -- the next numbers
  pub statements : ℕ
  pub portals : ℕ
  -- what is kept of the server's catalog
  pub catalog : Catalog
  -- no request is booked any more
  pub closed : Bool
  -- nothing comes any more
  pub failed : Bool

-- nothing has happened; the counters start at these numbers
abbrev pub start : (statements portals : ℕ) → State
start statements portals = record {
  book = [];
  copying = [];
  gone_out = [];
  deliveries = [];
  takes = [];
  hung_up = [];
  statements = statements;
  portals = portals;
  catalog = nothing_kept;
  closed = false;
  failed = false;
}

-- all parts, in order
abbrev pub wire : List Booking → List (List ℕ)
wire [] = []
wire (b ∷ bs) = b.parts ++ wire bs

-- the flag of the first request; a request without one is no copy
abbrev pub first_flag : List Bool → Bool
first_flag [] = false
first_flag (c ∷ cs) = c

-- the flags of the requests behind the first
abbrev pub rest_flags : List Bool → List Bool
rest_flags [] = []
rest_flags (c ∷ cs) = cs

-- the flag of request k
abbrev pub is_copying : ℕ → List Bool → Bool
is_copying k [] = false
is_copying zero (c ∷ cs) = c
is_copying (suc k) (c ∷ cs) = is_copying k cs

-- a part more of request k
abbrev pub extended : ℕ → List ℕ → List Booking → List Booking
extended k part [] = []
extended zero part (b ∷ bs) = record { stamp = b.stamp; parts = b.parts ++ part ∷ [] } ∷ bs
extended (suc k) part (b ∷ bs) = b ∷ extended k part bs

-- how many parts of request k wait, where n parts went out
abbrev pub waits_of : ℕ → ℕ → List Booking → ℕ
waits_of n k [] = 0
waits_of n zero (b ∷ bs) = length b.parts - n
waits_of n (suc k) (b ∷ bs) = waits_of (n - length b.parts) k bs

-- how many requests have begun to go out, where n parts went out
abbrev pub started : ℕ → List Booking → ℕ
started n [] = 0
started zero (b ∷ bs) = 0
started (suc n) (b ∷ bs) = suc (started (suc n - length b.parts) bs)

-- how many batches ended a reply
abbrev pub finished : List Delivery → ℕ
finished [] = 0
finished (d ∷ ds) = if d.complete then suc (finished ds) else finished ds

-- the batches that belong to request k
abbrev pub given : ℕ → List Delivery → List (List RawMessage)
given k [] = []
given k (d ∷ ds) = if d.owner == k then d.messages ∷ given k ds else given k ds

-- the reply to request k has ended: a batch that ends one belongs to it
abbrev pub has_ended : ℕ → List Delivery → Bool
has_ended k [] = false
has_ended k (d ∷ ds) = (d.complete && (d.owner == k)) || has_ended k ds

-- the batches behind the k-th that ends a reply, up to the next that does
abbrev pub between_ends : ℕ → List Delivery → List (List RawMessage)
between_ends k [] = []
between_ends zero (d ∷ ds) = d.messages ∷ (if d.complete then [] else between_ends zero ds)
between_ends (suc k) (d ∷ ds) = between_ends (if d.complete then k else suc k) ds

-- the batches that the reader of request k took
abbrev pub taken : ℕ → List Taken → List (List RawMessage)
taken k [] = []
taken k (t ∷ ts) = if t.id == k then t.messages ∷ taken k ts else taken k ts

-- the batches of request k that wait for its reader
abbrev pub waiting : State → ℕ → List (List RawMessage)
waiting s k = drop (length (taken k s.takes)) (given k s.deliveries)

-- the number stands in the list
abbrev pub is_in : ℕ → List ℕ → Bool
is_in k [] = false
is_in k (x ∷ xs) = (x == k) || is_in k xs

-- the reader of request k hung up
abbrev pub is_hung_up : State → ℕ → Bool
is_hung_up s k = is_in k s.hung_up

-- its reader may still hang up: the request is booked, and it didn't
abbrev pub may_let_go : State → ℕ → Bool
may_let_go s k = nat_lt k (length s.book) && not (is_hung_up s k)

-- request k is a copy that takes parts: it isn't ended, and its reader didn't hang up
abbrev pub is_running : State → ℕ → Bool
is_running s k = is_copying k s.copying && not (is_hung_up s k)

-- how many parts of request k wait
abbrev pub parts_waiting : State → ℕ → ℕ
parts_waiting s k = waits_of (length s.gone_out) k s.book

-- how many requests have begun to go out
abbrev pub started_of : State → ℕ
started_of s = started (length s.gone_out) s.book

-- the first part of request k went out
abbrev pub has_begun : State → ℕ → Bool
has_begun s k = nat_lt k (started_of s)

-- request k is open: its first part went out, and no batch that ends a reply belongs to it
abbrev pub is_open : State → ℕ → Bool
is_open s k = has_begun s k && not (has_ended k s.deliveries)

-- the first of n numbers, from k on, of which this is true
abbrev pub first_from : (ℕ → Bool) → (k n : ℕ) → Option ℕ
first_from p k zero = None
first_from p k (suc n) = if p k then Some k else first_from p (suc k) n

-- the oldest open request
abbrev pub oldest_open : State → Option ℕ
oldest_open s = first_from (is_open s) 0 (length s.book)

-- some request is open
abbrev pub has_open : State → Bool
has_open s = is_some (oldest_open s)

-- a batch that comes now belongs to the oldest open request, and where none is open to none of the book
abbrev pub next_owner : State → ℕ
next_owner s = unwrap_or (oldest_open s) (length s.book)

-- no request is taken any more
abbrev pub ended : State → Bool
ended s = s.closed || s.failed

-- what a call changes: an answer that refuses it, or tells that there is nothing, changes nothing
pub data Change : Type 0 where
  Booked : Stamp → (part : List ℕ) → (copying : Bool) → Change
  Added : (id : ℕ) → (part : List ℕ) → Change
  Ended : (id : ℕ) → (part : List ℕ) → Change
  Took : (id : ℕ) → List RawMessage → Change
  LetGo : (id : ℕ) → Change
  DrewStatement : Change
  DrewPortal : Change
  Catalogued : CatalogCall → Change
  WentOut : (part : List ℕ) → Change
  Came : List RawMessage → (complete : Bool) → Change
  ClosedAll : Change
  FailedAll : Change
  Nothing : Change

-- by an event
abbrev pub change_of : Event → Change
change_of (Book stamp part copying (Ok id)) = Booked stamp part copying
change_of (PutEvent id part putting.Took) = Added id part
change_of (EndCopy id part putting.Took) = Ended id part
change_of (TakeEvent id (Ok (taking.Batch messages))) = Took id messages
change_of (HangUp id (Ok x)) = LetGo id
change_of (NextStatement (Ok n)) = DrewStatement
change_of (NextPortal (Ok n)) = DrewPortal
change_of (CatalogEvent call) = Catalogued call
change_of (NextOut (Ok (out.Part part))) = WentOut part
change_of (DeliverEvent messages complete delivering.Taken) = Came messages complete
change_of (CloseRequests (Ok x)) = ClosedAll
change_of (Fail (Ok x)) = FailedAll
change_of e = Nothing

-- a state with it
abbrev pub changed : State → Change → State
changed s (Booked stamp part copying) = record s { book = s.book ++ record { stamp = stamp; parts = part ∷ [] } ∷ []; copying = s.copying ++ copying ∷ [] }
changed s (Added id part) = record s { book = extended id part s.book }
changed s (Ended id part) = record s { book = extended id part s.book; copying = slice_set s.copying id false }
changed s (Took id messages) = record s { takes = s.takes ++ record { id = id; messages = messages } ∷ [] }
changed s (LetGo id) = record s { hung_up = if may_let_go s id then s.hung_up ++ id ∷ [] else s.hung_up }
changed s DrewStatement = record s { statements = s.statements + 1 }
changed s DrewPortal = record s { portals = s.portals + 1 }
changed s (Catalogued call) = record s { catalog = after_catalog s.catalog call }
changed s (WentOut part) = record s { gone_out = s.gone_out ++ part ∷ [] }
changed s (Came messages complete) = record s { deliveries = s.deliveries ++ record { owner = next_owner s; messages = messages; complete = complete } ∷ [] }
changed s ClosedAll = record s { closed = true }
changed s FailedAll = record s { failed = true }
changed s Nothing = s

-- requests, batches and parts move by it. Letting go what nobody may let go any more moves nothing
abbrev pub is_move : State → Change → Bool
is_move s (Booked stamp part copying) = true
is_move s (Added id part) = true
is_move s (Ended id part) = true
is_move s (Took id messages) = true
is_move s (LetGo id) = may_let_go s id
is_move s (WentOut part) = true
is_move s (Came messages complete) = true
is_move s _ = false

-- the state after an event
abbrev pub after : State → Event → State
after s e = changed s (change_of e)

-- the state after a list of events
abbrev pub after_all : State → List Event → State
after_all s [] = s
after_all s (e ∷ es) = after_all (after s e) es

-- what take answers of a request that is booked and wasn't hung up, by the batches that wait for it
abbrev pub take_of_waiting : State → ℕ → List (List RawMessage) → Take
take_of_waiting s id (messages ∷ more) = taking.Batch messages
take_of_waiting s id [] = if s.failed then taking.Gone else (if has_ended id s.deliveries then taking.Over else taking.Empty)

-- what take answers; a request that isn't booked is gone, as one whose reader hung up
abbrev pub take_answer : State → ℕ → Take
take_answer s id =
    if nat_lt id (length s.book)
    then (if is_hung_up s id then taking.Gone else take_of_waiting s id (waiting s id))
    else taking.Gone

-- what next_out answers where all has gone out
abbrev pub last_out : State → Out
last_out s = if has_open s then out.Nothing else (if s.closed then out.NoMore else out.Nothing)

-- the first of these parts, else another answer
abbrev pub first_part : List (List ℕ) → Out → Out
first_part (part ∷ parts) other = out.Part part
first_part [] other = other

-- The next part of the oldest request that hasn't gone out whole, where n parts went out. Nothing goes out behind a copy that isn't
-- ended.
abbrev pub next_part : (last : Out) → ℕ → List Booking → List Bool → Out
next_part last n [] cs = last
next_part last n (b ∷ bs) cs =
    first_part (drop n b.parts) (if first_flag cs then out.CopyWaits else next_part last (n - length b.parts) bs (rest_flags cs))

-- what next_out answers, where the hub hasn't failed
abbrev pub out_answer : State → Out
out_answer s = next_part (last_out s) (length s.gone_out) s.book s.copying

-- Whether an answer follows from the state before its call. Want of memory may be answered in any state: a desk that stores its
-- events may lack the room for any of them. What it hands back is what was passed.
abbrev pub Allows : State → Event → Type 0
Allows s (Book stamp part copying (Ok id)) = (ended s ≡ false) × (id ≡ length s.book)
Allows s (Book stamp part copying (Err fault.Closed)) = ended s ≡ true
Allows s (Book stamp part copying (Err fault.Encode)) = ⊥
Allows s (Book stamp part copying (Err fault.OutOfMemory)) = Unit {0}
Allows s (PutEvent id part putting.Took) = (s.failed ≡ false) × (is_running s id ≡ true) × (parts_waiting s id < 2)
Allows s (PutEvent id part (putting.Full back)) = (back ≡ part) × (s.failed ≡ false) × (is_running s id ≡ true) × (2 ≤ parts_waiting s id)
Allows s (PutEvent id part (putting.Gone back)) = (back ≡ part) × ((s.failed ≡ true) ⊎ (is_running s id ≡ false))
Allows s (PutEvent id part (putting.OutOfMemory back)) = back ≡ part
Allows s (EndCopy id part putting.Took) = (s.failed ≡ false) × (is_running s id ≡ true)
Allows s (EndCopy id part (putting.Full back)) = ⊥
Allows s (EndCopy id part (putting.Gone back)) = (back ≡ part) × ((s.failed ≡ true) ⊎ (is_running s id ≡ false))
Allows s (EndCopy id part (putting.OutOfMemory back)) = back ≡ part
Allows s (TakeEvent id (Ok answer)) = answer ≡ take_answer s id
Allows s (TakeEvent id (Err e)) = e ≡ fault.OutOfMemory
Allows s (HangUp id (Ok x)) = Unit {0}
Allows s (HangUp id (Err e)) = e ≡ fault.OutOfMemory
Allows s (NextStatement (Ok n)) = (s.failed ≡ false) × (n ≡ s.statements) × (n < 2 ^ 32 - 1)
Allows s (NextStatement (Err fault.Closed)) = s.failed ≡ true
Allows s (NextStatement (Err fault.Encode)) = (s.failed ≡ false) × (s.statements ≡ 2 ^ 32 - 1)
Allows s (NextStatement (Err fault.OutOfMemory)) = Unit {0}
Allows s (NextPortal (Ok n)) = (s.failed ≡ false) × (n ≡ s.portals) × (n < 2 ^ 32 - 1)
Allows s (NextPortal (Err fault.Closed)) = s.failed ≡ true
Allows s (NextPortal (Err fault.Encode)) = (s.failed ≡ false) × (s.portals ≡ 2 ^ 32 - 1)
Allows s (NextPortal (Err fault.OutOfMemory)) = Unit {0}
Allows s (CatalogEvent call) = AllowsCatalog s.failed s.catalog call
Allows s (NextOut (Ok answer)) = (s.failed ≡ false) × (answer ≡ out_answer s)
Allows s (NextOut (Err fault.Closed)) = s.failed ≡ true
Allows s (NextOut (Err fault.Encode)) = ⊥
Allows s (NextOut (Err fault.OutOfMemory)) = Unit {0}
Allows s (DeliverEvent batch complete delivering.Taken) =
    (is_batch complete batch ≡ true) × (has_open s ≡ true)
    × ((is_hung_up s (next_owner s) ≡ true) ⊎ (length (waiting s (next_owner s)) < 2))
Allows s (DeliverEvent batch complete (delivering.Full back)) =
    (back ≡ batch) × (has_open s ≡ true) × (is_hung_up s (next_owner s) ≡ false) × (2 ≤ length (waiting s (next_owner s)))
Allows s (DeliverEvent batch complete (delivering.NoRequest back)) = (back ≡ batch) × (has_open s ≡ false)
Allows s (DeliverEvent batch complete (delivering.OutOfMemory back)) = back ≡ batch
Allows s (CloseRequests (Ok x)) = Unit {0}
Allows s (CloseRequests (Err e)) = e ≡ fault.OutOfMemory
Allows s (Fail (Ok x)) = Unit {0}
Allows s (Fail (Err e)) = e ≡ fault.OutOfMemory

-- what legality says of a change: all that proofs on states need of an answer
abbrev pub Admits : State → Change → Type 0
Admits s (Booked stamp part copying) = ended s ≡ false
Admits s (Added id part) = (s.failed ≡ false) × (is_running s id ≡ true) × (parts_waiting s id < 2)
Admits s (Ended id part) = (s.failed ≡ false) × (is_running s id ≡ true)
Admits s (Took id messages) = taking.Batch messages ≡ take_answer s id
Admits s DrewStatement = s.failed ≡ false
Admits s DrewPortal = s.failed ≡ false
Admits s (WentOut part) = (s.failed ≡ false) × (out.Part part ≡ out_answer s)
Admits s (Came batch complete) =
    (is_batch complete batch ≡ true) × (has_open s ≡ true)
    × ((is_hung_up s (next_owner s) ≡ true) ⊎ (length (waiting s (next_owner s)) < 2))
Admits s change = Unit {0}

-- each answer follows from the state before its call
abbrev pub IsLegal : State → List Event → Type 0
IsLegal s [] = Unit {0}
IsLegal s (e ∷ es) = Allows s e × IsLegal (after s e) es

-- Over a desk that stores nothing, want of memory comes only where the call would take some.
abbrev pub Needs : State → Event → Type 0
Needs s (Book stamp part copying (Err fault.OutOfMemory)) = ended s ≡ false
Needs s (PutEvent id part (putting.OutOfMemory back)) = (s.failed ≡ false) × (is_running s id ≡ true) × (parts_waiting s id < 2)
Needs s (EndCopy id part (putting.OutOfMemory back)) = (s.failed ≡ false) × (is_running s id ≡ true)
Needs s (TakeEvent id (Err e)) = ⊥
Needs s (HangUp id (Err e)) = ⊥
Needs s (NextStatement (Err fault.OutOfMemory)) = ⊥
Needs s (NextPortal (Err fault.OutOfMemory)) = ⊥
Needs s (CatalogEvent call) = NeedsCatalog s.failed s.catalog call
Needs s (NextOut (Err fault.OutOfMemory)) = ⊥
Needs s (DeliverEvent batch complete (delivering.OutOfMemory back)) = ⊥
Needs s (CloseRequests (Err e)) = ⊥
Needs s (Fail (Err e)) = ⊥
Needs s e = Unit {0}

-- legal, and no want of memory where none is taken
abbrev pub IsExact : State → List Event → Type 0
IsExact s [] = Unit {0}
IsExact s (e ∷ es) = Allows s e × Needs s e × IsExact (after s e) es

-- the messages that were received, in order
abbrev pub received : List Delivery → List RawMessage
received [] = []
received (d ∷ ds) = d.messages ++ received ds

-- lists joined end to end
abbrev pub joined : {A : Type 0} → List (List A) → List A
joined [] = []
joined (xs ∷ xss) = xs ++ joined xss

-- one list is the front of the other
abbrev pub IsFrontOf : {A : Type 0} → List A → List A → Type 0
IsFrontOf {A} xs ys = (rest : List A) × (xs ++ rest ≡ ys)

-- the reply to request k, as far as it came
abbrev pub reply : ℕ → List RawMessage → List RawMessage
reply k ms = unwrap_or (slice_get (groups ms) k) []

-- nothing behind a copy that isn't ended went out, where n parts went out
abbrev pub GoesInOrder : ℕ → List Booking → List Bool → Type 0
GoesInOrder n [] cs = n ≡ 0
GoesInOrder n (b ∷ bs) cs = (first_flag cs ≡ true → n ≤ length b.parts) × GoesInOrder (n - length b.parts) bs (rest_flags cs)

-- this request is open, and no older one is
pub record IsOldestOpen (s : State) (k : ℕ) : Type 0 where
  pub booked : k < length s.book
  pub open_ : is_open s k ≡ true
  pub oldest : (j : ℕ) → j < k → is_open s j ≡ false

-- the batch belongs to the request that was the oldest open one before, and to no other
pub record BelongsToOldest (old : State) (batch : List RawMessage) (new : State) : Type 0 where
  pub owner : ℕ
  pub is_oldest : IsOldestOpen old owner
  pub given_is : (k : ℕ) → given k new.deliveries ≡ (if owner == k then given k old.deliveries ++ batch ∷ [] else given k old.deliveries)

-- What holds of every state that a legal list leads to.
pub record IsSound (s : State) : Type 0 where
  pub taken_is_front : (k : ℕ) → IsFrontOf (taken k s.takes) (given k s.deliveries)
  pub given_is_group : (k : ℕ) → joined (given k s.deliveries) ≡ reply k (received s.deliveries)
  -- replies come one after another, so cutting at their ends gives the same
  pub given_is_between : (k : ℕ) → given k s.deliveries ≡ between_ends k s.deliveries
  pub ended_in_order : (k : ℕ) → has_ended k s.deliveries ≡ nat_lt k (finished s.deliveries)
  pub at_most_two : (k : ℕ) → is_hung_up s k ≡ false → length (waiting s k) ≤ 2
  -- so the parts of a request go out together
  pub out_is_front : IsFrontOf s.gone_out (wire s.book)
  pub none_behind : GoesInOrder (length s.gone_out) s.book s.copying
  -- two parts of a copy, and the closing one behind them where it is ended
  pub few_parts_wait : (k : ℕ) → parts_waiting s k ≤ (if is_copying k s.copying then 2 else 3)

-- A call that wants memory, and no other, leaves no event in a list that is stored. In a list that isn't, it may stand, and changes
-- nothing.
abbrev pub leaves_event : Event → Bool
leaves_event (Book stamp part copying (Err fault.OutOfMemory)) = false
leaves_event (PutEvent id part (putting.OutOfMemory back)) = false
leaves_event (EndCopy id part (putting.OutOfMemory back)) = false
leaves_event (TakeEvent id (Err fault.OutOfMemory)) = false
leaves_event (HangUp id (Err fault.OutOfMemory)) = false
leaves_event (NextStatement (Err fault.OutOfMemory)) = false
leaves_event (NextPortal (Err fault.OutOfMemory)) = false
leaves_event (CatalogEvent call) = leaves_catalog call
leaves_event (NextOut (Err fault.OutOfMemory)) = false
leaves_event (DeliverEvent batch complete (delivering.OutOfMemory back)) = false
leaves_event (CloseRequests (Err fault.OutOfMemory)) = false
leaves_event (Fail (Err fault.OutOfMemory)) = false
leaves_event e = true

-- the events that a list which is stored holds
abbrev pub kept : List Event → List Event
kept [] = []
kept (e ∷ es) = if leaves_event e then e ∷ kept es else kept es
