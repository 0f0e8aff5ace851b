-- How the parts of a read step may end, and why.
use Rattle.std.specs.Prelude.{◌≡◌, ℕ, ◌+◌, ◌<◌, ◌≤◌, ◌⊎◌, Bool, true, false, IsTrue, List, [], ◌∷◌, ◌++◌, length, Option, Some, None, IfSome, Result, Ok, Err}
use Rattle.std.specs.List.{list_all}
use Rattle.pg_spec.specs.Asides.{aside_fault, is_readable, unasked, out_of_turn}
use Rattle.pg_spec.specs.DbErrors.{db_error_of}
use Rattle.pg_spec.specs.Faults as faults
use Rattle.pg_spec.specs.Links.{LinkView, Rose, due_by}
use Rattle.pg_spec.specs.Messages.{message_of, NoticeResponse, ParameterStatus}
use Rattle.pg_spec.specs.RawMessages.{RawMessage, messages, bytes_left, has_bad_header, is_aside, sync_of, async_of as asides_of}
use Rattle.pg_spec.specs.Report.{async_message, async_of_raw}
use Rattle.pg_wire.specs.declared.body.ErrorResponseBody.{ErrorResponseBody}
use Rattle.pg_wire.specs.declared.message.Message.{Message}
use Rattle.pg_wire.specs.declared.message.Message.TheVariants as wire
use Rattle.pg_wire.specs.Messages.{message_view}
use Rattle.pg_desk.specs.declared.event.Event.{Event}
use Rattle.pg_desk.specs.declared.event.Event.TheVariants.{Deliver}
use Rattle.pg_desk.specs.declared.event.Deliver.TheVariants as answer
use Rattle.pg_errors.specs.declared.async_message.AsyncMessage.{AsyncMessage}
use Rattle.pg_types.specs.declared.cause.Cause.{Cause}
use Rattle.pg_types.specs.declared.db_error.DbError.{DbError}
use Rattle.pg_types.specs.declared.error.Error.{Error}
use Rattle.pg_types.specs.declared.error.Error.TheVariants as error
use Rattle.pg_errors.specs.Parsing.{IsHandedOut}
use Rattle.pg_errors.specs.Views.{async_of}
use Rattle.pg_connect.specs.declared.fault.ConnectionFault.{ConnectionFault}
use Rattle.pg_connect.specs.declared.fault.ConnectionFault.TheVariants as fault
use Rattle.pg_connect.specs.declared.ends.Off.{Off}
use Rattle.pg_connect.specs.declared.ends.Off.TheVariants as off
use Rattle.pg_connect.specs.declared.ends.Step.{Step}
use Rattle.pg_connect.specs.declared.ends.Step.TheVariants as step
use Rattle.pg_connect.specs.declared.ends.ReadEnd.{ReadEnd}
use Rattle.pg_connect.specs.declared.ends.ReadEnd.TheVariants as reads
use Rattle.pg_connect.specs.declared.streams.Streams.{Streams}
use Rattle.pg_connect.specs.Ends.{last_is, some_is}
use Rattle.pg_connect.specs.Kept.{keep}
use Rattle.pg_connect.specs.Passed.{delivered_by}
use Rattle.pg_connect.specs.Passes.{Hands, Passes, StandsLast, waiting, delayed_in}

-- ---- messages that no request asked for

-- why such a message can't be read
abbrev pub IsUnreadable : Message → ConnectionFault → Type 0
IsUnreadable message (fault.Unreadable c) = aside_fault (message_view message) ≡ Some c
IsUnreadable message fault.OutOfMemory = Unit {0}
IsUnreadable message _ = ⊥

-- a parameter report that can be read is kept; nothing is done with a message that is neither reported nor handed out
abbrev pub KeepsReport : Streams → Streams → Message → Type 0
KeepsReport old new (wire.ParameterStatus report) =
    (aside_fault (ParameterStatus report.name report.value) ≡ None) × (new ≡ record old { parameters = keep old.parameters (report.name, report.value) })
KeepsReport old new message = (IsHandedOut message → ⊥) × (new ≡ old)

-- what becomes of a message that no request asked for: it is kept, read to be handed out, or refused
abbrev pub Sorts : Streams → Streams → Message → Result (Option AsyncMessage) ConnectionFault → Type 0
Sorts old new message (Ok None) = KeepsReport old new message
Sorts old new message (Ok (Some handed)) = (async_message (message_view message) ≡ Some (async_of handed)) × (new ≡ old)
Sorts old new message (Err e) = IsUnreadable message e × (new ≡ old)

-- the same where it was taken off the bytes: what is refused stays unread
abbrev pub TakesAside : Streams → Streams → Message → Result Off ConnectionFault → Type 0
TakesAside old new message (Ok off.Kept) = KeepsReport old new message
TakesAside old new message (Ok (off.Handed handed)) = (async_message (message_view message) ≡ Some (async_of handed)) × (new ≡ record old { moved = true })
TakesAside old new message (Ok _) = ⊥
TakesAside old new message (Err e) = IsUnreadable message e × (new ≡ record old { unread = Some message })

-- the list is one message, and this is what it reads as
pub record Carries (handed : List RawMessage) (message : AsyncMessage) : Type 0 where
  pub raw : RawMessage
  pub alone : handed ≡ raw ∷ []
  pub means : async_of_raw raw ≡ Some (async_of message)

-- the first of the notices that are delayed can't be read
pub record LeavesDelayed (s : Streams) (c : Cause) : Type 0 where
  pub notice : ErrorResponseBody
  pub others : List ErrorResponseBody
  pub first : s.delayed.items ≡ notice ∷ others
  pub means : aside_fault (NoticeResponse notice.fields) ≡ Some c

-- an error of reading a message, as the fault of the connection
abbrev pub unreadable_as : Error → ConnectionFault
unreadable_as (error.Parse c) = fault.Unreadable c
unreadable_as _ = fault.OutOfMemory

-- why the first notice that is delayed can't be read
abbrev pub RefusesFirst : Streams → ConnectionFault → Type 0
RefusesFirst s (fault.Unreadable c) = LeavesDelayed s c
RefusesFirst s fault.OutOfMemory = Unit {0}
RefusesFirst s _ = ⊥

-- the first notice that is delayed reads so
pub record FirstReads (s : Streams) (e : DbError) : Type 0 where
  pub notice : ErrorResponseBody
  pub others : List ErrorResponseBody
  pub first : s.delayed.items ≡ notice ∷ others
  pub means : db_error_of notice.fields ≡ Some e

-- how the first notice that is delayed reads
abbrev pub ReadsFirst : Streams → Option (Result DbError ConnectionFault) → Type 0
ReadsFirst s None = s.delayed.items ≡ []
ReadsFirst s (Some (Ok e)) = FirstReads s e
ReadsFirst s (Some (Err e)) = RefusesFirst s e

-- ---- why reading ends

-- how many bytes are read at once, at most
abbrev pub piece_size : ℕ
piece_size = 8192

-- the mailbox of the request is full
abbrev pub is_full : Event → Bool
is_full (Deliver batch complete (answer.Full back)) = true
is_full _ = false

-- no mailbox was full
abbrev pub NoneFull : List Event → Type 0
NoneFull events = some_is is_full events ≡ false

-- no request is open
abbrev pub has_no_request : Event → Bool
has_no_request (Deliver batch complete (answer.NoRequest back)) = true
has_no_request _ = false

-- what a message means that comes where no request is open
abbrev pub MeansUnasked : Message → ConnectionFault → Type 0
MeansUnasked message (fault.Unasked e) = e ≡ unasked (message_view message)
MeansUnasked message fault.OutOfMemory = Unit {0}
MeansUnasked message _ = ⊥

-- what a batch means that comes where no request is open: what its first message means
abbrev pub IsUnasked : List RawMessage → ConnectionFault → Type 0
IsUnasked (first ∷ batch) (fault.Unasked e) = e ≡ out_of_turn first
IsUnasked batch fault.OutOfMemory = Unit {0}
IsUnasked batch _ = ⊥

-- the call gave the batch back that is held
abbrev pub GivesBack : List RawMessage → Event → Type 0
GivesBack held (Deliver batch complete (answer.Full back)) = batch ≡ held
GivesBack held (Deliver batch complete (answer.NoRequest back)) = batch ≡ held
GivesBack held _ = ⊥

-- the last call did so
abbrev pub LastGivesBack : List RawMessage → List Event → Type 0
LastGivesBack held [] = ⊥
LastGivesBack held (e ∷ []) = GivesBack held e
LastGivesBack held (e ∷ f ∷ es) = LastGivesBack held (f ∷ es)

-- the mailbox of the batch that is held is full
abbrev pub MeetsFull : Streams → List Event → Type 0
MeetsFull new events = (last_is is_full events ≡ true) × LastGivesBack (waiting new.held) events

-- no request is open for the batch that is held, and that is what it means
abbrev pub MeetsNoRequest : Streams → Error → List Event → Type 0
MeetsNoRequest new e events =
    (last_is has_no_request events ≡ true) × IsUnasked (waiting new.held) (fault.Unasked e) × LastGivesBack (waiting new.held) events

-- More was given than the limit allows: by one piece, of which nothing is decoded. No batch is held, no notice
-- delayed, and no message unread.
pub record IsOnePastLimit (s : Streams) (given limit : ℕ) : Type 0 where
  pub piece : given ≤ limit + piece_size
  pub undecoded : given ≤ limit + length s.buffer.items
  pub held : waiting s.held ≡ []
  pub delayed : delayed_in s ≡ []
  pub unread : s.unread ≡ None

-- every whole message that was given is decoded, and what is left isn't refused
pub record AllDecoded (s : Streams) : Type 0 where
  pub none_whole : messages s.buffer.items ≡ []
  pub no_bad_header : has_bad_header s.buffer.items ≡ false

-- no batch is held, no notice delayed, and no message lies there that couldn't be read
pub record IsCleared (s : Streams) : Type 0 where
  pub held : waiting s.held ≡ []
  pub delayed : delayed_in s ≡ []
  pub unread : s.unread ≡ None

-- The bytes are some messages, then one that reads so, and then what is left.
pub record EndsAt (bytes left : List ℕ) (message : AsyncMessage) : Type 0 where
  pub front : List RawMessage
  pub raw : RawMessage
  pub is : messages bytes ≡ front ++ (raw ∷ messages left)
  pub means : async_of_raw raw ≡ Some (async_of message)

-- A header is in front that is none. No batch is held, no notice delayed, and no message unread.
pub record BreaksHeader (s : Streams) : Type 0 where
  pub header : has_bad_header s.buffer.items ≡ true
  pub held : waiting s.held ≡ []
  pub delayed : delayed_in s ≡ []
  pub unread : s.unread ≡ None

-- The message in front, which no request asked for, breaks its layout. No batch is held, no notice delayed, and no
-- message unread.
pub record BreaksLayout (s : Streams) : Type 0 where
  pub raw : RawMessage
  pub rest : List RawMessage
  pub front : messages s.buffer.items ≡ raw ∷ rest
  pub aside : is_aside raw ≡ true
  pub broken : message_of raw ≡ Err faults.Layout
  pub held : waiting s.held ≡ []
  pub delayed : delayed_in s ≡ []
  pub unread : s.unread ≡ None

-- The message that came off last can't be read. No batch is held, and no notice delayed.
pub record LeavesUnread (s : Streams) (c : Cause) : Type 0 where
  pub message : Message
  pub unread : s.unread ≡ Some message
  pub means : aside_fault (message_view message) ≡ Some c
  pub held : waiting s.held ≡ []
  pub delayed : delayed_in s ≡ []

-- ---- the steps

-- what is handed out where a message was taken off
abbrev pub HandedOff : Result Off ConnectionFault → List RawMessage → Type 0
HandedOff (Ok (off.Handed message)) handed = Carries handed message
HandedOff _ handed = handed ≡ []

-- how the message or the batch in front was taken off
abbrev pub OffEnds : Streams → Streams → Result Off ConnectionFault → Type 0
OffEnds old new (Ok off.Held) = length new.buffer.items < length old.buffer.items
OffEnds old new (Ok off.Kept) = (length new.buffer.items < length old.buffer.items) × (new.held ≡ None)
OffEnds old new (Ok (off.Handed message)) = EndsAt old.buffer.items new.buffer.items message
OffEnds old new (Ok off.Nothing) = AllDecoded new × (new.held ≡ None)
OffEnds old new (Err fault.BadLength) = BreaksHeader new
OffEnds old new (Err fault.Layout) = BreaksLayout new
OffEnds old new (Err (fault.Unreadable c)) = LeavesUnread new c
OffEnds old new (Err fault.OutOfMemory) = Unit {0}
OffEnds old new (Err _) = ⊥

-- how a batch that is held was delivered
abbrev pub DeliverEnds : Streams → Result Bool ConnectionFault → List Event → Type 0
DeliverEnds new (Ok true) events = (new.held ≡ None) × NoneFull events
DeliverEnds new (Ok false) events = MeetsFull new events
DeliverEnds new (Err (fault.Unasked e)) events = MeetsNoRequest new e events
DeliverEnds new (Err fault.OutOfMemory) events = Unit {0}
DeliverEnds new (Err _) events = ⊥

-- what is handed out where something was passed on
abbrev pub HandedIn : Result (Option Step) ConnectionFault → List RawMessage → Type 0
HandedIn (Ok (Some (step.Handed message))) handed = Carries handed message
HandedIn _ handed = handed ≡ []

-- how a message or a batch was passed on
abbrev pub PassEnds : Streams → Streams → Result (Option Step) ConnectionFault → List Event → Type 0
PassEnds old new (Ok None) events = (length new.buffer.items < length old.buffer.items) × (new.held ≡ None) × NoneFull events
PassEnds old new (Ok (Some (step.Handed message))) events = EndsAt old.buffer.items new.buffer.items message
PassEnds old new (Ok (Some step.Full)) events = MeetsFull new events
PassEnds old new (Ok (Some step.Nothing)) events = AllDecoded new × (new.held ≡ None) × NoneFull events
PassEnds old new (Err fault.BadLength) events = BreaksHeader new
PassEnds old new (Err fault.Layout) events = BreaksLayout new
PassEnds old new (Err (fault.Unreadable c)) events = LeavesUnread new c
PassEnds old new (Err (fault.Unasked e)) events = MeetsNoRequest new e events
PassEnds old new (Err fault.OutOfMemory) events = Unit {0}
PassEnds old new (Err _) events = ⊥

-- what is handed out where all that is buffered was passed on
abbrev pub HandedAll : Result Step ConnectionFault → List RawMessage → Type 0
HandedAll (Ok (step.Handed message)) handed = Carries handed message
HandedAll _ handed = handed ≡ []

-- how all that is buffered was passed on
abbrev pub AllEnds : Streams → Streams → Result Step ConnectionFault → List Event → Type 0
AllEnds old new (Ok (step.Handed message)) events = EndsAt old.buffer.items new.buffer.items message
AllEnds old new (Ok step.Full) events = MeetsFull new events
AllEnds old new (Ok step.Nothing) events = AllDecoded new × (new.held ≡ None) × NoneFull events
AllEnds old new (Err fault.BadLength) events = BreaksHeader new
AllEnds old new (Err fault.Layout) events = BreaksLayout new
AllEnds old new (Err (fault.Unreadable c)) events = LeavesUnread new c
AllEnds old new (Err (fault.Unasked e)) events = MeetsNoRequest new e events
AllEnds old new (Err fault.OutOfMemory) events = Unit {0}
AllEnds old new (Err _) events = ⊥

-- what is handed out of the notices that are delayed
abbrev pub HandedLate : Result (Option AsyncMessage) ConnectionFault → List RawMessage → Type 0
HandedLate (Ok (Some message)) handed = Carries handed message
HandedLate _ handed = handed ≡ []

-- how the notices that are delayed were looked at
abbrev pub LateEnds : Streams → Streams → Result (Option AsyncMessage) ConnectionFault → Type 0
LateEnds old new (Ok None) = new.delayed.items ≡ []
LateEnds old new (Ok (Some message)) = 0 < length old.delayed.items
LateEnds old new (Err e) = RefusesFirst new e

-- what is due by the plan was given
abbrev pub NothingDue : LinkView → Type 0
NothingDue link = IfSome link.plan (λ plan. IfSome link.given (λ given. IfSome link.taken (λ taken. due_by plan given taken ≡ [])))

-- A read wasn't ready; a steady link had nothing due then. Where nothing moved, that is a lull of a link that was
-- promised to be ready.
pub record WasDry (moved : Bool) (before after : LinkView) : Type 0 where
  pub rose : Rose before.dry after.dry
  pub quiet : Rose before.quiet after.quiet
  pub nothing_due : IsTrue before.steady → NothingDue after
  pub empty : IsTrue before.steady → after.due ≡ Some []
  pub lulls : moved ≡ false → IsTrue before.promised → Rose before.lulls after.lulls

-- these bytes were due, and what was due behind them still is
abbrev pub GaveDue : (before after : Option (List ℕ)) → List ℕ → Type 0
GaveDue None after got = Unit {0}
GaveDue (Some due) after got = (rest : List ℕ) × (due ≡ got ++ rest) × (after ≡ Some rest)

-- What passed where a piece was read: it lies behind the bytes that lay there, and it was due.
pub record TakesIn (old new : Streams) (before after : LinkView) : Type 0 where
  pub passes : Passes old new before after [] []
  pub buffer : new.buffer.items ≡ old.buffer.items ++ passes.got
  pub due : GaveDue before.due after.due passes.got

-- how a piece was read
abbrev pub PieceEnds : Streams → Streams → LinkView → LinkView → Result Bool ConnectionFault → Type 0
PieceEnds old new before after (Ok true) = (old.given < new.given) × (new.given ≤ new.max_bytes)
PieceEnds old new before after (Ok false) = WasDry new.moved before after × (new.buffer.items ≡ old.buffer.items) × (new.given ≡ old.given)
PieceEnds old new before after (Err fault.Link) = Rose before.faults after.faults
PieceEnds old new before after (Err fault.Closed) = Rose before.ends after.ends × (new.buffer.items ≡ [])
PieceEnds old new before after (Err fault.Ended) = Rose before.ends after.ends × (0 < length new.buffer.items) × (new.buffer.items ≡ old.buffer.items)
PieceEnds old new before after (Err (fault.LimitReached given most)) = (given ≡ new.given) × (most ≡ new.max_bytes) × (most < given)
    × (given ≤ most + piece_size) × (given ≤ most + length new.buffer.items)
PieceEnds old new before after (Err fault.OutOfMemory) = Unit {0}
PieceEnds old new before after (Err _) = ⊥

-- No more than the limit was given, unless the answer is that more were.
abbrev pub IsWithin : {A : Type 0} → Streams → Result A ConnectionFault → Type 0
IsWithin s (Err (fault.LimitReached given limit)) = Unit {0}
IsWithin s other = s.given ≤ s.max_bytes

-- what is handed out by a read step
abbrev pub HandedBy : Result ReadEnd ConnectionFault → List RawMessage → Type 0
HandedBy (Ok (reads.Handed message)) handed = Carries handed message
HandedBy _ handed = handed ≡ []

-- The input ended inside a message. No batch is held, no notice delayed, and no message unread.
pub record EndsInside (s : Streams) (before after : LinkView) : Type 0 where
  pub rose : Rose before.ends after.ends
  pub some : 0 < length s.buffer.items
  pub decoded : AllDecoded s
  pub held : waiting s.held ≡ []
  pub delayed : delayed_in s ≡ []
  pub unread : s.unread ≡ None

-- How a read step ended: a message is handed out, a mailbox is full, or the link isn't ready, all is decoded
-- and nothing of it lies there. Or why it was broken off.
abbrev pub ReadEnds : Streams → LinkView → LinkView → Result ReadEnd ConnectionFault → List Event → Type 0
ReadEnds new before after (Ok (reads.Handed message)) events = Unit {0}
ReadEnds new before after (Ok reads.Full) events = MeetsFull new events × (delayed_in new ≡ [])
ReadEnds new before after (Ok reads.Dry) events = WasDry new.moved before after × AllDecoded new × IsCleared new
ReadEnds new before after (Err fault.Link) events = Rose before.faults after.faults
ReadEnds new before after (Err fault.Closed) events = Rose before.ends after.ends × (new.buffer.items ≡ []) × (waiting new.held ≡ []) × (delayed_in new ≡ []) × (new.unread ≡ None)
ReadEnds new before after (Err fault.Ended) events = EndsInside new before after
ReadEnds new before after (Err fault.BadLength) events = BreaksHeader new
ReadEnds new before after (Err fault.Layout) events = BreaksLayout new
-- a delayed notice comes first, so nothing was done before it
ReadEnds new before after (Err (fault.Unreadable c)) events = LeavesUnread new c ⊎ (LeavesDelayed new c × (events ≡ []))
ReadEnds new before after (Err (fault.Unasked e)) events = MeetsNoRequest new e events × (delayed_in new ≡ [])
ReadEnds new before after (Err (fault.LimitReached given most)) events = (given ≡ new.given) × (most ≡ new.max_bytes) × (most < given) × IsOnePastLimit new given most
ReadEnds new before after (Err fault.OutOfMemory) events = Unit {0}

-- ---- how far reading goes

-- Behind these bytes more had to be read: no notice was delayed, all that had come was passed on, with no message to
-- hand out, none that can't be read, no header that is none and no full mailbox, and no more was given than the limit
-- allows.
pub record NeedsMore (old : Streams) (front : List ℕ) (events : List Event) : Type 0 where
  pub no_delayed : delayed_in old ≡ []
  pub none_aside : asides_of (messages (old.buffer.items ++ front)) ≡ []
  pub readable : IsTrue (list_all is_readable (messages (old.buffer.items ++ front)))
  pub no_bad_header : has_bad_header (bytes_left (old.buffer.items ++ front)) ≡ false
  pub earlier : List Event
  pub later : List Event
  pub calls : events ≡ earlier ++ later
  pub passed_on : delivered_by earlier ≡ waiting old.held ++ sync_of (messages (old.buffer.items ++ front))
  pub none_full : NoneFull earlier
  pub within : old.given + length front ≤ old.max_bytes

-- The last piece was read only because more had to be, and so was each piece before it.
pub record Paced (old : Streams) (got : List ℕ) (events : List Event) : Type 0 where
  pub front : List ℕ
  pub piece : List ℕ
  pub all : got ≡ front ++ piece
  pub fits : length piece ≤ piece_size
  pub needed : (got ≡ []) ⊎ NeedsMore old front events

-- A notice was delayed, and before it nothing is read, and the batch that is held isn't delivered.
pub record ComesFirst (old new : Streams) (got : List ℕ) : Type 0 where
  pub delayed : 0 < length old.delayed.items
  pub none_read : got ≡ []
  pub buffer : new.buffer.items ≡ old.buffer.items
  pub held : waiting new.held ≡ waiting old.held

-- reading ends at the message that is handed out: one that was delayed, or the last that came off
abbrev pub StopsAt : Streams → Streams → AsyncMessage → List ℕ → Type 0
StopsAt old new message got = ComesFirst old new got ⊎ EndsAt (old.buffer.items ++ got) new.buffer.items message

-- the same of a read step; past the limit all of the last piece lies there
abbrev pub ReadStops : Streams → Streams → Result ReadEnd ConnectionFault → (got piece : List ℕ) → Type 0
ReadStops old new (Ok (reads.Handed message)) got piece = StopsAt old new message got
ReadStops old new (Err (fault.LimitReached given most)) got piece = StandsLast piece new.buffer.items
ReadStops old new _ got piece = Unit {0}

-- By some calls of a read step the hub became another, these messages were handed out, and it read so far, what was due.
pub record ReadsOn {H : Type 0} (becomes : H → List Event → H → Type 0) (a b : H) (old new : Streams) (before after : LinkView)
    (which : List RawMessage → Type 0) (ends : List Event → Type 0) (stops : (got piece : List ℕ) → Type 0) : Type 0 where
  pub hands : Hands becomes a b old new before after which ends
  pub paced : Paced old hands.goes.passes.got hands.goes.events
  pub stops_there : stops hands.goes.passes.got paced.piece
  pub due : GaveDue before.due after.due hands.goes.passes.got
