-- How a turn of the connection ends, and why.
use Rattle.std.specs.Prelude.{◌≡◌, ℕ, ◌<◌, ◌⊎◌, Bool, true, false, not, IsTrue, List, [], ◌∷◌, ◌++◌, Some, None, IfSome, OnOk, Result, Ok, Err}
use Rattle.pg_spec.specs.Links.{LinkView, Rose, due_by}
use Rattle.pg_spec.specs.RawMessages.{RawMessage}
use Rattle.pg_desk.specs.declared.event.Event.{Event}
use Rattle.pg_connect.specs.declared.fault.ConnectionFault.{ConnectionFault}
use Rattle.pg_connect.specs.declared.fault.ConnectionFault.TheVariants as fault
use Rattle.pg_connect.specs.declared.ends.FlushEnd.{FlushEnd}
use Rattle.pg_connect.specs.declared.ends.FlushEnd.TheVariants as flush
use Rattle.pg_connect.specs.declared.ends.SendEnd.{SendEnd}
use Rattle.pg_connect.specs.declared.ends.SendEnd.TheVariants as send
use Rattle.pg_connect.specs.declared.ends.TurnEnd.{TurnEnd}
use Rattle.pg_connect.specs.declared.ends.TurnEnd.TheVariants as turn
use Rattle.pg_connect.specs.declared.streams.Streams.{Streams}
use Rattle.pg_connect.specs.Ends.{IsFlushedFrom, WasBlocked, last_is, some_is, has_none, has_no_more, is_closed_out, Closes}
use Rattle.pg_connect.specs.Passes.{waiting, delayed_in, Goes, OnlySends, StandsLast}
use Rattle.pg_connect.specs.Reads.{AllDecoded, BreaksHeader, BreaksLayout, Carries, EndsInside, GivesBack, IsCleared, IsOnePastLimit, IsUnasked, LastGivesBack, LeavesDelayed, LeavesUnread, Paced, StopsAt, is_full, has_no_request}

-- the link was shut down, or not
abbrev pub Shuts : Bool → LinkView → LinkView → Type 0
Shuts true before after = IsTrue after.shut
Shuts false before after = after.shut ≡ before.shut

-- where a flush step, sending and a turn say that they shut the link down
abbrev pub is_shut_down : Result FlushEnd ConnectionFault → Bool
is_shut_down (Ok flush.ShutDown) = true
is_shut_down _ = false

-- the same of sending
abbrev pub is_over_sent : Result SendEnd ConnectionFault → Bool
is_over_sent (Ok send.Over) = true
is_over_sent _ = false

-- the same of a turn
abbrev pub is_last_turn : Result TurnEnd ConnectionFault → Bool
is_last_turn (Ok turn.Over) = true
is_last_turn _ = false

-- how a flush step ended, where nothing is unsent; `closing`: Terminate is queued
abbrev pub FlushEnds : Bool → LinkView → LinkView → Result FlushEnd ConnectionFault → Type 0
FlushEnds closing before after (Ok flush.Blocked) = WasBlocked false before after
FlushEnds closing before after (Ok flush.Flushed) = (closing ≡ false) × IsFlushedFrom before after
FlushEnds closing before after (Ok flush.ShutDown) = (closing ≡ true) × IsFlushedFrom before after
FlushEnds closing before after (Err fault.Link) = Rose before.faults after.faults
FlushEnds closing before after (Err _) = ⊥

-- Why no more was written: the link wasn't ready, or it took all that went out and was flushed, and the hub has no part.
abbrev pub StopsWriting : Streams → LinkView → LinkView → List Event → Type 0
StopsWriting new before after events = WasBlocked new.moved before after ⊎ ((new.unsent ≡ []) × (last_is has_none events ≡ true) × IsFlushedFrom before after)

-- Why sending has to wait.
pub record SendWaits (new : Streams) (before after : LinkView) (events : List Event) : Type 0 where
  pub writing : StopsWriting new before after events
  pub closing : new.closing ≡ true → WasBlocked new.moved before after

-- how the write step and the flush step ended
abbrev pub SendEnds : Streams → LinkView → LinkView → Result SendEnd ConnectionFault → List Event → Type 0
SendEnds new before after (Ok send.Waits) events = SendWaits new before after events
SendEnds new before after (Ok send.Over) events = (new.closing ≡ true) × (new.unsent ≡ []) × IsFlushedFrom before after
SendEnds new before after (Err fault.Link) events = Rose before.faults after.faults
SendEnds new before after (Err fault.Closed) events = last_is is_closed_out events ≡ true
SendEnds new before after (Err fault.OutOfMemory) events = Unit {0}
SendEnds new before after (Err _) events = ⊥

-- Where it may close and nothing more will come, it is closing, unless the link wasn't ready.
abbrev pub ClosesThen : Streams → LinkView → LinkView → Bool → List Event → Type 0
ClosesThen new before after may_close events =
    may_close ≡ true → last_is has_no_more events ≡ true → (new.closing ≡ true) ⊎ WasBlocked new.moved before after

-- the same, and where the connection began to close, and the link was shut down
pub record Sends (old new : Streams) (before after : LinkView) (may_close : Bool) (result : Result SendEnd ConnectionFault) (events : List Event) : Type 0 where
  pub end : SendEnds new before after result events
  pub shut : Shuts (is_over_sent result) before after
  pub closes : Closes old new may_close events
  pub must : OnOk result (ClosesThen new before after may_close events)

-- What the plan lets come, by the bytes that the link took before the call, was given.
abbrev pub NothingDueBefore : LinkView → LinkView → Type 0
NothingDueBefore before after = IfSome after.plan (λ plan. IfSome after.given (λ given. IfSome before.taken (λ taken. due_by plan given taken ≡ [])))

-- Reading ended at a link that wasn't ready, with all that came decoded, and nothing of it lying there.
pub record ReadDry (new : Streams) (before after : LinkView) : Type 0 where
  pub rose : Rose before.dry after.dry
  pub quiet : Rose before.quiet after.quiet
  pub decoded : AllDecoded new
  pub cleared : IsCleared new
  pub nothing_due : IsTrue before.steady → NothingDueBefore before after
  -- where nothing moved
  pub empty : new.moved ≡ false → IsTrue before.steady → after.due ≡ Some []
  pub lulls : new.moved ≡ false → IsTrue before.promised → Rose before.lulls after.lulls

-- A connection that is closing was so before, or reading ended dry in this call and the hub's last answer
-- was that nothing more will come.
abbrev pub BeganToClose : Streams → Streams → LinkView → LinkView → List Event → Type 0
BeganToClose old new before after events =
    new.closing ≡ true → (old.closing ≡ true) ⊎ (ReadDry new before after × (last_is has_no_more events ≡ true))

-- some call gave the batch back that is held
abbrev pub SomeGivesBack : List RawMessage → List Event → Type 0
SomeGivesBack held [] = ⊥
SomeGivesBack held (e ∷ es) = GivesBack held e ⊎ SomeGivesBack held es

-- Why a poll has to wait: it was closing, a mailbox gave back the batch that is held, or all that came is passed
-- on. Where the connection was closing, it read nothing; else no notice is delayed.
pub record Waits (old new : Streams) (before after : LinkView) (events : List Event) : Type 0 where
  pub reading : (old.closing ≡ true) ⊎ (((some_is is_full events ≡ true) × SomeGivesBack (waiting new.held) events) ⊎ ReadDry new before after)
  pub no_delayed : old.closing ≡ false → delayed_in new ≡ []
  pub writing : StopsWriting new before after events
  pub closing : new.closing ≡ true → WasBlocked new.moved before after
  pub began : BeganToClose old new before after events
  pub must : ClosesThen new before after (not (some_is is_full events)) events
  pub still : old.closing ≡ true → OnlySends old new before after

-- A turn that hands a message out reads no further, and the connection doesn't begin to close.
pub record HandsOut (old new : Streams) (before after : LinkView) (events : List Event) : Type 0 where
  pub active : old.closing ≡ false
  pub stays : new.closing ≡ false
  pub writing : StopsWriting new before after events

-- Terminate was taken and flushed, and the link is shut down. Where the connection was closing, nothing was read.
pub record IsOver (old new : Streams) (before after : LinkView) (events : List Event) : Type 0 where
  pub closing : new.closing ≡ true
  pub sent : new.unsent ≡ []
  pub flushed : IsFlushedFrom before after
  pub shut : IsTrue after.shut
  pub began : BeganToClose old new before after events
  pub still : old.closing ≡ true → OnlySends old new before after

-- The link gave its end behind a whole message, while the connection was active. No batch is held, no notice
-- delayed, and no message unread.
pub record EndsWhole (old new : Streams) (before after : LinkView) : Type 0 where
  pub rose : Rose before.ends after.ends
  pub buffer : new.buffer.items ≡ []
  pub held : waiting new.held ≡ []
  pub delayed : delayed_in new ≡ []
  pub unread : new.unread ≡ None
  pub active : old.closing ≡ false
  pub stays : new.closing ≡ false

-- what a turn hands out; a message may be lost only where the link failed, all is closed, or memory is short
abbrev pub HandedTurn : Result TurnEnd ConnectionFault → List RawMessage → Type 0
HandedTurn (Ok (turn.Handed message)) handed = Carries handed message
HandedTurn (Ok _) handed = handed ≡ []
HandedTurn (Err fault.Link) handed = Unit {0}
HandedTurn (Err fault.Closed) handed = Unit {0}
HandedTurn (Err fault.OutOfMemory) handed = Unit {0}
HandedTurn (Err e) handed = handed ≡ []

-- A connection that is closing was so before, or the hub's last answer was that nothing more will come.
abbrev pub ClosesBy : Streams → Streams → List Event → Type 0
ClosesBy old new events = new.closing ≡ true → (old.closing ≡ true) ⊎ (last_is has_no_more events ≡ true)

-- why a turn failed
abbrev pub TurnFails : Streams → Streams → LinkView → LinkView → ConnectionFault → List Event → Type 0
TurnFails old new before after fault.Link events = Rose before.faults after.faults
TurnFails old new before after fault.Closed events = EndsWhole old new before after ⊎ (last_is is_closed_out events ≡ true)
TurnFails old new before after fault.Ended events = EndsInside new before after
TurnFails old new before after fault.BadLength events = BreaksHeader new
TurnFails old new before after fault.Layout events = BreaksLayout new
-- a delayed notice comes first, so nothing was done before it
TurnFails old new before after (fault.Unreadable c) events = LeavesUnread new c ⊎ (LeavesDelayed new c × (events ≡ []))
TurnFails old new before after (fault.Unasked e) events =
    (last_is has_no_request events ≡ true) × IsUnasked (waiting new.held) (fault.Unasked e) × (new.closing ≡ false) × LastGivesBack (waiting new.held) events × (delayed_in new ≡ [])
TurnFails old new before after (fault.LimitReached given limit) events = (given ≡ new.given) × (limit ≡ new.max_bytes) × (limit < given) × IsOnePastLimit new given limit
TurnFails old new before after fault.OutOfMemory events = Unit {0}

-- how a turn ended; a connection that is closing reads nothing, also where it fails
abbrev pub TurnEnds : Streams → Streams → LinkView → LinkView → Result TurnEnd ConnectionFault → List Event → Type 0
TurnEnds old new before after (Ok (turn.Handed message)) events = HandsOut old new before after events
TurnEnds old new before after (Ok turn.Waits) events = Waits old new before after events
TurnEnds old new before after (Ok turn.Over) events = IsOver old new before after events
TurnEnds old new before after (Err e) events = ClosesBy old new events × TurnFails old new before after e events × (old.closing ≡ true → OnlySends old new before after)

-- a turn that hands a message out reads and takes in nothing behind it, and past the limit all of the last piece lies there
abbrev pub TurnStops : Streams → Streams → Result TurnEnd ConnectionFault → (got piece : List ℕ) → Type 0
TurnStops old new (Ok (turn.Handed message)) got piece = StopsAt old new message got
TurnStops old new (Err (fault.LimitReached given limit)) got piece = StandsLast piece new.buffer.items
TurnStops old new _ got piece = Unit {0}

-- what was read was due before the call, so before anything was written in it
abbrev pub WasDue : LinkView → List ℕ → Type 0
WasDue before got = IfSome before.due (λ due. (rest : List ℕ) × (due ≡ got ++ rest))

-- What a turn did to the hub, the link and what stands between them, how far it read, and how it ended. The link is
-- shut down in a turn that answers its end, and in no other.
pub record Turns {H : Type 0} (becomes : H → List Event → H → Type 0) (a b : H) (old new : Streams) (before after : LinkView) (result : Result TurnEnd ConnectionFault) : Type 0 where
  pub handed : List RawMessage
  pub which : HandedTurn result handed
  pub goes : Goes becomes a b old new before after handed (TurnEnds old new before after result)
  pub paced : Paced old goes.passes.got goes.events
  pub stops : TurnStops old new result goes.passes.got paced.piece
  pub reads_first : WasDue before goes.passes.got
  pub shut : Shuts (is_last_turn result) before after
