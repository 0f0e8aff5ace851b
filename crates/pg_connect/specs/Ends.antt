-- How a write step may end, and why.
use Rattle.std.specs.Prelude.{◌≡◌, ◌⊎◌, ◌||◌, Bool, true, false, IsTrue, IsFalse, List, [], ◌∷◌, Result, Ok, Err}
use Rattle.pg_spec.specs.Links.{LinkView, Rose}
use Rattle.pg_desk.specs.declared.event.Event.{Event}
use Rattle.pg_desk.specs.declared.event.Event.TheVariants.{NextOut}
use Rattle.pg_desk.specs.declared.event.Out.TheVariants.{CopyWaits, Nothing, NoMore as NoMoreParts}
use Rattle.pg_desk.specs.declared.event.DeskFault.TheVariants as desk
use Rattle.pg_connect.specs.declared.fault.ConnectionFault.{ConnectionFault}
use Rattle.pg_connect.specs.declared.fault.ConnectionFault.TheVariants as fault
use Rattle.pg_connect.specs.declared.ends.PartsEnd.{PartsEnd}
use Rattle.pg_connect.specs.declared.ends.PartsEnd.TheVariants as parts
use Rattle.pg_connect.specs.declared.ends.WriteEnd.{WriteEnd}
use Rattle.pg_connect.specs.declared.ends.WriteEnd.TheVariants as writes
use Rattle.pg_connect.specs.declared.streams.Streams.{Streams}

-- A write, a flush or a shutdown wasn't ready; a steady link always is. Where nothing moved, that is a lull of a
-- link that was promised to be ready.
pub record WasBlocked (moved : Bool) (before after : LinkView) : Type 0 where
  pub rose : Rose before.blocked after.blocked
  pub quiet : Rose before.quiet after.quiet
  pub not_steady : IsTrue before.steady → ⊥
  pub lulls : moved ≡ false → IsTrue before.promised → Rose before.lulls after.lulls

-- a link that wasn't shut down before is flushed now
abbrev pub IsFlushedFrom : (before after : LinkView) → Type 0
IsFlushedFrom before after = IsFalse before.shut → IsTrue after.flushed

-- the last of the events passes the test
abbrev pub last_is : (Event → Bool) → List Event → Bool
last_is p [] = false
last_is p (e ∷ []) = p e
last_is p (e ∷ f ∷ es) = last_is p (f ∷ es)

-- some event passes the test
abbrev pub some_is : (Event → Bool) → List Event → Bool
some_is p [] = false
some_is p (e ∷ es) = p e || some_is p es

-- the hub has no part to hand out now
abbrev pub has_none : Event → Bool
has_none (NextOut (Ok CopyWaits)) = true
has_none (NextOut (Ok Nothing)) = true
has_none (NextOut (Ok NoMoreParts)) = true
has_none _ = false

-- nothing more will come from the hub
abbrev pub has_no_more : Event → Bool
has_no_more (NextOut (Ok NoMoreParts)) = true
has_no_more _ = false

-- the hub answered that it is closed
abbrev pub is_closed_out : Event → Bool
is_closed_out (NextOut (Err desk.Closed)) = true
is_closed_out _ = false

-- how the bytes that are unsent were offered
abbrev pub OfferEnds : Streams → LinkView → LinkView → Result Bool ConnectionFault → Type 0
OfferEnds new before after (Ok true) = new.unsent ≡ []
OfferEnds new before after (Ok false) = WasBlocked new.moved before after
OfferEnds new before after (Err fault.Link) = Rose before.faults after.faults
OfferEnds new before after (Err fault.OutOfMemory) = Unit {0}
OfferEnds new before after (Err _) = ⊥

-- how the parts were sent
abbrev pub PartsEnds : Streams → LinkView → LinkView → Result PartsEnd ConnectionFault → List Event → Type 0
PartsEnds new before after (Ok parts.Blocked) events = WasBlocked new.moved before after
PartsEnds new before after (Ok parts.Waits) events = (new.unsent ≡ []) × (last_is has_none events ≡ true) × (last_is has_no_more events ≡ false)
PartsEnds new before after (Ok parts.NoMore) events = (new.unsent ≡ []) × (last_is has_no_more events ≡ true)
PartsEnds new before after (Err fault.Link) events = Rose before.faults after.faults
PartsEnds new before after (Err fault.Closed) events = last_is is_closed_out events ≡ true
PartsEnds new before after (Err fault.OutOfMemory) events = Unit {0}
PartsEnds new before after (Err _) events = ⊥

-- how a write step ended: all that went out was taken, or the link wasn't ready
abbrev pub WriteEnds : Streams → LinkView → LinkView → Result WriteEnd ConnectionFault → List Event → Type 0
WriteEnds new before after (Ok writes.Blocked) events = WasBlocked new.moved before after
WriteEnds new before after (Ok writes.AllTaken) events =
    (new.unsent ≡ []) × (new.closing ≡ false → last_is has_none events ≡ true)
WriteEnds new before after (Err fault.Link) events = Rose before.faults after.faults
WriteEnds new before after (Err fault.Closed) events = last_is is_closed_out events ≡ true
WriteEnds new before after (Err fault.OutOfMemory) events = Unit {0}
WriteEnds new before after (Err _) events = ⊥

-- A connection begins to close only where it may, and where nothing more will come from the hub.
abbrev pub Closes : Streams → Streams → Bool → List Event → Type 0
Closes old new may_close events =
    new.closing ≡ true → (old.closing ≡ true) ⊎ ((may_close ≡ true) × (last_is has_no_more events ≡ true))

-- And where it may close and all was taken, it does so where nothing more will come.
abbrev pub MustClose : Streams → Bool → Result WriteEnd ConnectionFault → List Event → Type 0
MustClose new may_close result events =
    result ≡ Ok writes.AllTaken → may_close ≡ true → last_is has_no_more events ≡ true → new.closing ≡ true

-- how a write step ended, and where it began to close
pub record Written (old new : Streams) (before after : LinkView) (may_close : Bool) (result : Result WriteEnd ConnectionFault) (events : List Event) : Type 0 where
  pub end : WriteEnds new before after result events
  pub closes : Closes old new may_close events
  pub must : MustClose new may_close result events
