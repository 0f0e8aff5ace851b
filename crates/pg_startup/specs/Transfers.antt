-- What passes between a link and the bytes on both of its sides.
use Rattle.std.specs.Prelude.{◌≡◌, ℕ, ◌+◌, ◌<◌, ◌≤◌, Bool, true, false, not, ◌||◌, IsTrue, IsFalse, List, [], ◌++◌, length, Result, Ok, Err}
use Rattle.pg_spec.specs.Batches.{is_nothing}
use Rattle.pg_spec.specs.Links.{LinkView, Grew, Rose}
use Rattle.pg_wire.specs.LinkCalls.{Keeps}
use Rattle.pg_types.specs.declared.cause.Cause.TheVariants as cause
use Rattle.pg_types.specs.declared.error.Error.{Error}
use Rattle.pg_types.specs.declared.error.Error.TheVariants as error
use Rattle.pg_connect.specs.Ends.{IsFlushedFrom, WasBlocked}
use Rattle.pg_connect.specs.Passes.{Untouched}
use Rattle.pg_connect.specs.Reads.{GaveDue, WasDry}
use Rattle.pg_startup.specs.declared.transfer.Transfer.{Transfer}

-- bytes that are said to be passed on were taken whole, and the link was flushed behind them
abbrev pub IsFlushed : Transfer → LinkView → Type 0
IsFlushed s link = s.flushed ≡ true → (s.unsent.items ≡ []) × IsFlushedFrom link link

-- a link that was flushed is so, unless its writing side was ended
abbrev pub StaysFlushed : (before after : LinkView) → Type 0
StaysFlushed before after = IsFalse before.shut → IsTrue before.flushed → IsTrue after.flushed

-- A front of what was unsent was taken, and nothing else happened.
pub record Sends (old new : Transfer) (before after : LinkView) : Type 0 where
  pub sent : List ℕ
  pub taken : Grew before.taken after.taken sent
  pub given : after.given ≡ before.given
  pub out : old.unsent.items ≡ sent ++ new.unsent.items
  pub same : new ≡ record old { unsent = new.unsent; flushed = new.flushed; moved = new.moved }
  pub moved : new.moved ≡ (old.moved || not (is_nothing sent))
  pub still : new.moved ≡ false → Untouched before after
  pub flushed : IsFlushed old before → IsFlushed new after
  -- what was passed on before is so, where nothing was taken
  pub stays : sent ≡ [] → StaysFlushed before after
  pub shut : after.shut ≡ before.shut
  pub link : Keeps before after

-- how it was offered
abbrev pub OfferEnds : Transfer → LinkView → LinkView → Result Bool Error → Type 0
OfferEnds new before after (Ok true) = new.unsent.items ≡ []
OfferEnds new before after (Ok false) = WasBlocked new.moved before after
OfferEnds new before after (Err (error.Io cause.Link)) = Rose before.faults after.faults
OfferEnds new before after (Err error.OutOfMemory) = Unit {0}
OfferEnds new before after (Err _) = ⊥

-- how it was sent: it was taken whole and passed on, or not
abbrev pub SentEnds : Transfer → LinkView → LinkView → Result Bool Error → Type 0
SentEnds new before after (Ok true) = (new.unsent.items ≡ []) × (new.flushed ≡ true)
SentEnds new before after other = OfferEnds new before after other

-- the link gave its end
abbrev pub gave_end : Result Bool Error → Bool
gave_end (Err error.Closed) = true
gave_end (Err (error.Io cause.Ended)) = true
gave_end _ = false

-- A piece of at most so many bytes was given, which lies behind what was buffered, and nothing else happened.
pub record Gets (old new : Transfer) (before after : LinkView) (most : ℕ) (result : Result Bool Error) : Type 0 where
  pub got : List ℕ
  pub given : Grew before.given after.given got
  pub due : GaveDue before.due after.due got
  pub fits : length got ≤ most
  pub taken : after.taken ≡ before.taken
  pub flushed : after.flushed ≡ before.flushed
  pub shut : after.shut ≡ before.shut
  pub buffer : new.buffer.items ≡ old.buffer.items ++ got
  pub count : new.given ≡ old.given + length got
  pub same : new ≡ record old { buffer = new.buffer; given = new.given; moved = new.moved }
  pub moved : new.moved ≡ (old.moved || (not (is_nothing got) || gave_end result))
  pub still : new.moved ≡ false → Untouched before after
  pub link : Keeps before after

-- how a piece was read
abbrev pub PieceEnds : Transfer → Transfer → LinkView → LinkView → (most : ℕ) → Result Bool Error → Type 0
PieceEnds old new before after most (Ok true) = (old.given < new.given) × (new.given ≤ new.max_bytes)
PieceEnds old new before after most (Ok false) = WasDry new.moved before after × (new.given ≡ old.given) × (new.buffer.items ≡ old.buffer.items)
PieceEnds old new before after most (Err (error.Io cause.Link)) = Rose before.faults after.faults
PieceEnds old new before after most (Err error.Closed) = Rose before.ends after.ends × (new.buffer.items ≡ [])
PieceEnds old new before after most (Err (error.Io cause.Ended)) = Rose before.ends after.ends × (0 < length new.buffer.items) × (new.buffer.items ≡ old.buffer.items)
PieceEnds old new before after most (Err (error.LimitReached given limit)) = (given ≡ new.given) × (limit ≡ new.max_bytes) × (limit < given) × (given ≤ limit + most)
PieceEnds old new before after most (Err error.OutOfMemory) = Unit {0}
PieceEnds old new before after most (Err _) = ⊥

-- no more than the limit was given, unless the error is that more were
abbrev pub IsWithinLimit : Error → (given limit : ℕ) → Type 0
IsWithinLimit (error.LimitReached counted most) given limit = Unit {0}
IsWithinLimit _ given limit = given ≤ limit
