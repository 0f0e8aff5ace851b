-- Where the items of a reply stand for one who collects them all, and what a poll of them says.
use Rattle.std.specs.Prelude.{◌≡◌, ℕ, List, [], ◌∷◌, ◌++◌, Bool, true, false, Option, Some, None, is_some, Result, Ok, Err}
use Rattle.futures.specs.declared.task.Poll.{Poll}
use Rattle.futures.specs.declared.task.Poll.TheVariants.{Ready, Pending}
use Rattle.pg_spec.specs.Faults as spec
use Rattle.pg_spec.specs.RawMessages.{RawMessage}
use Rattle.pg_spec.specs.declared.stamps.Stamp.{Stamp}
use Rattle.pg_desk.specs.declared.event.DeskFault.{DeskFault}
use Rattle.pg_desk.specs.declared.event.Event.{Event}
use Rattle.pg_desk.specs.declared.event.Event.TheVariants as call
use Rattle.pg_types.specs.declared.error.Error.{Error}
use Rattle.pg_types.specs.declared.faults.WireFault.{WireFault}
use Rattle.pg_wire.specs.Faults.{wire_fault}
use Rattle.pg_types.specs.declared.error.Error.TheVariants.{OutOfMemory, UnexpectedMessage}
use Rattle.pg_query.specs.Dialogue.{Dialogue, Read, HangUp, feed, cleaning}
use Rattle.pg_query.specs.Faults.{of_fault}
use Rattle.pg_query.specs.Meaning.{Place}
use Rattle.pg_query.specs.declared.desk_call.Cleanup.TheVariants.{Release}
use Rattle.pg_execute.specs.Executes.{posts, posts_before}
use Rattle.pg_streams.specs.Families.{Family, GoesFor, AnswersFor, PausesFor}
use Rattle.pg_streams.specs.Hearing.{First, Heard, IsNoItem, first_told, left_behind}
use Rattle.pg_streams.specs.Telling.{told_behind}
use Rattle.pg_streams.specs.declared.giving.Told.{Told}
use Rattle.pg_streams.specs.declared.giving.Told.TheVariants.{Item, Ends, Fails}
use Rattle.pg_streams.specs.declared.items.Items.{Items}

-- ---- where items stand

-- behind what is told: at an error the request is hung up, and then the statement is closed by this request, if there is one
abbrev pub told_end : {W : Type 0} → (close : Option (List ℕ)) → Option (Result W Error) → Dialogue W
told_end close (Some (Ok whole)) = posts_before close (Ok whole)
told_end close (Some (Err e)) = HangUp (posts_before close (Err e))
told_end close None = posts_before close (Err UnexpectedMessage)

-- one who collects reads on until the end or an error is told
abbrev pub collects : {W : Type 0} → (close : Option (List ℕ)) → (tells : List RawMessage → Option (Result W Error)) → Dialogue W
collects close tells = Read (Release ∷ posts close) (λ ms. is_some (tells ms)) (λ ms. told_end close (tells ms))

-- where he stands who has had this before
abbrev pub place_behind : {G W : Type 0} → (tells : G → List RawMessage → Option (Result W Error)) → Items G → (before : W → W) → Place W
place_behind tells s before = record { dialogue = feed s.batch (collects s.close (λ ms. told_behind before (tells s.giving ms))); reads = s.id }

-- where he stands who has had nothing yet
abbrev pub place_of : {G W : Type 0} → (tells : G → List RawMessage → Option (Result W Error)) → Items G → Place W
place_of tells s = place_behind tells s (λ whole. whole)

-- where he stands behind what was told
abbrev pub stands : {G I W : Type 0} → (tells : G → List RawMessage → Option (Result W Error)) → (with_item : I → W → W) → (at_end : G → W) → Told I → Items G → (before : W → W) → Place W
stands tells with_item at_end (Item i) s before = place_behind tells s (λ whole. before (with_item i whole))
stands tells with_item at_end Ends s before = record { dialogue = posts_before s.close (Ok (before (at_end s.giving))); reads = s.id }
stands tells with_item at_end (Fails e) s before = record { dialogue = HangUp (posts_before s.close (Err e)); reads = s.id }

-- what is told first of the messages that came and aren't read, and of those that come
abbrev pub untold : {G I : Type 0} → (hears : G → RawMessage → Heard G I) → Items G → List RawMessage → First G I
untold hears s more = first_told hears s.giving (s.batch ++ more)

-- the same where this was told
abbrev pub was_told : {G I : Type 0} → Told I → Items G → List RawMessage → First G I
was_told told s more = record { told = Some told; giving = s.giving; left = left_behind told (s.batch ++ more) }

-- where they stand for each who has had something before
abbrev pub family_of : {G I W : Type 0} → (tells : G → List RawMessage → Option (Result W Error)) → (hears : G → RawMessage → Heard G I) → Items G → Family (W → W) W G I
family_of tells hears s = record { place = place_behind tells s; first = untold hears s }

-- the same behind what was told
abbrev pub family_behind : {G I W : Type 0} → (tells : G → List RawMessage → Option (Result W Error)) → (with_item : I → W → W) → (at_end : G → W) → Told I → Items G → Family (W → W) W G I
family_behind tells with_item at_end told s = record { place = stands tells with_item at_end told s; first = was_told told s }

-- what is left to do where they are given up: the request is hung up, and the statement is closed
abbrev pub given_up : {G : Type 0} → Items G → Place (Unit {0})
given_up s = record { dialogue = cleaning (Release ∷ posts s.close); reads = s.id }

-- ---- what their calls say

-- what is told of a message that is refused by this fault
abbrev pub IsRefused : {I : Type 0} → WireFault → Result (Told I) Error → Type 0
IsRefused fault (Ok told) = (c : spec.WireFault) × (wire_fault fault ≡ Some c) × (told ≡ Fails (spec.Parse (spec.Wire c)))
IsRefused fault (Err e) = e ≡ OutOfMemory

-- all but what was read and what came
pub record Keeps {G K : Type 0} (what : G → K) (old new : Items G) : Type 0 where
  pub known : what new.giving ≡ what old.giving
  pub id : new.id ≡ old.id
  pub close : new.close ≡ old.close
  pub over : new.over ≡ old.over

-- What the messages that came tell first; nothing is told where none is left.
abbrev pub Reads : {G I W : Type 0} → (tells : G → List RawMessage → Option (Result W Error)) → (hears : G → RawMessage → Heard G I) → (with_item : I → W → W) → (at_end : G → W) → Items G → Items G → Result (Option (Told I)) Error → Type 0
Reads tells hears with_item at_end old new (Ok None) = (family_of tells hears new ≡ family_of tells hears old) × (new.batch ≡ [])
Reads tells hears with_item at_end old new (Ok (Some told)) = family_behind tells with_item at_end told new ≡ family_of tells hears old
Reads tells hears with_item at_end old new (Err e) = e ≡ OutOfMemory

-- no item is told first, and with that it was read so far
abbrev pub NoItemFirst : {G I : Type 0} → Items G → First G I → Type 0
NoItemFirst new first = IsNoItem first.told × (first.giving ≡ new.giving)

-- the end is told first, and with that it was read so far
abbrev pub EndFirst : {G I : Type 0} → Items G → First G I → Type 0
EndFirst new first = (first.told ≡ Some Ends) × (first.giving ≡ new.giving)

-- what comes of them at a desk: what is told, or the error of a desk that gives no more
abbrev pub Comes : {D G I W : Type 0} → (D → List Event → D → Type 0) → (tells : G → List RawMessage → Option (Result W Error)) → (with_item : I → W → W) → (at_end : G → W) → Stamp → D → (from : Family (W → W) W G I) → D → Items G → Result (Told I) Error → Type 0
Comes becomes tells with_item at_end stamp a from b new (Ok told) = GoesFor becomes stamp a from b (family_behind tells with_item at_end told new)
Comes becomes tells with_item at_end stamp a from b new (Err e) = AnswersFor becomes stamp a from b (λ before. Err e) (NoItemFirst new)

-- the events led to where a message is awaited, and all that came were read
pub record Awaits {D G I W : Type 0} (becomes : D → List Event → D → Type 0) (tells : G → List RawMessage → Option (Result W Error)) (hears : G → RawMessage → Heard G I) (stamp : Stamp) (a : D) (from : Family (W → W) W G I) (b : D) (new : Items G) : Type 0 where
  pub pauses : PausesFor becomes stamp a from b (family_of tells hears new)
  pub empty : new.batch ≡ []

-- What a poll gives: an item, where it is told first, which stands in front of what comes from the new place on; the end, where that is, behind
-- which nothing comes; or an error, where no item is told first.
abbrev pub Gives : {D G I W : Type 0} → (D → List Event → D → Type 0) → (tells : G → List RawMessage → Option (Result W Error)) → (with_item : I → W → W) → (at_end : G → W) → Stamp → D → (from : Family (W → W) W G I) → D → Items G → Option (Result I Error) → Type 0
Gives becomes tells with_item at_end stamp a from b new (Some (Ok i)) = GoesFor becomes stamp a from b (family_behind tells with_item at_end (Item i) new)
Gives becomes tells with_item at_end stamp a from b new None = AnswersFor becomes stamp a from b (λ before. Ok (before (at_end new.giving))) (EndFirst new)
Gives becomes tells with_item at_end stamp a from b new (Some (Err e)) = AnswersFor becomes stamp a from b (λ before. Err e) (NoItemFirst new)

-- behind this no more is given
abbrev pub is_last : {I : Type 0} → Poll (Option (Result I Error)) → Bool
is_last Pending = false
is_last (Ready (Some (Ok i))) = false
is_last (Ready (Some (Err e))) = true
is_last (Ready None) = true

-- nothing was done
pub record NothingDone {D S : Type 0} (a : D) (old : S) (b : D) (new : S) : Type 0 where
  pub desk : b ≡ a
  pub same : new ≡ old

-- ---- the request that closes

-- what a request that is hung up at once was answered by the desk
abbrev pub hung : Result (Unit {0}) DeskFault → Result (Unit {0}) Error
hung (Ok x) = Ok tt
hung (Err fault) = Err (of_fault fault)

-- A request was booked and hung up, or refused.
pub data Sends {D : Type 0} (becomes : D → List Event → D → Type 0) (stamp : Stamp) (a : D) (part : List ℕ) (b : D) (r : Result (Unit {0}) Error) : Type 0 where
  Sent : (id : ℕ) → (answer : Result (Unit {0}) DeskFault) → becomes a (call.Book stamp part false (Ok id) ∷ call.HangUp id answer ∷ []) b → r ≡ hung answer → Sends becomes stamp a part b r
  Refused : (fault : DeskFault) → becomes a (call.Book stamp part false (Err fault) ∷ []) b → r ≡ Err (of_fault fault) → Sends becomes stamp a part b r

-- the same of a request that there may be
abbrev pub Posts : {D : Type 0} → (D → List Event → D → Type 0) → Stamp → D → Option (List ℕ) → D → Result (Unit {0}) Error → Type 0
Posts becomes stamp a (Some part) b r = Sends becomes stamp a part b r
Posts becomes stamp a None b r = (b ≡ a) × (r ≡ Ok tt)

-- an error behind a request, or why that was refused
abbrev pub error_behind : Result (Unit {0}) Error → (e : Error) → Error
error_behind (Ok x) e = e
error_behind (Err refused) e = refused

-- An error is given behind a request that there may be.
pub record FailsBehind {D : Type 0} (becomes : D → List Event → D → Type 0) (stamp : Stamp) (a : D) (part : Option (List ℕ)) (e : Error) (b : D) (given : Error) : Type 0 where
  pub said : Result (Unit {0}) Error
  pub posted : Posts becomes stamp a part b said
  pub gives : given ≡ error_behind said e

-- The request that is read is hung up, and then the statement is closed.
pub data Drops {D : Type 0} (becomes : D → List Event → D → Type 0) (stamp : Stamp) (a : D) (id : ℕ) (close : Option (List ℕ)) (b : D) (r : Result (Unit {0}) Error) : Type 0 where
  Dropped : (mid : D) → becomes a (call.HangUp id (Ok tt) ∷ []) mid → Posts becomes stamp mid close b r → Drops becomes stamp a id close b r
  Kept : (fault : DeskFault) → becomes a (call.HangUp id (Err fault) ∷ []) b → r ≡ Err (of_fault fault) → Drops becomes stamp a id close b r
