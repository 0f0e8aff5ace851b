-- Which requests a command leaves open: none. Each is hung up, or its reply is read to the end.
use Rattle.std.specs.Prelude.{◌≡◌, ◌⊎◌, ◌==◌, ◌&&◌, ℕ, Bool, true, false, List, [], ◌∷◌, Ok, Err}
use Rattle.std.specs.List.{list_any}
use Rattle.pg_spec.specs.RawMessages.{RawMessage, is_ready}
use Rattle.pg_desk.specs.declared.event.DeskFault.TheVariants as fault
use Rattle.pg_desk.specs.declared.event.Take.TheVariants as taking
use Rattle.pg_desk.specs.declared.event.Event.{Event}
use Rattle.pg_desk.specs.declared.event.Event.TheVariants as call
use Rattle.pg_types.specs.declared.error.Error.{Error}
use Rattle.pg_query.specs.declared.desk_call.Reply.{Reply}
use Rattle.pg_query.specs.Dialogue.{Dialogue, Answer, Ask, Send, Leave, Read, Put, Finish, Close, HangUp, Call, Hear, fits}
use Rattle.pg_query.specs.Lives.{Deed}

-- ---- of a dialogue

-- what stands between a command and the server
pub data Holds : Type 0 where
  -- no request is read: none was asked, or it was hung up, or its ReadyForQuery was read
  Nothing : Holds
  -- a request is read
  Request : Holds

-- no request is read: each was let go
abbrev pub IsLetGo : Holds → Type 0
IsLetGo Nothing = Unit {0}
IsLetGo Request = ⊥

-- a request is read
abbrev pub IsHeld : Holds → Type 0
IsHeld Nothing = ⊥
IsHeld Request = Unit {0}

-- behind messages among which the ReadyForQuery was, or wasn't
abbrev pub request_behind : Bool → Holds
request_behind true = Nothing
request_behind false = Request

-- behind these messages: the ReadyForQuery lets a request go
abbrev pub after_reading : Holds → List RawMessage → Holds
after_reading Nothing ms = Nothing
after_reading Request ms = request_behind (list_any is_ready ms)

-- A dialogue from here on lets each request go before it asks for another to read, and before its answer. So it does where the
-- desk refuses what it sends or asks, and whatever the desk may tell it.
abbrev pub LetsGo : {T : Type 0} → Holds → Dialogue T → Type 0
LetsGo h (Answer r) = IsLetGo h
LetsGo h (Ask copying part d) = IsLetGo h × LetsGo Request d
LetsGo h (Send part refused d) = ((e : Error) → LetsGo h (refused e)) × LetsGo h d
LetsGo h (Leave id d) = LetsGo h d
LetsGo h (Read cleanup decides next) = (ms : List RawMessage) → decides ms ≡ true → LetsGo (after_reading h ms) (next ms)
LetsGo h (Put cleanup part d) = LetsGo h d
LetsGo h (Finish part d) = LetsGo h d
LetsGo h (Close part d) = LetsGo h d
LetsGo h (HangUp d) = LetsGo Nothing d
LetsGo h (Call q refused next) = ((e : Error) → LetsGo h (refused e)) × ((r : Reply) → fits q r ≡ true → LetsGo h (next r))
LetsGo h (Hear next) = (r : Reply) → LetsGo h (next r)

-- ---- of what was done

-- the request is hung up, or its reply is read to the end
abbrev pub lets_go : ℕ → Event → Bool
lets_go id (call.HangUp which (Ok x)) = which == id
lets_go id (call.Take which (Ok (taking.Batch ms))) = (which == id) && list_any is_ready ms
lets_go id (call.Take which (Ok taking.Over)) = which == id
lets_go id _ = false

-- by one of these
abbrev pub IsLetGoIn : ℕ → List Deed → Type 0
IsLetGoIn id [] = ⊥
IsLetGoIn id (d ∷ ds) = (lets_go id d.event ≡ true) ⊎ IsLetGoIn id ds

-- a request that is booked here is let go behind
abbrev pub LetsGoBehind : Event → List Deed → Type 0
LetsGoBehind (call.Book stamp part copying (Ok id)) ds = IsLetGoIn id ds
LetsGoBehind _ ds = Unit {0}

-- each request that was booked is let go
abbrev pub AllLetGo : List Deed → Type 0
AllLetGo [] = Unit {0}
AllLetGo (d ∷ ds) = LetsGoBehind d.event ds × AllLetGo ds

-- what every desk owes: it refuses a take and a hanging up for want of memory alone
abbrev pub IsOwed : Event → Type 0
IsOwed (call.Take id (Err e)) = e ≡ fault.OutOfMemory
IsOwed (call.HangUp id (Err e)) = e ≡ fault.OutOfMemory
IsOwed _ = Unit {0}

-- the same in each deed
abbrev pub AllOwed : List Deed → Type 0
AllOwed [] = Unit {0}
AllOwed (d ∷ ds) = IsOwed d.event × AllOwed ds
