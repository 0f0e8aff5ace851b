-- The events of a walk are calls of a desk, and those of a poll of the connection calls of an engine.
use Rattle.std.proofs.Common.{◌≡◌, ℕ, Bool, true, false, List, [], ◌∷◌, Option, Some, None, Result, Ok, Err, refl, filter, ap}
use Rattle.futures.specs.declared.task.Poll.{Poll}
use Rattle.futures.specs.declared.task.Poll.TheVariants.{Ready, Pending}
use Rattle.pg_spec.specs.Links.{LinkView}
use Rattle.pg_spec.specs.RawMessages.{RawMessage}
use Rattle.pg_spec.specs.declared.stamps.Stamp.{Stamp}
use Rattle.pg_types.specs.declared.error.Error.{Error}
use Rattle.pg_errors.specs.declared.async_message.AsyncMessage.{AsyncMessage}
use Rattle.pg_desk.specs.declared.event.DeskFault.{DeskFault}
use Rattle.pg_desk.specs.declared.event.Deliver.{Deliver}
use Rattle.pg_desk.specs.declared.event.Out.{Out}
use Rattle.pg_desk.specs.declared.event.Event.{Event}
use Rattle.pg_desk.specs.declared.event.Event.TheVariants as call
use Rattle.pg_query.specs.Dialogue.{Dialogue, Answer, Ask, Send, Leave, Read, Put, Finish, Close, HangUp, Call, Hear, Told, Steps, Walks}
use Rattle.pg_query.specs.declared.desk_call.DeskCall.{DeskCall}
use Rattle.pg_query.specs.declared.desk_call.DeskCall.TheVariants as desk_call
use Rattle.pg_query.specs.declared.desk_call.Reply.{Reply}
use Rattle.pg_connect.specs.Answers.{PollAnswers}
use Rattle.pg_connect.specs.Passed.{AllEngineCalls, IsEngineCall}
use Rattle.pg_connect.specs.declared.streams.Streams.{Streams}
use Rattle.pg_drive.specs.Lines.{IsKept}
use Rattle.pg_drive.specs.Lives.{is_desk_call, is_own, under}
use Rattle.pg_drive.specs.Tasks.{AllDeskCalls}

-- a query is told nothing by a call of an engine
told-nextout : (q : DeskCall) (r : Result Reply DeskFault) (answer : Result Out DeskFault) → Told q (call.NextOut answer) r → ⊥
told-nextout desk_call.NextStatement r answer h = absurd h
told-nextout desk_call.NextPortal r answer h = absurd h
told-nextout (desk_call.TypeOf oid) r answer h = absurd h
told-nextout (desk_call.SetType oid type) r answer h = absurd h
told-nextout desk_call.ClearTypes r answer h = absurd h
told-nextout (desk_call.LookupOf which) r answer h = absurd h
told-nextout (desk_call.SetLookup which s) r answer h = absurd h

told-deliver : (q : DeskCall) (r : Result Reply DeskFault) (batch : List RawMessage) (complete : Bool) (answer : Deliver) → Told q (call.Deliver batch complete answer) r → ⊥
told-deliver desk_call.NextStatement r batch complete answer h = absurd h
told-deliver desk_call.NextPortal r batch complete answer h = absurd h
told-deliver (desk_call.TypeOf oid) r batch complete answer h = absurd h
told-deliver (desk_call.SetType oid type) r batch complete answer h = absurd h
told-deliver desk_call.ClearTypes r batch complete answer h = absurd h
told-deliver (desk_call.LookupOf which) r batch complete answer h = absurd h
told-deliver (desk_call.SetLookup which s) r batch complete answer h = absurd h

told-closerequests : (q : DeskCall) (r : Result Reply DeskFault) (answer : Result (Unit {0}) DeskFault) → Told q (call.CloseRequests answer) r → ⊥
told-closerequests desk_call.NextStatement r answer h = absurd h
told-closerequests desk_call.NextPortal r answer h = absurd h
told-closerequests (desk_call.TypeOf oid) r answer h = absurd h
told-closerequests (desk_call.SetType oid type) r answer h = absurd h
told-closerequests desk_call.ClearTypes r answer h = absurd h
told-closerequests (desk_call.LookupOf which) r answer h = absurd h
told-closerequests (desk_call.SetLookup which s) r answer h = absurd h

told-fail : (q : DeskCall) (r : Result Reply DeskFault) (answer : Result (Unit {0}) DeskFault) → Told q (call.Fail answer) r → ⊥
told-fail desk_call.NextStatement r answer h = absurd h
told-fail desk_call.NextPortal r answer h = absurd h
told-fail (desk_call.TypeOf oid) r answer h = absurd h
told-fail (desk_call.SetType oid type) r answer h = absurd h
told-fail desk_call.ClearTypes r answer h = absurd h
told-fail (desk_call.LookupOf which) r answer h = absurd h
told-fail (desk_call.SetLookup which s) r answer h = absurd h

-- and no dialogue goes on by one
module _ {T : Type 0} (stamp : Stamp) (id end : ℕ) (q : Dialogue T) where
  by-nextout : (d : Dialogue T) (answer : Result Out DeskFault) → Steps stamp d id (call.NextOut answer) q end → ⊥
  by-nextout (Answer r) answer h = absurd h
  by-nextout (Ask copying part d) answer h = absurd h
  by-nextout (Send part refused d) answer h = absurd h
  by-nextout (Leave sent d) answer h = absurd h
  by-nextout (Read cleanup decides next) answer h = absurd h
  by-nextout (Put cleanup part d) answer h = absurd h
  by-nextout (Finish part d) answer h = absurd h
  by-nextout (Close part d) answer h = absurd h
  by-nextout (HangUp d) answer h = absurd h
  by-nextout (Hear next) answer h = absurd h
  by-nextout (Call asks refused next) answer h = told-nextout asks h.0 answer h.1

  by-deliver : (d : Dialogue T) (batch : List RawMessage) (complete : Bool) (answer : Deliver) → Steps stamp d id (call.Deliver batch complete answer) q end → ⊥
  by-deliver (Answer r) batch complete answer h = absurd h
  by-deliver (Ask copying part d) batch complete answer h = absurd h
  by-deliver (Send part refused d) batch complete answer h = absurd h
  by-deliver (Leave sent d) batch complete answer h = absurd h
  by-deliver (Read cleanup decides next) batch complete answer h = absurd h
  by-deliver (Put cleanup part d) batch complete answer h = absurd h
  by-deliver (Finish part d) batch complete answer h = absurd h
  by-deliver (Close part d) batch complete answer h = absurd h
  by-deliver (HangUp d) batch complete answer h = absurd h
  by-deliver (Hear next) batch complete answer h = absurd h
  by-deliver (Call asks refused next) batch complete answer h = told-deliver asks h.0 batch complete answer h.1

  by-closerequests : (d : Dialogue T) (answer : Result (Unit {0}) DeskFault) → Steps stamp d id (call.CloseRequests answer) q end → ⊥
  by-closerequests (Answer r) answer h = absurd h
  by-closerequests (Ask copying part d) answer h = absurd h
  by-closerequests (Send part refused d) answer h = absurd h
  by-closerequests (Leave sent d) answer h = absurd h
  by-closerequests (Read cleanup decides next) answer h = absurd h
  by-closerequests (Put cleanup part d) answer h = absurd h
  by-closerequests (Finish part d) answer h = absurd h
  by-closerequests (Close part d) answer h = absurd h
  by-closerequests (HangUp d) answer h = absurd h
  by-closerequests (Hear next) answer h = absurd h
  by-closerequests (Call asks refused next) answer h = told-closerequests asks h.0 answer h.1

  by-fail : (d : Dialogue T) (answer : Result (Unit {0}) DeskFault) → Steps stamp d id (call.Fail answer) q end → ⊥
  by-fail (Answer r) answer h = absurd h
  by-fail (Ask copying part d) answer h = absurd h
  by-fail (Send part refused d) answer h = absurd h
  by-fail (Leave sent d) answer h = absurd h
  by-fail (Read cleanup decides next) answer h = absurd h
  by-fail (Put cleanup part d) answer h = absurd h
  by-fail (Finish part d) answer h = absurd h
  by-fail (Close part d) answer h = absurd h
  by-fail (HangUp d) answer h = absurd h
  by-fail (Hear next) answer h = absurd h
  by-fail (Call asks refused next) answer h = told-fail asks h.0 answer h.1

  -- so an event by which it goes on is a call of a desk
  steps-own : (d : Dialogue T) (e : Event) → Steps stamp d id e q end → is_desk_call e ≡ true
  steps-own d (call.NextOut answer) h = absurd (by-nextout d answer h)
  steps-own d (call.Deliver batch complete answer) h = absurd (by-deliver d batch complete answer h)
  steps-own d (call.CloseRequests answer) h = absurd (by-closerequests d answer h)
  steps-own d (call.Fail answer) h = absurd (by-fail d answer h)
  steps-own d (call.Book by part copying answer) h = refl
  steps-own d (call.Put which part answer) h = refl
  steps-own d (call.EndCopy which part answer) h = refl
  steps-own d (call.Take which answer) h = refl
  steps-own d (call.HangUp which answer) h = refl
  steps-own d (call.NextStatement answer) h = refl
  steps-own d (call.NextPortal answer) h = refl
  steps-own d (call.Catalog asks) h = refl

-- and so is each event of a walk
pub walks-own : {T : Type 0} (stamp : Stamp) (d : Dialogue T) (id : ℕ) (es : List Event) (q : Dialogue T) (end : ℕ) → Walks stamp d id es q end →
    filter is_own (under stamp es) ≡ under stamp es
walks-own stamp d id [] q end walks = refl
walks-own stamp d id (e ∷ es) q end walks =
    rw (steps-own stamp id walks.1 walks.0 d e walks.2) (ap (λ (l : List _). record { stamp = stamp; event = e } ∷ l) (walks-own stamp walks.0 walks.1 es q end walks.3))

-- a call of an engine is none of a desk
engine-other : (e : Event) → IsEngineCall e → is_desk_call e ≡ false
engine-other (call.NextOut answer) h = refl
engine-other (call.Deliver batch complete answer) h = refl
engine-other (call.CloseRequests answer) h = absurd h
engine-other (call.Fail answer) h = absurd h
engine-other (call.Book by part copying answer) h = absurd h
engine-other (call.Put which part answer) h = absurd h
engine-other (call.EndCopy which part answer) h = absurd h
engine-other (call.Take which answer) h = absurd h
engine-other (call.HangUp which answer) h = absurd h
engine-other (call.NextStatement answer) h = absurd h
engine-other (call.NextPortal answer) h = absurd h
engine-other (call.Catalog asks) h = absurd h

-- and none of some
pub engines-other : (stamp : Stamp) (es : List Event) → AllEngineCalls es → filter is_own (under stamp es) ≡ []
engines-other stamp [] all = refl
engines-other stamp (e ∷ es) all = rw (engine-other e all.0) (engines-other stamp es all.1)

-- what the connection did to the hub in a poll without an error
pub record Ticks {H : Type 0} (becomes : H → List Event → H → Type 0) (a b : H) : Type 0 where
  pub events : List Event
  pub calls : AllEngineCalls events
  pub became : becomes a events b

pub poll-ticks : {H : Type 0} (becomes : H → List Event → H → Type 0) (a b : H) (s t : Streams) (l m : LinkView) (answer : Poll (Option (Result AsyncMessage Error))) (old new : List AsyncMessage) →
    PollAnswers becomes a b s t l m answer → IsKept answer old new → Ticks becomes a b
poll-ticks becomes a b s t l m Pending old new polled kept =
    record { events = polled.turns.goes.events; calls = polled.turns.goes.calls; became = polled.turns.goes.became }
poll-ticks becomes a b s t l m (Ready None) old new polled kept =
    record { events = polled.turns.goes.events; calls = polled.turns.goes.calls; became = polled.turns.goes.became }
poll-ticks becomes a b s t l m (Ready (Some (Ok message))) old new polled kept =
    record { events = polled.turns.goes.events; calls = polled.turns.goes.calls; became = polled.turns.goes.became }
poll-ticks becomes a b s t l m (Ready (Some (Err e))) old new polled kept = absurd kept

-- all events of a walk are calls of a desk
pub walks-calls : {T : Type 0} (stamp : Stamp) (d : Dialogue T) (id : ℕ) (es : List Event) (q : Dialogue T) (end : ℕ) → Walks stamp d id es q end → AllDeskCalls es
walks-calls stamp d id [] q end walks = tt
walks-calls stamp d id (e ∷ es) q end walks = (steps-own stamp id walks.1 walks.0 d e walks.2, walks-calls stamp walks.0 walks.1 es q end walks.3)

-- none of these is a call of a desk
abbrev pub AllOthers : List Event → Type 0
AllOthers [] = Unit {0}
AllOthers (e ∷ es) = (is_desk_call e ≡ false) × AllOthers es

pub engines-others : (es : List Event) → AllEngineCalls es → AllOthers es
engines-others [] all = tt
engines-others (e ∷ es) all = (engine-other e all.0, engines-others es all.1)
