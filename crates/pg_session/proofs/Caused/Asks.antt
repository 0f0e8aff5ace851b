-- A session books whole requests alone, and makes its hub fail in no turn.
use Rattle.std.proofs.Common.{◌≡◌, inl, inr, ℕ, zero, suc, ◌+◌, ◌-◌, List, [], ◌∷◌, ◌++◌, length, Bool, true, false, if◌then◌else◌, Option, Some, None, Result, Ok, Err, refl, sym, ap, subst, ◌∙◌, ◌≤◌, arith, length-append}
use Rattle.std.proofs.lemmas.List.{length_push}
use Rattle.std.specs.Prelude.{slice_get, slice_set}
use Rattle.pg_spec.specs.Links.{LinkView}
use Rattle.pg_spec.specs.RawMessages.{RawMessage}
use Rattle.futures.specs.declared.task.Poll.{Poll}
use Rattle.futures.specs.declared.task.Poll.TheVariants.{Ready, Pending}
use Rattle.pg_errors.specs.declared.async_message.AsyncMessage.{AsyncMessage}
use Rattle.pg_types.specs.declared.error.Error.{Error}
use Rattle.pg_desk.specs.declared.event.Booking.{Booking}
use Rattle.pg_desk.specs.Asking.{IsAsking}
use Rattle.pg_desk.specs.declared.event.DeskFault.{DeskFault}
use Rattle.pg_desk.specs.declared.event.DeskFault.TheVariants as desk
use Rattle.pg_spec.specs.declared.stamps.Stamp.{Stamp}
use Rattle.pg_desk.specs.declared.event.Take.TheVariants as taking
use Rattle.pg_desk.specs.declared.event.Out.TheVariants as out
use Rattle.pg_desk.specs.declared.event.Deliver.TheVariants as delivering
use Rattle.pg_desk.specs.declared.event.Event.{Event}
use Rattle.pg_desk.specs.declared.event.Event.TheVariants.{Book, Put as PutEvent, EndCopy, Take as TakeEvent, HangUp as HangUpEvent, NextStatement, NextPortal, Catalog as CatalogEvent, NextOut, Deliver as DeliverEvent, CloseRequests, Fail}
use Rattle.pg_desk.specs.History.{State, rest_flags, start, started, started_of, after, after_all, wire, IsLegal}
use Rattle.pg_desk.specs.Order.{InOrder}
use Rattle.pg_desk.proofs.Outs.{AllEnded, ended-more}
use Rattle.pg_desk.proofs.Parts.{order-low}
use Rattle.pg_hub.specs.Rests.{Rest, rests}
use Rattle.pg_hub.specs.Standing.{Standing}
use Rattle.pg_hub.specs.Fits.{Fits, HubBecomes}
use Rattle.pg_hub.specs.Becomes.{fits-touched}
use Rattle.pg_connect.specs.declared.streams.Streams.{Streams}
use Rattle.pg_connect.specs.Answers.{PollAnswers}
use Rattle.pg_connect.specs.Ends.{last_is, is_closed_out}
use Rattle.pg_connect.specs.Passed.{IsEngineCall, AllEngineCalls}
use Rattle.pg_query.proofs.LeavingLaws.{told-fits}
use Rattle.pg_query.proofs.Questions.{told-asks}
use Rattle.pg_query.specs.declared.desk_call.DeskCall.{DeskCall}
use Rattle.pg_query.specs.declared.desk_call.Reply.{Reply}
use Rattle.pg_query.specs.Faults.{of_fault}
use Rattle.pg_query.specs.Dialogue.{Dialogue, Answer, Ask, Send, Leave, Read, Put, Finish, Close, HangUp, Call, Hear, Steps, Told, Walks, feed_one, feed, fits, after_reply}
use Rattle.pg_query.specs.Meaning.{Place}
use Rattle.pg_query.specs.Meaning as meaning
use Rattle.pg_session.specs.declared.handle_turn.Polling.{Polling}
use Rattle.pg_session.specs.declared.handle_turn.Polling.TheVariants as polling
use Rattle.pg_session.specs.HandleTurns.{AsksCommand, StartsAt}
use Rattle.pg_session.specs.Sessions.{IsNewSession, MakesAll}
use Rattle.pg_session.specs.Handles.{HandleState}
use Rattle.pg_session.specs.States.{SessionState, new_handles, commands_in}
use Rattle.pg_session.specs.Turns.{untouched, Closes, ClosesBehind, HandleTurns, HandsOn, Makes}
use Rattle.pg_session.proofs.Caused.Frames.{AreRequests}
use Rattle.pg_session.specs.Speeches.{BookWhole, BooksWhole, IsWholeRequest, Speech}

-- ---- the hub's bookings

-- each request has one part, a whole request
abbrev pub AllAsk : List Booking → Type 0
AllAsk [] = Unit {0}
AllAsk (b ∷ bs) = (part : List ℕ) × (b.parts ≡ part ∷ []) × IsWholeRequest part × AllAsk bs

ask-more : (bs : List Booking) (stamp : Stamp) (part : List ℕ) → AllAsk bs → IsWholeRequest part → AllAsk (bs ++ record { stamp = stamp; parts = part ∷ [] } ∷ [])
ask-more [] stamp part h q = (part, refl, q, tt)
ask-more (b ∷ bs) stamp part h q = (h.0, h.1, h.2, ask-more bs stamp part h.3 q)

-- each has one part, so as many began as parts went out
asks-began : (n : ℕ) (bs : List Booking) → AllAsk bs → n ≤ length bs → started n bs ≡ n
asks-began n [] h low = omega (arith, low)
asks-began zero (b ∷ bs) h low = refl
asks-began (suc n) (b ∷ bs) h low =
    let one : length b.parts ≡ 1 = ap (λ (l : List (List ℕ)). length l) h.1 in
    ap (λ (m : ℕ). suc (started m bs)) (let e : suc n - length b.parts ≡ n = omega (arith, one) in e) ∙ ap suc (asks-began n bs h.3 (omega (arith, low)))

pub asks-wire : (bs : List Booking) → AllAsk bs → length (wire bs) ≡ length bs
asks-wire [] h = refl
asks-wire (b ∷ bs) h =
    let one : length b.parts ≡ 1 = ap (λ (l : List (List ℕ)). length l) h.1 in
    let more : length (wire bs) ≡ length bs = asks-wire bs h.3 in
    length-append b.parts (wire bs) ∙ omega (arith, one, more)

pub asks-out : (s : State) → InOrder s → AllAsk s.book → started_of s ≡ length s.gone_out
asks-out s order h = asks-began (length s.gone_out) s.book h (let low = order-low (length s.gone_out) s.book s.copying order.out in omega (arith, low, asks-wire s.book h))

-- all parts are whole requests
pub wire-asks : (bs : List Booking) → AllAsk bs → AreRequests (wire bs)
wire-asks [] h = tt
wire-asks (b ∷ bs) h = subst (λ (x : List (List ℕ)). AreRequests (x ++ wire bs)) (sym h.1) (h.2, wire-asks bs h.3)

-- Such a hub hasn't failed, and its requests are whole, none of them a copy.
pub record IsTame (book : List Booking) (copying : List Bool) (failed : Bool) : Type 0 where
  pub works : failed ≡ false
  pub asks : AllAsk book
  pub flags : length copying ≡ length book
  pub ended : AllEnded book copying

-- an event books a whole request alone, and doesn't make the hub fail
abbrev pub IsMild : Event → Type 0
IsMild (Book stamp part copying answer) = IsWholeRequest part × (copying ≡ false)
IsMild (PutEvent id part answer) = ⊥
IsMild (EndCopy id part answer) = ⊥
IsMild (Fail answer) = ⊥
IsMild _ = Unit {0}

abbrev pub AreMild : List Event → Type 0
AreMild [] = Unit {0}
AreMild (e ∷ es) = IsMild e × AreMild es

tame-one : (s : State) (e : Event) → IsMild e → IsTame s.book s.copying s.failed → IsTame (after s e).book (after s e).copying (after s e).failed
tame-one s (Book stamp part copying (Ok id)) q h =
    let b : Booking = record { stamp = stamp; parts = part ∷ [] } in
    record {
      works = h.works;
      asks = ask-more s.book stamp part h.asks q.0;
      flags = length_push s.copying copying ∙ ap (λ (n : ℕ). n + 1) h.flags ∙ sym (length_push s.book b);
      ended = subst (λ (c : Bool). AllEnded (s.book ++ b ∷ []) (s.copying ++ c ∷ [])) (sym q.1) (ended-more s.book s.copying b h.flags h.ended);
    }
tame-one s (Book stamp part copying (Err e)) q h = h
tame-one s (PutEvent id part answer) q h = absurd q
tame-one s (EndCopy id part answer) q h = absurd q
tame-one s (TakeEvent id (Ok (taking.Batch ms))) q h = h
tame-one s (TakeEvent id (Ok x)) q h = h
tame-one s (TakeEvent id (Err e)) q h = h
tame-one s (HangUpEvent id (Ok x)) q h = h
tame-one s (HangUpEvent id (Err e)) q h = h
tame-one s (NextStatement (Ok n)) q h = h
tame-one s (NextStatement (Err e)) q h = h
tame-one s (NextPortal (Ok n)) q h = h
tame-one s (NextPortal (Err e)) q h = h
tame-one s (CatalogEvent call) q h = h
tame-one s (NextOut (Ok (out.Part part))) q h = h
tame-one s (NextOut (Ok x)) q h = h
tame-one s (NextOut (Err e)) q h = h
tame-one s (DeliverEvent batch complete delivering.Taken) q h = h
tame-one s (DeliverEvent batch complete x) q h = h
tame-one s (CloseRequests (Ok x)) q h = h
tame-one s (CloseRequests (Err e)) q h = h
tame-one s (Fail answer) q h = absurd q

pub tame-all : (s : State) (es : List Event) → AreMild es → IsTame s.book s.copying s.failed → IsTame (after_all s es).book (after_all s es).copying (after_all s es).failed
tame-all s [] q h = h
tame-all s (e ∷ es) q h = tame-all (after s e) es q.1 (tame-one s e q.0 h)

mild-engine : (e : Event) → IsEngineCall e → IsMild e
mild-engine (NextOut answer) c = tt
mild-engine (DeliverEvent batch complete answer) c = tt
mild-engine _ c = absurd c

pub mild-engines : (es : List Event) → AllEngineCalls es → AreMild es
mild-engines [] c = tt
mild-engines (e ∷ es) c = (mild-engine e c.0, mild-engines es c.1)

-- a hub that hasn't failed doesn't answer that it is closed
closed-one : (s : State) (e : Event) → s.failed ≡ false → IsLegal s (e ∷ []) → is_closed_out e ≡ true → ⊥
closed-one s (NextOut (Err desk.Closed)) works l is = let failed : s.failed ≡ true = l.0 in absurd (let no : false ≡ true = sym works ∙ failed in cc)
closed-one s _ works l is = absurd cc

pub never-closed : (s : State) (es : List Event) → AreMild es → IsTame s.book s.copying s.failed → IsLegal s es → last_is is_closed_out es ≡ true → ⊥
never-closed s [] q h l is = absurd cc
never-closed s (e ∷ []) q h l is = closed-one s e h.works l is
never-closed s (e ∷ f ∷ es) q h l is = never-closed (after s e) (f ∷ es) q.1 (tame-one s e q.0 h) l.1 is

-- none of these is a copy that isn't ended
abbrev pub NoneCopies : List Rest → Type 0
NoneCopies [] = Unit {0}
NoneCopies (r ∷ rs) = (r.copying ≡ false) × NoneCopies rs

none-copies : (n : ℕ) (bs : List Booking) (cs : List Bool) → AllEnded bs cs → NoneCopies (rests n bs cs)
none-copies n [] cs h = tt
none-copies n (b ∷ bs) cs h = (h.0, none-copies (n - length b.parts) bs (rest_flags cs) h.1)

all-ended : (n : ℕ) (bs : List Booking) (cs : List Bool) → NoneCopies (rests n bs cs) → AllEnded bs cs
all-ended n [] cs h = tt
all-ended n (b ∷ bs) cs h = (h.0, all-ended (n - length b.parts) bs (rest_flags cs) h.1)

-- a hub that is so
pub record IsTameHub (hub : Standing) : Type 0 where
  pub works : hub.failed ≡ false
  pub asks : AllAsk hub.book
  pub ended : NoneCopies hub.outgoing

-- the hub stands for a state, and is so
pub record Tame (hub : Standing) : Type 0 where
  pub state : State
  pub fits : Fits state hub
  pub tame : IsTameHub hub

pub tame-in : (s : State) (hub : Standing) → Fits s hub → IsTameHub hub → IsTame s.book s.copying s.failed
tame-in s hub fits h = record {
  works = sym fits.failed ∙ h.works;
  asks = subst AllAsk fits.book h.asks;
  flags = fits.in_order.flags;
  ended = all-ended (length s.gone_out) s.book s.copying (subst NoneCopies fits.parts.rest h.ended);
}

tame-out : (s : State) (hub : Standing) → Fits s hub → IsTame s.book s.copying s.failed → IsTameHub hub
tame-out s hub fits h = record {
  works = fits.failed ∙ h.works;
  asks = subst AllAsk (sym fits.book) h.asks;
  ended = subst NoneCopies (sym fits.parts.rest) (none-copies (length s.gone_out) s.book s.copying h.ended);
}

tame-moves : (a b : Standing) (es : List Event) → Tame a → HubBecomes a es b → AreMild es → Tame b
tame-moves a b es h becomes q =
    let now = becomes.stands h.state h.fits in
    record {
      state = after_all h.state es;
      fits = now.1;
      tame = tame-out (after_all h.state es) b now.1 (tame-all h.state es q (tame-in h.state a h.fits h.tame));
    }

tame-untouched : (a : Standing) → Tame a → Tame (untouched a)
tame-untouched a h = record {
  state = h.state;
  fits = fits-touched h.state a false h.fits;
  tame = record { works = h.tame.works; asks = h.tame.asks; ended = h.tame.ended };
}

-- ---- dialogues

asks-fed-one : {T : Type 0} (m : RawMessage) (d : Dialogue T) → BooksWhole d → BooksWhole (feed_one m d)
asks-fed-one m (Answer r) h = h
asks-fed-one m (Ask copying part d) h = h
asks-fed-one m (Send part refused d) h = (h.0, λ e. asks-fed-one m (refused e) (h.1 e), asks-fed-one m d h.2)
asks-fed-one m (Leave id d) h = asks-fed-one m d h
asks-fed-one {T} m (Read cleanup decides next) h = by_test (decides (m ∷ []))
  where
    by_test : (b : Bool) → BooksWhole (if b then next (m ∷ []) else Read cleanup (λ ms. decides (m ∷ ms)) (λ ms. next (m ∷ ms)))
    by_test true = h (m ∷ [])
    by_test false = λ ms. h (m ∷ ms)
asks-fed-one m (Put cleanup part d) h = absurd h
asks-fed-one m (Finish part d) h = absurd h
asks-fed-one m (Close part d) h = absurd h
asks-fed-one m (HangUp d) h = h
asks-fed-one m (Call q refused next) h = (λ e. asks-fed-one m (refused e) (h.0 e), λ r fit. asks-fed-one m (next r) (h.1 r fit))
asks-fed-one m (Hear next) h = λ r. asks-fed-one m (next r) (h r)

asks-fed : {T : Type 0} (ms : List RawMessage) (d : Dialogue T) → BooksWhole d → BooksWhole (feed ms d)
asks-fed [] d h = h
asks-fed (m ∷ ms) d h = asks-fed ms (feed_one m d) (asks-fed-one m d h)

mild-asking : (e : Event) → IsAsking e → IsMild e
mild-asking (NextStatement answer) h = tt
mild-asking (NextPortal answer) h = tt
mild-asking (CatalogEvent call) h = tt
mild-asking _ h = absurd h

asks-reply : {T : Type 0} (q : DeskCall) (e : Event) (r : Result Reply DeskFault) (refused : Error → Dialogue T) (next : Reply → Dialogue T) → Told q e r → ((e : Error) → BooksWhole (refused e)) → ((r : Reply) → fits q r ≡ true → BooksWhole (next r)) →
    BooksWhole (after_reply r refused next)
asks-reply q e (Ok r) refused next told k h = h r (told-fits q e r told)
asks-reply q e (Err f) refused next told k h = k (of_fault f)

-- a step books a whole request, or nothing
record GoesOn {T : Type 0} (e : Event) (d : Dialogue T) : Type 0 where
  mild : IsMild e
  asks : BooksWhole d

on : {T : Type 0} (e : Event) (d d' : Dialogue T) → IsMild e → BooksWhole d → d' ≡ d → GoesOn e d'
on {T} e d d' mild asks same = record { mild = mild; asks = subst (λ (x : Dialogue T). BooksWhole x) (sym same) asks }

step : {T : Type 0} (stamp : Stamp) (d : Dialogue T) (id : ℕ) (e : Event) (d' : Dialogue T) (id' : ℕ) → Steps stamp d id e d' id' → BooksWhole d → GoesOn e d'
step stamp (Answer r) id e d' id' h q = absurd h
step stamp (Ask copying part d) id (Book stamp' part' copying' (Ok new)) d' id' h q = on _ d d' (subst IsWholeRequest (sym h.1) q.0, h.2 ∙ q.1) q.2 h.3
step stamp (Ask copying part d) id (Book stamp' part' copying' (Err e)) d' id' h q = on _ _ d' (subst IsWholeRequest (sym h.1) q.0, h.2 ∙ q.1) tt h.3
step stamp (Ask copying part d) id _ d' id' h q = absurd h
step stamp (Send part refused d) id (Book stamp' part' copying (Ok new)) d' id' h q = on _ (Leave new d) d' (subst IsWholeRequest (sym h.1) q.0, h.2) q.2 h.3
step stamp (Send part refused d) id (Book stamp' part' copying (Err e)) d' id' h q = on _ (refused (of_fault e)) d' (subst IsWholeRequest (sym h.1) q.0, h.2) (q.1 (of_fault e)) h.3
step stamp (Send part refused d) id _ d' id' h q = absurd h
step stamp (Leave sent d) id (HangUpEvent which (Ok x)) d' id' h q = on _ d d' tt q h.1
step stamp (Leave sent d) id (HangUpEvent which (Err e)) d' id' h q = on _ _ d' tt tt h.1
step stamp (Leave sent d) id _ d' id' h q = absurd h
step stamp (Read cleanup decides next) id (TakeEvent which (Ok (taking.Batch ms))) d' id' h q =
    on _ (feed ms (Read cleanup decides next)) d' tt (asks-fed ms (Read cleanup decides next) q) h.1
step stamp (Read cleanup decides next) id (TakeEvent which (Ok taking.Empty)) d' id' h q = on _ (Read cleanup decides next) d' tt q h.1
step stamp (Read cleanup decides next) id (TakeEvent which (Ok taking.Over)) d' id' h q = on _ _ d' tt tt h.1
step stamp (Read cleanup decides next) id (TakeEvent which (Ok taking.Gone)) d' id' h q = on _ _ d' tt tt h.1
step stamp (Read cleanup decides next) id (TakeEvent which (Err e)) d' id' h q = on _ _ d' tt tt h.1
step stamp (Read cleanup decides next) id _ d' id' h q = absurd h
step stamp (HangUp d) id (HangUpEvent which (Ok x)) d' id' h q = on _ d d' tt q h.1
step stamp (HangUp d) id (HangUpEvent which (Err e)) d' id' h q = on _ _ d' tt tt h.1
step stamp (HangUp d) id _ d' id' h q = absurd h
step stamp (Put cleanup part d) id e d' id' h q = absurd q
step stamp (Finish part d) id e d' id' h q = absurd q
step stamp (Close part d) id e d' id' h q = absurd q
step stamp (Call ask refused next) id e d' id' h q = on e (after_reply h.0 refused next) d' (mild-asking e (told-asks ask e h.0 h.1)) (asks-reply ask e h.0 refused next h.1 q.0 q.1) h.2
step stamp (Hear next) id e d' id' h q = absurd h

-- the same of several
record GoesFar {T : Type 0} (es : List Event) (d : Dialogue T) : Type 0 where
  mild : AreMild es
  asks : BooksWhole d

walk : {T : Type 0} (stamp : Stamp) (d : Dialogue T) (id : ℕ) (es : List Event) (d' : Dialogue T) (id' : ℕ) → Walks stamp d id es d' id' → BooksWhole d → GoesFar es d'
walk {T} stamp d id [] d' id' h q = record { mild = tt; asks = subst (λ (x : Dialogue T). BooksWhole x) (sym h.0) q }
walk stamp d id (e ∷ es) d' id' h q =
    let one = step stamp d id e h.0 h.1 h.2 q in
    let rest = walk stamp h.0 h.1 es d' id' h.3 one.asks in
    record { mild = (one.mild, rest.mild); asks = rest.asks }

-- ---- handles

tame-closes : (left : ℕ) (a b : Standing) → Tame a → Closes left a b → Tame b
tame-closes zero a b h c = tame-moves a b (CloseRequests (Ok tt) ∷ []) h c (tt, tt)
tame-closes (suc left) a b h c = subst Tame (sym c) h

tame-behind : (did : Polling) (left : ℕ) (a b : Standing) → Tame a → ClosesBehind did left a b → Tame b
tame-behind polling.Idle left a b h c = subst Tame (sym c) h
tame-behind polling.Began left a b h c = subst Tame (sym c) h
tame-behind polling.Waits left a b h c = subst Tame (sym c) (tame-untouched a h)
tame-behind polling.Answered left a b h c = tame-closes (left - 1) a b h c

tame-poll : (a b : Standing) (s t : Streams) (l m : LinkView) (old new : List AsyncMessage) (over : Bool) (answer : Poll (Option (Result AsyncMessage Error))) → Tame a →
    PollAnswers HubBecomes a b s t l m answer → HandsOn answer old new over → Tame b
tame-poll a b s t l m old new over Pending h p hands = tame-moves a b p.turns.goes.events h p.turns.goes.became (mild-engines p.turns.goes.events p.turns.goes.calls)
tame-poll a b s t l m old new over (Ready None) h p hands = tame-moves a b p.turns.goes.events h p.turns.goes.became (mild-engines p.turns.goes.events p.turns.goes.calls)
tame-poll a b s t l m old new over (Ready (Some (Ok message))) h p hands =
    tame-moves a b p.turns.goes.events h p.turns.goes.became (mild-engines p.turns.goes.events p.turns.goes.calls)
tame-poll a b s t l m old new over (Ready (Some (Err e))) h p hands = absurd hands

-- what runs books whole requests alone
abbrev pub Runs : {T : Type 0} → Option (Place T) → Type 0
Runs None = Unit {0}
Runs (Some place) = BooksWhole place.dialogue

walked : {T : Type 0} (stamp : Stamp) (a b : Standing) (p q : Place T) → Tame a → BooksWhole p.dialogue → (g : meaning.Goes HubBecomes stamp a p b q) → Tame b × BooksWhole q.dialogue
walked stamp a b p q h asks g =
    let far = walk stamp p.dialogue p.reads g.events q.dialogue q.reads g.walked asks in
    (tame-moves a b g.events h g.became far.mild, far.asks)

module _ {C T A E : Type 0} (speech : Speech C T A E) where
  abbrev pub AllRun : List (HandleState T A E) → Type 0
  AllRun [] = Unit {0}
  AllRun (h ∷ hs) = Runs h.running × AllRun hs

  run-at : (hs : List (HandleState T A E)) (i : ℕ) (h : HandleState T A E) → AllRun hs → slice_get hs i ≡ Some h → Runs h.running
  run-at [] i h all e = absurd cc
  run-at (x ∷ hs) zero h all e = subst (λ (o : Option (HandleState T A E)). RunsIn o) e all.0
    where
      RunsIn : Option (HandleState T A E) → Type 0
      RunsIn None = Unit {0}
      RunsIn (Some x) = Runs x.running
  run-at (x ∷ hs) (suc i) h all e = run-at hs i h all.1 e

  run-set : (hs : List (HandleState T A E)) (i : ℕ) (h : HandleState T A E) → AllRun hs → Runs h.running → AllRun (slice_set hs i h)
  run-set [] i h all q = tt
  run-set (x ∷ hs) zero h all q = (q, all.1)
  run-set (x ∷ hs) (suc i) h all q = (all.0, run-set hs i h all.1 q)

  run-new : (scripts : List (List C)) → AllRun (new_handles speech.begins scripts)
  run-new [] = tt
  run-new (script ∷ scripts) = (tt, run-new scripts)

  -- ---- turns

  -- a session whose hub is so, and whose commands book whole requests alone
  pub record AsksWhole (s : SessionState T A E) : Type 0 where
    pub hub : Tame s.hub
    pub handles : AllRun s.handles

  record HandleGoes (hub : Standing) (new : HandleState T A E) : Type 0 where
    tame : Tame hub
    runs : Runs new.running

  pub asks-new : (scripts : List (List C)) (s : SessionState T A E) → IsNewSession speech scripts s → AsksWhole s
  asks-new scripts s new = record {
    hub = tame-closes (commands_in scripts) new.hub s.hub
        (record { state = start 0 0; fits = new.new; tame = tame-out (start 0 0) new.hub new.new (record { works = refl; asks = tt; flags = refl; ended = tt }) }) new.closes;
    handles = subst AllRun (sym new.handles) (run-new scripts);
  }

  module _ (whole : BookWhole speech) where
    asks-command : (own : E) (c : C) (d : Dialogue T) → AsksCommand (speech.says own c) d → BooksWhole d
    asks-command own c d (inl is) = subst (λ (x : Dialogue T). BooksWhole x) (sym is) (whole own c)
    asks-command own c d (inr is) = subst (λ (x : Dialogue T). BooksWhole x) (sym is) tt

    starts : (script : List C) (h : HandleState T A E) (begins : Bool) (from : Place T) → Runs h.running → StartsAt speech script h begins from → BooksWhole from.dialogue
    starts script h true from q s = asks-command h.own s.next from.dialogue s.asks
    starts script h false from q s = subst Runs s q

    handle-goes : (script : List C) (stamp : Stamp) (a b : Standing) (old new : HandleState T A E) (did : Polling) → Tame a → Runs old.running →
        HandleTurns HubBecomes speech script stamp a old b new did → HandleGoes b new
    handle-goes script stamp a b old new polling.Idle h q t = record {
      tame = subst Tame (sym t.desk) h;
      runs = subst (λ (x : HandleState T A E). Runs x.running) (sym t.handle) q;
    }
    handle-goes script stamp a b old new polling.Began h q t =
        let w = walked stamp a b t.from t.to h (starts script old true t.from q t.starts) t.pauses.goes in
        record { tame = w.0; runs = subst (λ (x : HandleState T A E). Runs x.running) (sym t.handle) w.1 }
    handle-goes script stamp a b old new polling.Waits h q t =
        let w = walked stamp a b t.from t.to h (starts script old false t.from q t.starts) t.pauses.goes in
        record { tame = w.0; runs = subst (λ (x : HandleState T A E). Runs x.running) (sym t.handle) w.1 }
    handle-goes script stamp a b old new polling.Answered h q t =
        let w = walked stamp a b t.from t.goes.last h (starts script old t.begins t.from q t.starts) t.goes.goes in
        record { tame = w.0; runs = subst (λ (x : HandleState T A E). Runs x.running) (sym t.handle) tt }

    asks-turn : (scripts : List (List C)) (turn : ℕ) (s t : SessionState T A E) (l m : LinkView) (over : Bool) → AsksWhole s → Makes speech scripts turn s t l m over → AsksWhole t
    asks-turn scripts turn s t l m over h (inl made) =
        let go = made.made in
        let goes = handle-goes go.script _ (untouched s.hub) go.hub go.old go.new made.did (tame-untouched s.hub h.hub) (run-at s.handles turn go.old h.handles go.old_at) go.turns in
        record {
          hub = tame-behind made.did s.unanswered go.hub t.hub goes.tame go.closes;
          handles = subst AllRun (sym go.handles) (run-set s.handles turn go.new h.handles goes.runs);
        }
    asks-turn scripts turn s t l m over h (inr made) = record {
      hub = tame-poll s.hub t.hub s.streams t.streams l m s.asynchronous t.asynchronous over made.made.answer h.hub made.made.polled made.made.hands;
      handles = subst AllRun (sym made.made.handles) h.handles;
    }

    pub asks-all : (scripts : List (List C)) (turns : List ℕ) (s : SessionState T A E) (l : LinkView) (t : SessionState T A E) (m : LinkView) → AsksWhole s → MakesAll speech scripts turns s l t m → AsksWhole t
    asks-all scripts [] s l t m h made = subst AsksWhole (sym made.0) h
    asks-all scripts (turn ∷ turns) s l t m h made =
        asks-all scripts turns made.1 made.2 t m (asks-turn scripts turn s made.1 made.0 made.2 false h made.4) made.5
