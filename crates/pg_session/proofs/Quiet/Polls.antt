-- A poll of the connection in which nothing moved, behind turns of all handles in which nothing moved.
use Rattle.std.proofs.Common.{◌≡◌, ℕ, zero, suc, ◌<◌, ◌≤◌, nat_lt, List, [], ◌∷◌, length, Bool, true, false, not, ◌&&◌, ◌||◌, if◌then◌else◌, Option, Some, None, Ok, Err, refl, sym, ap, ◌∙◌, subst, arith, inl, inr, ◌⊎◌, slice_get}
use Rattle.std.specs.List.{list_any}
use Rattle.std.proofs.lemmas.Bool.Decides.{nat_tests}
use Rattle.pg_spec.specs.Batches.{is_nothing}
use Rattle.pg_spec.specs.Links.{LinkView}
use Rattle.pg_spec.specs.RawMessages.{RawMessage}
use Rattle.pg_connect.specs.Answers.{Turned}
use Rattle.pg_connect.specs.Passed.{IsEngineCall, AllEngineCalls, moves_in}
use Rattle.pg_connect.specs.Ends.{some_is}
use Rattle.pg_connect.specs.Reads.{is_full}
use Rattle.pg_connect.specs.declared.ends.TurnEnd.{TurnEnd}
use Rattle.pg_connect.specs.declared.streams.Streams.{Streams}
use Rattle.pg_desk.specs.declared.event.Deliver.TheVariants as delivering
use Rattle.pg_desk.specs.declared.event.Event.{Event}
use Rattle.pg_desk.specs.declared.event.Event.TheVariants.{Book, Put as PutEvent, EndCopy, Take as TakeEvent, HangUp, NextStatement, NextPortal, Catalog as CatalogEvent, NextOut, Deliver as DeliverEvent, CloseRequests, Fail}
use Rattle.pg_desk.specs.declared.event.Out.TheVariants as out
use Rattle.pg_desk.specs.declared.event.Take.TheVariants as taking
use Rattle.pg_desk.specs.History.{State, waiting, is_hung_up, has_begun, has_ended, has_open, next_owner, after, after_all, take_answer, take_of_waiting, Allows, IsExact, IsOldestOpen}
use Rattle.pg_desk.proofs.Soundness.{owner-is-oldest}
use Rattle.pg_hub.specs.Fits.{Fits, HubBecomes}
use Rattle.pg_hub.specs.Standing.{Standing}
use Rattle.pg_session.specs.SessionKept.{left}
use Rattle.pg_query.specs.Meaning.{Place}
use Rattle.pg_query.specs.Scripts.{IsPut}
use Rattle.pg_session.proofs.Takes.{took-empty}
use Rattle.pg_session.proofs.Quiet.Handles.{IsQuiet, Done, Awaits, HoldsBack}
use Rattle.pg_session.proofs.Readers.LetGo.{IsLetGo}
use Rattle.pg_session.proofs.Readers.Polls.{AreRead, IsReadIn, one-there, none-some}
use Rattle.pg_session.specs.Handles.{HandleState}
use Rattle.pg_session.specs.Speeches.{Speech}

-- ---- nothing moves the hub

still-one : (s : State) (e : Event) → IsEngineCall e → moves_in e ≡ false → after s e ≡ s
still-one s (NextOut (Ok (out.Part part))) h none = absurd cc
still-one s (NextOut (Ok out.CopyWaits)) h none = refl
still-one s (NextOut (Ok out.Nothing)) h none = refl
still-one s (NextOut (Ok out.NoMore)) h none = refl
still-one s (NextOut (Err e)) h none = refl
still-one s (DeliverEvent batch complete delivering.Taken) h none = absurd cc
still-one s (DeliverEvent batch complete (delivering.Full back)) h none = refl
still-one s (DeliverEvent batch complete (delivering.NoRequest back)) h none = refl
still-one s (DeliverEvent batch complete (delivering.OutOfMemory back)) h none = refl
still-one s (Book stamp part copying r) h none = absurd h
still-one s (TakeEvent id r) h none = absurd h
still-one s (HangUp id r) h none = absurd h
still-one s (NextStatement r) h none = absurd h
still-one s (NextPortal r) h none = absurd h
still-one s (CatalogEvent call) h none = absurd h
still-one s (PutEvent which part r) h none = absurd h
still-one s (EndCopy which part r) h none = absurd h
still-one s (CloseRequests r) h none = absurd h
still-one s (Fail r) h none = absurd h

neither : (b c : Bool) → (b || c) ≡ false → (b ≡ false) × (c ≡ false)
neither true c h = absurd cc
neither false c h = (refl, h)

pub still-all : (s : State) (es : List Event) → AllEngineCalls es → list_any moves_in es ≡ false → after_all s es ≡ s
still-all s [] h none = refl
still-all s (e ∷ es) h none =
    let n = neither (moves_in e) (list_any moves_in es) none in
    still-all (after s e) es h.1 n.1 ∙ still-one s e h.0 n.0

-- no event of a poll that says that nothing moved moved anything
pub none-moved : (a b : Standing) (old new : Streams) (l m : LinkView) (end : TurnEnd) (over : Bool) (polled : Turned HubBecomes a b old new l m end over) →
    new.moved ≡ false → list_any moves_in polled.turns.goes.events ≡ false
none-moved a b old new l m end over polled unmoved =
    let p = polled.turns.goes.passes in
    pick (not (is_nothing p.got)) (not (is_nothing p.sent)) (not (is_nothing polled.turns.handed)) (list_any moves_in polled.turns.goes.events) p.over
    (sym unmoved ∙ p.moved)
  where
    pick : (x y z e o : Bool) → false ≡ (false || (((x || y) || (z || e)) || o)) → e ≡ false
    pick true y z e o h = absurd cc
    pick false true z e o h = absurd cc
    pick false false true e o h = absurd cc
    pick false false false true o h = absurd cc
    pick false false false false o h = refl

-- ---- no mailbox is full

-- the open request, if there is one and its reader is there, has room
abbrev HasRoom : State → Type 0
HasRoom s = has_open s ≡ true → is_hung_up s (next_owner s) ≡ false → 2 ≤ length (waiting s (next_owner s)) → ⊥

full-not : (s : State) (e : Event) → HasRoom s → Allows s e → is_full e ≡ false
full-not s (DeliverEvent batch complete (delivering.Full back)) room allows = absurd (room allows.1 allows.2 allows.3)
full-not s (DeliverEvent batch complete delivering.Taken) room allows = refl
full-not s (DeliverEvent batch complete (delivering.NoRequest back)) room allows = refl
full-not s (DeliverEvent batch complete (delivering.OutOfMemory back)) room allows = refl
full-not s (NextOut r) room allows = refl
full-not s (Book stamp part copying r) room allows = refl
full-not s (TakeEvent id r) room allows = refl
full-not s (HangUp id r) room allows = refl
full-not s (NextStatement r) room allows = refl
full-not s (NextPortal r) room allows = refl
full-not s (CatalogEvent call) room allows = refl
full-not s (PutEvent which part r) room allows = refl
full-not s (EndCopy which part r) room allows = refl
full-not s (CloseRequests r) room allows = refl
full-not s (Fail r) room allows = refl

full-none : (s : State) (es : List Event) → HasRoom s → AllEngineCalls es → list_any moves_in es ≡ false → IsExact s es → some_is is_full es ≡ false
full-none s [] room calls none exact = refl
full-none s (e ∷ es) room calls none exact =
    let n = neither (moves_in e) (list_any moves_in es) none in
    let same = still-one s e calls.0 n.0 in
    let rest = full-none s es room calls.1 n.1 (subst (λ (x : State). IsExact x es) same exact.2) in
    ap (λ (b : Bool). b || some_is is_full es) (full-not s e room exact.0) ∙ rest

-- a request that is open hasn't ended
open-unended : (b c : Bool) → (b && not c) ≡ true → c ≡ true → ⊥
open-unended true true h e = absurd cc
open-unended false c h e = absurd cc
open-unended true false h e = absurd cc

-- the hub's state is as it was
pub fits-behind : (s : State) (a b : Standing) (old new : Streams) (l m : LinkView) (end : TurnEnd) (over : Bool) → Fits s a →
    (polled : Turned HubBecomes a b old new l m end over) → new.moved ≡ false → Fits s b
fits-behind s a b old new l m end over f polled unmoved =
    let goes = polled.turns.goes in
    subst (λ (x : State). Fits x b) (still-all s goes.events goes.calls (none-moved a b old new l m end over polled unmoved)) (goes.became.stands s f).1

-- what a take that gave nothing tells
record TookNone (s : State) (k : ℕ) : Type 0 where
  booked : k < length s.book
  there : is_hung_up s k ≡ false
  unended : has_ended k s.deliveries ≡ false

none-waits : (s : State) (k : ℕ) (w : List (List RawMessage)) → taking.Empty ≡ take_of_waiting s k w → has_ended k s.deliveries ≡ false
none-waits s k (ms ∷ w) h = absurd cc
none-waits s k [] h = by s.failed (has_ended k s.deliveries) h
  where
    by : (b c : Bool) → taking.Empty ≡ (if b then taking.Gone else (if c then taking.Over else taking.Empty)) → c ≡ false
    by true c h = absurd cc
    by false true h = absurd cc
    by false false h = refl

took-none : (s : State) (k : ℕ) → taking.Empty ≡ take_answer s k → TookNone s k
took-none s k h = by (nat_lt k (length s.book)) refl (is_hung_up s k) refl h
  where
    less : (a b : ℕ) → nat_lt a b ≡ true → a < b
    less a b e = grind (arith, nat_tests)

    by : (b : Bool) → nat_lt k (length s.book) ≡ b → (c : Bool) → is_hung_up s k ≡ c →
        taking.Empty ≡ (if b then (if c then taking.Gone else take_of_waiting s k (waiting s k)) else taking.Gone) → TookNone s k
    by false is c hung h = absurd cc
    by true is true hung h = absurd cc
    by true is false hung h =
        record { booked = less k (length s.book) is; there = hung; unended = none-waits s k (waiting s k) h }

module _ {C T A E : Type 0} (speech : Speech C T A E) where
  -- all handles are quiet
  abbrev pub AllQuiet : List (List C) → List (HandleState T A E) → State → Type 0
  AllQuiet scripts handles s = (i : ℕ) (h : HandleState T A E) → slice_get handles i ≡ Some h →
      (script : List C) × (slice_get scripts i ≡ Some script) × IsQuiet speech script s h

  -- no command holds back a part
  abbrev pub NoneHeld : List (HandleState T A E) → Type 0
  NoneHeld handles = (i : ℕ) (h : HandleState T A E) (place : Place T) → slice_get handles i ≡ Some h → h.running ≡ Some place → IsPut place.dialogue → ⊥

  -- what the reader of an open request that runs takes is nothing, where it holds back no part
  read-room : (s : State) (k : ℕ) (script : List C) (h : HandleState T A E) (place : Place T) → h.running ≡ Some place → place.reads ≡ k →
      ((place : Place T) → h.running ≡ Some place → IsPut place.dialogue → ⊥) → IsQuiet speech script s h → waiting s k ≡ []
  read-room s k script h place runs reads held (Done none whole) = absurd (none-some h.running place none runs)
  read-room s k script h place runs reads held (HoldsBack at e puts two) = absurd (held at e puts)
  read-room s k script h place runs reads held (Awaits at e empty) =
      let same : place ≡ at = one-there h.running at place e runs in
      let id : at.reads ≡ k = ap (λ (p : Place T). p.reads) (sym same) ∙ reads in
      took-empty s k (empty ∙ ap (take_answer s) id)

  has-room : (scripts : List (List C)) (handles : List (HandleState T A E)) (s : State) (a : Standing) → Fits s a → AreRead handles s → AllQuiet scripts handles s → NoneHeld handles → HasRoom s
  has-room scripts handles s a f are quiet held open_ there two = by (are.read (next_owner s) oldest.booked)
    where
      oldest : IsOldestOpen s (next_owner s)
      oldest = owner-is-oldest s open_

      by : IsLetGo s (next_owner s) ⊎ IsReadIn are.holds handles (next_owner s) → ⊥
      by (inl (inl hung)) = absurd (let no_way : true ≡ false = sym hung ∙ there in cc)
      by (inl (inr over)) = open-unended (has_begun s (next_owner s)) (has_ended (next_owner s) s.deliveries) oldest.open_ over
      by (inr r) =
          let q = quiet r.handle r.state r.at in
          omega (arith, two, ap length (read-room s (next_owner s) q.0 r.state r.place r.runs r.reads (λ place e. held r.handle r.state place r.at e) q.2))

  -- no delivery of the poll met a full mailbox
  pub not-full : (scripts : List (List C)) (handles : List (HandleState T A E)) (s : State) (a b : Standing) (old new : Streams) (l m : LinkView) (end : TurnEnd) (over : Bool) →
      Fits s a → AreRead handles s → AllQuiet scripts handles s → NoneHeld handles → (polled : Turned HubBecomes a b old new l m end over) → new.moved ≡ false →
      some_is is_full polled.turns.goes.events ≡ false
  not-full scripts handles s a b old new l m end over f are quiet held polled unmoved =
      let goes = polled.turns.goes in
      full-none s goes.events (has-room scripts handles s a f are quiet held) goes.calls (none-moved a b old new l m end over polled unmoved) (goes.became.stands s f).0

  -- ---- something is awaited, or all is done

  -- a command that runs has taken all that came of its request, and the request's group hasn't ended
  pub record IsAwaited (handles : List (HandleState T A E)) (s : State) : Type 0 where
    pub handle : ℕ
    pub state : HandleState T A E
    pub place : Place T
    pub at : slice_get handles handle ≡ Some state
    pub runs : state.running ≡ Some place
    pub booked : place.reads < length s.book
    pub there : is_hung_up s place.reads ≡ false
    pub taken : waiting s place.reads ≡ []
    pub unended : has_ended place.reads s.deliveries ≡ false

  -- some command runs, or none does
  record SomeRuns (handles : List (HandleState T A E)) : Type 0 where
    handle : ℕ
    state : HandleState T A E
    place : Place T
    at : slice_get handles handle ≡ Some state
    runs : state.running ≡ Some place

  abbrev NoneRuns : List (HandleState T A E) → Type 0
  NoneRuns handles = (i : ℕ) (h : HandleState T A E) → slice_get handles i ≡ Some h → h.running ≡ None

  some-or-none : (handles : List (HandleState T A E)) → SomeRuns handles ⊎ NoneRuns handles
  some-or-none [] = inr (λ i h at. absurd (let no_way : None ≡ Some h = at in cc))
  some-or-none (g ∷ handles) = by g.running refl (some-or-none handles)
    where
      by : (o : Option (Place T)) → g.running ≡ o → SomeRuns handles ⊎ NoneRuns handles → SomeRuns (g ∷ handles) ⊎ NoneRuns (g ∷ handles)
      by (Some place) is rest = inl (record { handle = zero; state = g; place = place; at = refl; runs = is })
      by None is (inl r) = inl (record { handle = suc r.handle; state = r.state; place = r.place; at = r.at; runs = r.runs })
      by None is (inr none) = inr each
        where
          each : NoneRuns (g ∷ handles)
          each zero h at = let same : g ≡ h = cc in ap (λ (x : HandleState T A E). x.running) (sym same) ∙ is
          each (suc i) h at = none i h at

  awaited-by : (handles : List (HandleState T A E)) (s : State) (script : List C) (r : SomeRuns handles) → NoneHeld handles → IsQuiet speech script s r.state → IsAwaited handles s
  awaited-by handles s script r held (Done none whole) = absurd (none-some r.state.running r.place none r.runs)
  awaited-by handles s script r held (HoldsBack place runs puts two) = absurd (held r.handle r.state place r.at runs puts)
  awaited-by handles s script r held (Awaits place runs empty) =
      let took = took-none s place.reads empty in
      record {
        handle = r.handle;
        state = r.state;
        place = place;
        at = r.at;
        runs = runs;
        booked = took.booked;
        there = took.there;
        taken = took-empty s place.reads empty;
        unended = took.unended;
      }

  left-none : (scripts : List (List C)) (handles : List (HandleState T A E)) →
      ((i : ℕ) (script : List C) (h : HandleState T A E) → slice_get scripts i ≡ Some script → slice_get handles i ≡ Some h → length h.answers ≡ length script) →
      left scripts handles ≡ 0
  left-none [] handles h = refl
  left-none (script ∷ scripts) [] h = refl
  left-none (script ∷ scripts) (g ∷ handles) h = omega (arith, h zero script g refl refl, left-none scripts handles (λ i x y e f. h (suc i) x y e f))

  whole-by : (script : List C) (s : State) (h : HandleState T A E) → h.running ≡ None → IsQuiet speech script s h → length h.answers ≡ length script
  whole-by script s h none (Done e whole) = whole
  whole-by script s h none (Awaits place runs empty) = absurd (none-some h.running place none runs)
  whole-by script s h none (HoldsBack place runs puts two) = absurd (none-some h.running place none runs)

  -- a command awaits something of its request, or no command is left
  pub awaited-or-done : (scripts : List (List C)) (handles : List (HandleState T A E)) (s : State) → AllQuiet scripts handles s → NoneHeld handles → IsAwaited handles s ⊎ (left scripts handles ≡ 0)
  awaited-or-done scripts handles s quiet held = by (some-or-none handles)
    where
      by : SomeRuns handles ⊎ NoneRuns handles → IsAwaited handles s ⊎ (left scripts handles ≡ 0)
      by (inl r) = let q = quiet r.handle r.state r.at in inl (awaited-by handles s q.0 r held q.2)
      by (inr none) = inr (left-none scripts handles (λ i script h e f.
          let q = quiet i h f in
          let same : q.0 ≡ script = (let k : Some q.0 ≡ Some script = sym q.1 ∙ e in cc) in
          whole-by script s h (none i h f) (subst (λ (x : List C). IsQuiet speech x s h) same q.2)))
