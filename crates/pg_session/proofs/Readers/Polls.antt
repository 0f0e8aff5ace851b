-- A poll of a handle leaves each request that was booked let go, or read by a command that runs.
use Rattle.std.proofs.Common.{◌≡◌, ℕ, zero, suc, ◌<◌, ◌≤◌, List, [], ◌∷◌, length, set, Bool, true, false, Option, Some, None, Result, Err, refl, sym, ap, ◌∙◌, subst, arith, inl, inr, ◌⊎◌, slice_get}
use Rattle.std.proofs.lemmas.Bool.{cases_eq, cases_lt}
use Rattle.pg_spec.specs.declared.stamps.Stamp.{Stamp}
use Rattle.pg_desk.proofs.Soundness.{AllCut}
use Rattle.pg_desk.specs.History.{State, after_all}
use Rattle.pg_desk.specs.declared.event.Event.{Event}
use Rattle.pg_types.specs.declared.error.Error.{Error}
use Rattle.pg_types.specs.declared.error.Error.TheVariants.{OutOfMemory}
use Rattle.pg_hub.specs.Becomes.{stays}
use Rattle.pg_hub.specs.Fits.{Fits, HubBecomes}
use Rattle.pg_hub.specs.Standing.{Standing}
use Rattle.pg_query.specs.Dialogue.{Dialogue, Answer}
use Rattle.pg_query.specs.Leaving.{Holds, Nothing, IsHeld, LetsGo}
use Rattle.pg_query.specs.Meaning.{Place}
use Rattle.pg_core.specs.Runs.{MayWait}
use Rattle.pg_core.proofs.Waiting.{may-wait}
use Rattle.pg_session.proofs.Lists.{set-here, set-there}
use Rattle.pg_session.specs.Handles.{HandleState}
use Rattle.pg_session.specs.HandleTurns.{AsksCommand, Idles, Waits, Answers, StartsAt}
use Rattle.pg_session.specs.Speeches.{LetGo, Speech}
use Rattle.pg_session.specs.Turns.{HandleTurns}
use Rattle.pg_session.specs.declared.handle_turn.Polling.{Polling}
use Rattle.pg_session.specs.declared.handle_turn.Polling.TheVariants as polling
use Rattle.pg_session.proofs.Readers.LetGo.{IsLetGo, StaysLetGo}
use Rattle.pg_session.proofs.Readers.Walks.{MayAnswer, Leads, Owes, answers-free, waits-on, waits-sent, walk-lets}

set-at : {X : Type 0} (xs : List X) (i : ℕ) (old new : X) → slice_get xs i ≡ Some old → slice_get (set xs i new) i ≡ Some new
set-at [] i old new h = absurd cc
set-at (x ∷ xs) zero old new h = refl
set-at (x ∷ xs) (suc i) old new h = set-at xs i old new h

pub one-there : {X : Type 0} (o : Option X) (x y : X) → o ≡ Some x → o ≡ Some y → y ≡ x
one-there o x y h k = let e : Some x ≡ Some y = sym h ∙ k in cc

pub none-some : {X : Type 0} (o : Option X) (x : X) → o ≡ None → o ≡ Some x → ⊥
none-some o x h k = let e : None ≡ Some x = sym h ∙ k in cc

-- one of two, by whether it is this one
abbrev pick : {X P Q : Type 0} → P ⊎ Q → X → X → X
pick (inl p) this other = this
pick (inr q) this other = other

pick-this : {X P : Type 0} (c : P ⊎ (P → ⊥)) (this other : X) → P → pick c this other ≡ this
pick-this (inl p) this other h = refl
pick-this (inr not) this other h = absurd (not h)

pick-other : {X P : Type 0} (c : P ⊎ (P → ⊥)) (this other : X) → (P → ⊥) → pick c this other ≡ other
pick-other (inl p) this other h = absurd (h p)
pick-other (inr not) this other h = refl

-- the same of each handle, but of this one another
abbrev holds_now : (turn : ℕ) → Holds → (ℕ → Holds) → ℕ → Holds
holds_now turn this others i = pick (cases_eq i turn) this (others i)

holds-this : (turn : ℕ) (this : Holds) (others : ℕ → Holds) (i : ℕ) → i ≡ turn → holds_now turn this others i ≡ this
holds-this turn this others i same = pick-this (cases_eq i turn) this (others i) same

holds-other : (turn : ℕ) (this : Holds) (others : ℕ → Holds) (i : ℕ) → (i ≡ turn → ⊥) → holds_now turn this others i ≡ others i
holds-other turn this others i other = pick-other (cases_eq i turn) this (others i) other

-- a command that runs waits, and lets go of what it reads
pub record RunsOn {T : Type 0} (holds : Holds) (place : Place T) : Type 0 where
  pub waits : MayWait place.dialogue
  pub lets : LetsGo holds place.dialogue

-- the command of this handle runs, and reads request k
pub record IsReadIn {T A E : Type 0} (holds : ℕ → Holds) (handles : List (HandleState T A E)) (k : ℕ) : Type 0 where
  pub handle : ℕ
  pub state : HandleState T A E
  pub place : Place T
  pub at : slice_get handles handle ≡ Some state
  pub runs : state.running ≡ Some place
  pub reads : place.reads ≡ k
  pub held : IsHeld (holds handle)

-- Each request was let go or is read. `holds`: whether the command of this handle has let go of what it reads.
pub record AreRead {T A E : Type 0} (handles : List (HandleState T A E)) (s : State) : Type 0 where
  pub holds : ℕ → Holds
  pub running : (i : ℕ) (h : HandleState T A E) (place : Place T) → slice_get handles i ≡ Some h → h.running ≡ Some place → RunsOn (holds i) place
  pub read : (k : ℕ) → k < length s.book → IsLetGo s k ⊎ IsReadIn holds handles k

-- events that book nothing leave it so
pub read-on : {T A E : Type 0} (handles : List (HandleState T A E)) (s t : State) → t.book ≡ s.book → StaysLetGo s t → AreRead handles s → AreRead handles t
read-on handles s t book stays h = record {
  holds = h.holds;
  running = h.running;
  read = λ k lt. by k (h.read k (omega (arith, lt, ap length book)));
}
  where
    by : (k : ℕ) → IsLetGo s k ⊎ IsReadIn h.holds handles k → IsLetGo t k ⊎ IsReadIn h.holds handles k
    by k (inl gone) = inl (stays.let_go k gone)
    by k (inr r) = inr r

-- ---- one handle's poll

-- the command of this handle runs, and reads request k
abbrev pub Reads : {T A E : Type 0} → Holds → HandleState T A E → ℕ → Type 0
Reads {T} holds h k = IsHeld holds × (place : Place T) × (h.running ≡ Some place) × (place.reads ≡ k)

-- the requests that it read, and those that are booked later
abbrev pub Mine : {T A E : Type 0} → Holds → State → HandleState T A E → ℕ → Type 0
Mine holds s h k = (length s.book ≤ k) ⊎ Reads holds h k

-- where its poll led: of these requests each was let go, or it reads it
pub record Tends {T A E : Type 0} (mine : ℕ → Type 0) (t : State) (new : HandleState T A E) : Type 0 where
  pub holds : Holds
  pub now : (place : Place T) → new.running ≡ Some place → RunsOn holds place
  pub covers : (k : ℕ) → mine k → k < length t.book → IsLetGo t k ⊎ Reads holds new k

pub read-then : {T A E : Type 0} (handles : List (HandleState T A E)) (turn : ℕ) (s t : State) (old new : HandleState T A E) → slice_get handles turn ≡ Some old → StaysLetGo s t → (h : AreRead handles s) →
    Tends (Mine (h.holds turn) s old) t new → AreRead (set handles turn new) t
read-then {T} {A} {E} handles turn s t old new at stays h tends = record {
  holds = holds;
  running = λ i g place there runs. runs-on i g place there runs (cases_eq i turn);
  read = λ k lt. by k lt (cases_lt k (length s.book));
}
  where
    holds : ℕ → Holds
    holds = holds_now turn tends.holds h.holds

    runs-on : (i : ℕ) (g : HandleState T A E) (place : Place T) → slice_get (set handles turn new) i ≡ Some g → g.running ≡ Some place → (i ≡ turn) ⊎ (i ≡ turn → ⊥) → RunsOn (holds i) place
    runs-on i g place there runs (inl same) =
        let is : g ≡ new = set-here handles turn old new g at (ap (slice_get (set handles turn new)) (sym same) ∙ there) in
        subst (λ (x : Holds). RunsOn x place) (sym (holds-this turn tends.holds h.holds i same)) (tends.now place (ap (λ (x : HandleState T A E). x.running) (sym is) ∙ runs))
    runs-on i g place there runs (inr other) =
        subst (λ (x : Holds). RunsOn x place) (sym (holds-other turn tends.holds h.holds i other)) (h.running i g place (sym (set-there handles turn i new other) ∙ there) runs)

    here : (k : ℕ) → IsLetGo t k ⊎ Reads tends.holds new k → IsLetGo t k ⊎ IsReadIn holds (set handles turn new) k
    here k (inl gone) = inl gone
    here k (inr (held, to, runs, reads)) =
        inr (record { handle = turn; state = new; place = to; at = set-at handles turn old new at; runs = runs; reads = reads; held = subst (λ (x : Holds). IsHeld x) (sym (holds-this turn tends.holds h.holds turn refl)) held })

    still-read : (k : ℕ) → k < length t.book → (r : IsReadIn h.holds handles k) → (r.handle ≡ turn) ⊎ (r.handle ≡ turn → ⊥) → IsLetGo t k ⊎ IsReadIn holds (set handles turn new) k
    still-read k lt r (inl same) =
        let is : r.state ≡ old = one-there (slice_get handles turn) old r.state at (ap (slice_get handles) (sym same) ∙ r.at) in
        here k (tends.covers k (inr (subst (λ (i : ℕ). IsHeld (h.holds i)) same r.held, r.place, ap (λ (x : HandleState T A E). x.running) (sym is) ∙ r.runs, r.reads)) lt)
    still-read k lt r (inr other) = inr (record {
      handle = r.handle;
      state = r.state;
      place = r.place;
      at = set-there handles turn r.handle new other ∙ r.at;
      runs = r.runs;
      reads = r.reads;
      held = subst (λ (x : Holds). IsHeld x) (sym (holds-other turn tends.holds h.holds r.handle other)) r.held;
    })

    before : (k : ℕ) → k < length t.book → IsLetGo s k ⊎ IsReadIn h.holds handles k → IsLetGo t k ⊎ IsReadIn holds (set handles turn new) k
    before k lt (inl gone) = inl (stays.let_go k gone)
    before k lt (inr r) = still-read k lt r (cases_eq r.handle turn)

    by : (k : ℕ) → k < length t.book → (k < length s.book) ⊎ (length s.book ≤ k) → IsLetGo t k ⊎ IsReadIn holds (set handles turn new) k
    by k lt (inl less) = before k lt (h.read k less)
    by k lt (inr past) = here k (tends.covers k (inl past) lt)

-- ---- where a poll led

-- it has no command left
pub tends-none : {T A E : Type 0} (holds : Holds) (s : State) (old : HandleState T A E) → old.running ≡ None → Tends (Mine holds s old) s old
tends-none {T} {A} {E} holds s old none = record {
  holds = Nothing;
  now = λ place e. absurd (none-some old.running place none e);
  covers = λ k m lt. by k lt m;
}
  where
    by : (k : ℕ) → k < length s.book → Mine holds s old k → IsLetGo s k ⊎ Reads Nothing old k
    by k lt (inl past) = absurd (omega (arith, past, lt))
    by k lt (inr (held, place, is, reads)) = absurd (none-some old.running place none is)

-- it waits
pub tends-waits : {T A E : Type 0} (mine : ℕ → Type 0) (t : State) (new : HandleState T A E) (to : Place T) → new.running ≡ Some to → MayWait to.dialogue → Leads mine t to.dialogue to.reads → Tends mine t new
tends-waits {T} {A} {E} mine t new to is waits leads = record {
  holds = w.holds;
  now = λ place e. subst (λ (p : Place T). RunsOn w.holds p) (sym (one-there new.running to place is e)) (record { waits = waits; lets = w.lets });
  covers = λ k m lt. by k (w.covers k m lt);
}
  where
    w : MayAnswer mine t to.dialogue to.reads
    w = waits-on mine t to.dialogue to.reads waits leads

    by : (k : ℕ) → IsLetGo t k ⊎ Owes w.holds to.dialogue to.reads k → IsLetGo t k ⊎ Reads w.holds new k
    by k (inl gone) = inl gone
    by k (inr (inl owed)) = inr (owed.0, to, is, sym owed.1)
    by k (inr (inr sent)) = absurd (waits-sent to.dialogue k waits sent)

-- it answers
pub tends-answered : {T A E : Type 0} (mine : ℕ → Type 0) (t : State) (new : HandleState T A E) (last : Place T) (r : Result T Error) → new.running ≡ None → last.dialogue ≡ Answer r → (r ≡ Err OutOfMemory → ⊥) →
    Leads mine t last.dialogue last.reads → Tends mine t new
tends-answered mine t new last r none is memory w = record {
  holds = Nothing;
  now = λ place e. absurd (none-some new.running place none e);
  covers = λ k m lt. inl (answers-free mine t last.dialogue last.reads r is memory w k m lt);
}

-- where a poll begins: a command that runs
pub runs-before : {T A E : Type 0} (holds : Holds) (s : State) (old : HandleState T A E) (from : Place T) → old.running ≡ Some from → RunsOn holds from → MayAnswer (Mine holds s old) s from.dialogue from.reads
runs-before {T} {A} {E} holds s old from is on = record { holds = holds; lets = on.lets; covers = λ k m lt. by k lt m }
  where
    by : (k : ℕ) → k < length s.book → Mine holds s old k → IsLetGo s k ⊎ Owes holds from.dialogue from.reads k
    by k lt (inl past) = absurd (omega (arith, past, lt))
    by k lt (inr (held, place, runs, reads)) =
        let same : place ≡ from = one-there old.running from place is runs in
        inr (inl (held, sym reads ∙ ap (λ (p : Place T). p.reads) same))

-- or the next one
begins-now : {T A E : Type 0} (holds : Holds) (s : State) (old : HandleState T A E) (from : Place T) → old.running ≡ None → LetsGo Nothing from.dialogue → MayAnswer (Mine holds s old) s from.dialogue from.reads
begins-now {T} {A} {E} holds s old from none lets = record { holds = Nothing; lets = lets; covers = λ k m lt. by k lt m }
  where
    by : (k : ℕ) → k < length s.book → Mine holds s old k → IsLetGo s k ⊎ Owes Nothing from.dialogue from.reads k
    by k lt (inl past) = absurd (omega (arith, past, lt))
    by k lt (inr (held, place, runs, reads)) = absurd (none-some old.running place none runs)

module _ {C T A E : Type 0} (speech : Speech C T A E) (lets : LetGo speech) where
  lets-begun : (own : E) (next : C) (d : Dialogue T) → AsksCommand (speech.says own next) d → LetsGo Nothing d
  lets-begun own next d (inl is) = subst (λ (x : Dialogue T). LetsGo Nothing x) (sym is) (lets own next)
  lets-begun own next d (inr is) = subst (λ (x : Dialogue T). LetsGo Nothing x) (sym is) tt

  -- by some events the hub became another, and the handle tends what it booked and read
  pub record PollTends (a b : Standing) (s : State) (holds : Holds) (old new : HandleState T A E) : Type 0 where
    pub events : List Event
    pub became : HubBecomes a events b
    pub tends : Tends (Mine holds s old) (after_all s events) new

  module _ (script : List C) (stamp : Stamp) (a : Standing) (old : HandleState T A E) (s : State) (f : Fits s a) (cut : AllCut s.deliveries) (holds : Holds)
      (runs : (place : Place T) → old.running ≡ Some place → RunsOn holds place) where
    starts-so : (begins : Bool) (from : Place T) → StartsAt speech script old begins from → MayAnswer (Mine holds s old) s from.dialogue from.reads
    starts-so true from starts = begins-now holds s old from starts.none_runs (lets-begun old.own starts.next from.dialogue starts.asks)
    starts-so false from starts = runs-before holds s old from starts (runs from starts)

    tends-idle : (b : Standing) (new : HandleState T A E) → Idles script a old b new → PollTends a b s holds old new
    tends-idle b new h =
        subst (λ (x : HandleState T A E). PollTends a b s holds old x) (sym h.handle)
        (subst (λ (x : Standing). PollTends a x s holds old old) (sym h.desk) (record { events = []; became = stays a; tends = tends-none holds s old h.none_runs }))

    tends-pauses : (begins : Bool) (b : Standing) (new : HandleState T A E) → Waits HubBecomes speech script stamp a old b new begins → PollTends a b s holds old new
    tends-pauses begins b new h =
        let goes = h.pauses.goes in
        record {
          events = goes.events;
          became = goes.became;
          tends = tends-waits (Mine holds s old) (after_all s goes.events) new h.to (ap (λ (x : HandleState T A E). x.running) h.handle) (may-wait h.to goes.events h.pauses.waits)
              (walk-lets (Mine holds s old) stamp s h.from.dialogue h.from.reads goes.events h.to.dialogue h.to.reads cut (goes.became.stands s f).0 (starts-so begins h.from h.starts) goes.walked);
        }

    tends-answers : (b : Standing) (new : HandleState T A E) → Answers HubBecomes speech script stamp a old b new → PollTends a b s holds old new
    tends-answers b new h = by h.goes.answers
      where
        by : (h.goes.last.dialogue ≡ Answer h.answer) ⊎ (h.answer ≡ Err OutOfMemory) → PollTends a b s holds old new
        by (inr lacked) = absurd (h.memory lacked)
        by (inl at) =
            let goes = h.goes.goes in
            record {
              events = goes.events;
              became = goes.became;
              tends = tends-answered (Mine holds s old) (after_all s goes.events) new h.goes.last h.answer (ap (λ (x : HandleState T A E). x.running) h.handle) at h.memory
                  (walk-lets (Mine holds s old) stamp s h.from.dialogue h.from.reads goes.events h.goes.last.dialogue h.goes.last.reads cut (goes.became.stands s f).0 (starts-so h.begins h.from h.starts) goes.walked);
            }

    pub poll-tends : (b : Standing) (new : HandleState T A E) (did : Polling) → HandleTurns HubBecomes speech script stamp a old b new did → PollTends a b s holds old new
    poll-tends b new polling.Idle h = tends-idle b new h
    poll-tends b new polling.Began h = tends-pauses true b new h
    poll-tends b new polling.Waits h = tends-pauses false b new h
    poll-tends b new polling.Answered h = tends-answers b new h
