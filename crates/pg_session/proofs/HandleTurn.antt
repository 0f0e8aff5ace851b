-- A turn of a handle: what is kept of it then, and what it leaves alone.
use Rattle.std.proofs.Common.{◌≡◌, ◌≢◌, ◌⊎◌, inl, inr, ℕ, ◌+◌, ◌<◌, ◌≤◌, ◌==◌, ◌&&◌, ◌||◌, List, [], ◌∷◌, length, map, Bool, true, false, Option, Some, Err, sym, ap, subst, ◌∙◌, arith, slice_get}
use Rattle.std.specs.Prelude.{⊤}
use Rattle.std.proofs.lemmas.Bool.Decides.{nat_tests}
use Rattle.std.proofs.lemmas.List.{length-map}
use Rattle.pg_spec.specs.RawMessages.{RawMessage, groups, sync_of}
use Rattle.pg_spec.specs.Turns.{IsFirstTurn, IsOwnTurn, delivered_before}
use Rattle.pg_spec.specs.declared.stamps.Stamp.{Stamp}
use Rattle.pg_desk.specs.History.{Delivery, IsFrontOf, IsLegal, State, after_all, ended, given, joined, received}
use Rattle.pg_desk.specs.Kept.{stored-part}
use Rattle.pg_desk.specs.declared.event.Event.{Event}
use Rattle.pg_types.specs.declared.error.Error.TheVariants.{OutOfMemory}
use Rattle.pg_query.specs.Dialogue.{Dialogue, Answer}
use Rattle.pg_query.specs.Lives.{Deed, Leads}
use Rattle.pg_query.specs.Meaning.{Place}
use Rattle.pg_query.specs.declared.desk_call.DeskCall.{DeskCall}
use Rattle.pg_query.specs.declared.desk_call.Reply.{Reply}
use Rattle.pg_spec.specs.Courses.{Course, questions_of, requests_of, stamp_of}
use Rattle.pg_core.specs.Counters.{Counts, tells}
use Rattle.pg_core.specs.Deeds.{asked_in}
use Rattle.pg_core.specs.Lists.{IsReached, SparesAll, came_of, events_of, state_behind}
use Rattle.pg_core.specs.Times.{HangsUpNone}
use Rattle.pg_core.specs.Trails.{AllUnder, CameBy, IsNext, Moment, PollEnds}
use Rattle.pg_core.proofs.Counts.{came-by}
use Rattle.pg_core.proofs.Extended.{holds-none}
use Rattle.pg_core.proofs.Owned.{others-questions}
use Rattle.pg_core.proofs.Steps.{firm}
use Rattle.pg_core.proofs.Upright.{upright-begins}
use Rattle.pg_session.specs.Speeches.{AreCommands, Speech}
use Rattle.pg_session.specs.Handles.{HandleState}
use Rattle.pg_session.specs.HandleTurns.{AsksCommand, BeginsNext, StartsAt}
use Rattle.pg_session.specs.Kept.{Does, HandleKept, HasDone, IsReady, Now, Past, Rests, Runs, book_of, first_at, free_of, states_of}
use Rattle.pg_session.proofs.Alone.{begin-spares, poll-spares}
use Rattle.pg_session.proofs.Others.{done-on}
use Rattle.pg_session.proofs.OwnCalls.{SameEngine, own-keep}
use Rattle.pg_session.proofs.OwnTurn.{Grows, IsPolled, behind_turn}
use Rattle.pg_session.proofs.Rows.{get-within}

-- by legal events a state became another
abbrev pub StateBecomes : State → List Event → State → Type 0
StateBecomes s es t = IsLegal s es × (t ≡ after_all s es)

-- What a turn of a handle is in its session: the hub is open where a command is left, and what came is counted in the course.
pub record IsTurnAt (course : Course DeskCall Reply) (handle : ℕ) (answered commands : ℕ) (now : Now) (later : List RawMessage) : Type 0 where
  pub here : IsOwnTurn course.trace handle now.turns now.turns
  pub reached : IsReached now.state
  pub closed : answered < commands → now.state.closed ≡ false
  pub failed : now.state.failed ≡ false
  pub front : IsFrontOf (received now.state.deliveries) (sync_of later)
  pub replies : course.replies ≡ groups later
  pub counted : delivered_before course.trace now.turns ≡ length (received now.state.deliveries)
  pub counts : Counts (map (λ a. a.question) now.asked) now.state

-- What a turn of a handle did: its commands' calls, what they left alone, and what is kept then.
pub record TurnSo {C T A E : Type 0} (speech : Speech C T A E) (course : Course DeskCall Reply) (script : List C) (handle : ℕ) (now : Now) (old new : HandleState T A E) (b : State) (ds : List Deed) (answered : ℕ) : Type 0 where
  pub legal : IsLegal now.state (events_of ds)
  pub state : b ≡ after_all now.state (events_of ds)
  pub same : SameEngine now.state (after_all now.state (events_of ds))
  pub place : ℕ
  pub grows : Grows (record { handle = handle; command = place }) now ds
  pub known : (ds ≡ []) ⊎ ((command : C) × (slice_get script place ≡ Some command))
  pub spares : (k : ℕ) → k < length now.state.book → ((p : Place T) → old.running ≡ Some p → p.reads ≢ k) → SparesAll k ds × HangsUpNone k ds
  pub past : List (Past A E)
  pub kept : HandleKept speech course script handle new past (behind_turn now ds)
  pub grew : length new.answers ≡ length old.answers + answered
  pub room : length old.answers + answered ≤ length script

same-number : (n : ℕ) → (n == n) ≡ true
same-number n = grind (arith, nat_tests)

other-number : (n m : ℕ) → n ≢ m → (n == m) ≡ false
other-number n m h = grind (arith, nat_tests)

-- another command of its handle
apart : (i j k : ℕ) → j ≢ k → ((i == i) && (k == j)) ≡ false
apart i j k h = ap (λ (b : Bool). b && (k == j)) (same-number i) ∙ other-number k j (λ e. h (sym e))

pub requests-other : (i j k : ℕ) (now : Now) (ds : List Deed) → j ≢ k → Grows (record { handle = i; command = k }) now ds → requests_of (book_of (behind_turn now ds)) i j ≡ requests_of (book_of now) i j
requests-other i j k now ds h g = g.others i j (apart i j k h)

pub questions-other : (i j k : ℕ) (now : Now) (ds : List Deed) → j ≢ k → Grows (record { handle = i; command = k }) now ds → questions_of (behind_turn now ds).asked i j ≡ questions_of now.asked i j
questions-other i j k now ds h g =
    others-questions tells (record { handle = i; command = j }) (record { handle = i; command = k }) now.turns (map (λ a. a.question) now.asked) now.asked (asked_in ds) (apart i j k h) g.told

-- ---- a command that is polled

-- where it stands when its turn begins
pub record Started {C T A E : Type 0} (speech : Speech C T A E) (course : Course DeskCall Reply) (script : List C) (handle : ℕ) (now : Now) (old : HandleState T A E) (past : List (Past A E)) (from : Place T) : Type 0 where
  pub command : C
  pub stands : slice_get script (length past) ≡ Some command
  pub trail : List Moment
  pub ready : IsReady course (record { handle = handle; command = length past }) (speech.says old.own command) trail now from
  pub next : IsNext course handle (speech.says old.own command) trail now.turns
  pub begins : IsFirstTurn course.trace handle (free_of past (length past)) (λ place. ⊤) (first_at now.turns trail)
  pub spares : (ds : List Deed) (q : Dialogue T) (end k : ℕ) → IsLegal now.state (events_of ds) → Leads from.dialogue from.reads ds q end → k < length now.state.book →
      ((p : Place T) → old.running ≡ Some p → p.reads ≢ k) → SparesAll k ds × HangsUpNone k ds

pub answered-many : {C T A E : Type 0} (speech : Speech C T A E) (course : Course DeskCall Reply) (script : List C) (handle : ℕ) (h : HandleState T A E) (past : List (Past A E)) (now : Now) → HandleKept speech course script handle h past now →
    length h.answers ≡ length past
answered-many {C} {T} {A} {E} speech course script handle h past now k = ap (λ (as_ : List A). length as_) k.answers ∙ length-map past (λ (x : Past A E). x.ending.answer)

start-begins : {C T A E : Type 0} (speech : Speech C T A E) (course : Course DeskCall Reply) (script : List C) (handle : ℕ) (now : Now) (later : List RawMessage) (old : HandleState T A E) (past : List (Past A E)) (from : Place T) → AreCommands speech → IsTurnAt course handle (length past) (length script) now later →
    HandleKept speech course script handle old past now → (b : BeginsNext speech script old from) → from.dialogue ≡ speech.says old.own b.next → Started speech course script handle now old past from
start-begins {C} {T} {A} {E} speech course script handle now later old past from commands at k b is =
    let rests : Rests course script handle past now = subst (λ (o : Option (Place T)). Does speech course script handle old.own past now o) b.none_runs k.does in
    let stands : slice_get script (length past) ≡ Some b.next = ap (slice_get script) (sym (answered-many speech course script handle old past now k)) ∙ b.stands in
    record {
      command = b.next;
      stands = stands;
      trail = [];
      ready = record {
        upright = upright-begins (speech.says old.own b.next) now.state from (commands old.own b.next) is at.reached;
        turns = tt;
        requests = holds-none (record { handle = handle; command = length past }) (book_of now) (speech.says old.own b.next) rests.requests;
        questions = rests.questions;
      };
      next = tt;
      begins = record {
        made = at.here.made;
        own = at.here.own;
        no_sooner = k.free;
        holds = tt;
        first = λ earlier ge lt own t. rests.no_turn b.next stands earlier ge lt own;
      };
      spares = λ ds q end n legal l lt apart. begin-spares (speech.says old.own b.next) now.state from ds q end n (commands old.own b.next) is legal l lt;
    }

start-runs : {C T A E : Type 0} (speech : Speech C T A E) (course : Course DeskCall Reply) (script : List C) (handle : ℕ) (now : Now) (old : HandleState T A E) (past : List (Past A E)) (from : Place T) →
    HandleKept speech course script handle old past now → old.running ≡ Some from → Started speech course script handle now old past from
start-runs {C} {T} {A} {E} speech course script handle now old past from k is =
    let runs : Runs speech course script handle old.own past now from = subst (λ (o : Option (Place T)). Does speech course script handle old.own past now o) is k.does in
    let w = runs.under_way in
    record {
      command = runs.command;
      stands = runs.stands;
      trail = w.last ∷ w.before;
      ready = w.ready;
      next = (w.latest, λ place gt lt own. w.none_since place (omega (arith, gt)) lt own, w.stands);
      begins = w.begins;
      spares = λ ds q end n legal l lt other.
          poll-spares course (record { handle = handle; command = length past }) (speech.says old.own runs.command) (free_of past (length past)) now from ds q end n w legal l lt (other from is);
    }

-- it is so, or memory lacked for its state
pub starts : {C T A E : Type 0} (speech : Speech C T A E) (course : Course DeskCall Reply) (script : List C) (handle : ℕ) (now : Now) (later : List RawMessage) (old : HandleState T A E) (past : List (Past A E)) (from : Place T) → AreCommands speech → IsTurnAt course handle (length past) (length script) now later →
    HandleKept speech course script handle old past now → (begins : Bool) → StartsAt speech script old begins from → Started speech course script handle now old past from ⊎ (from.dialogue ≡ Answer (Err OutOfMemory))
starts speech course script handle now later old past from commands at k false is = inl (start-runs speech course script handle now old past from k is)
starts {C} {T} {A} {E} speech course script handle now later old past from commands at k true b = by b.asks
  where
    by : AsksCommand (speech.says old.own b.next) from.dialogue → Started speech course script handle now old past from ⊎ (from.dialogue ≡ Answer (Err OutOfMemory))
    by (inl is) = inl (start-begins speech course script handle now later old past from commands at k b is)
    by (inr lacks) = inr lacks

-- what came by its turn
came-here : (course : Course DeskCall Reply) (handle answered commands : ℕ) (now : Now) (later : List RawMessage) (ds : List Deed) → IsTurnAt course handle answered commands now later → SameEngine now.state (after_all now.state (events_of ds)) →
    CameBy course now.turns (came_of (state_behind now.state ds))
came-here course handle answered commands now later ds at same =
    let part = stored-part now.state (events_of ds) in
    let as_ : (state_behind now.state ds).deliveries ≡ now.state.deliveries = ap (λ (s : State). s.deliveries) part.state ∙ same.deliveries in
    subst (λ (xs : List Delivery). CameBy course now.turns (λ k. joined (given k xs))) (sym as_)
    (came-by course now.turns now.state later (firm now.state at.reached [] tt) at.front at.replies at.counted)

still-open : (s t : State) → SameEngine s t → s.closed ≡ false → s.failed ≡ false → ended t ≡ false
still-open s t same c f = ap (λ (b : Bool). b || t.failed) (same.closed ∙ c) ∙ same.failed ∙ f

pub polled-so : {C T A E : Type 0} (speech : Speech C T A E) (course : Course DeskCall Reply) (script : List C) (handle : ℕ) (now : Now) (later : List RawMessage) (old : HandleState T A E) (past : List (Past A E)) (from : Place T) (stamp : Stamp) (ds : List Deed) (q : Place T) → IsTurnAt course handle (length past) (length script) now later →
    (st : Started speech course script handle now old past from) → stamp ≡ stamp_of (record { handle = handle; command = length past }) now.turns → AllUnder stamp ds →
    Leads from.dialogue from.reads ds q.dialogue q.reads → IsLegal now.state (events_of ds) → PollEnds ds q →
    IsPolled course (record { handle = handle; command = length past }) (speech.says old.own st.command) st.trail (free_of past (length past)) now from stamp ds q
polled-so speech course script handle now later old past from stamp ds q at st stamped under l legal ends =
    let same = own-keep now.state from.dialogue from.reads ds q.dialogue q.reads l in
    record {
      ready = st.ready;
      next = st.next;
      here = at.here;
      begins = st.begins;
      leads = l;
      legal = legal;
      open_ = still-open now.state (after_all now.state (events_of ds)) same (at.closed (get-within script (length past) st.command st.stands)) at.failed;
      ends = ends;
      stamped = stamped;
      under = under;
      counts = at.counts;
      came = came-here course handle (length past) (length script) now later ds at same;
    }

-- ---- what is kept then

-- the commands that answered before keep what they did
pub done-before : {C T A E : Type 0} (speech : Speech C T A E) (course : Course DeskCall Reply) (script : List C) (handle : ℕ) (h : HandleState T A E) (past more : List (Past A E)) (now : Now) (ds : List Deed) (j : ℕ) (x : Past A E) → HandleKept speech course script handle h past now →
    Grows (record { handle = handle; command = length past }) now ds → j < length past → slice_get past j ≡ Some x →
    slice_get (states_of speech.begins more) j ≡ slice_get (states_of speech.begins past) j → free_of more j ≡ free_of past j → HasDone speech course script handle more (behind_turn now ds) j x
done-before speech course script handle h past more now ds j x k g lt at states free =
    let other : j ≢ length past = λ e. omega (arith, lt, e) in
    done-on speech course script handle past more now (behind_turn now ds) j x (requests-other handle j (length past) now ds other g) (questions-other handle j (length past) now ds other g) states free (k.done j x at)

pub none-behind : {C T A E : Type 0} (speech : Speech C T A E) (course : Course DeskCall Reply) (script : List C) (handle : ℕ) (h : HandleState T A E) (past : List (Past A E)) (now : Now) (ds : List Deed) (j : ℕ) → HandleKept speech course script handle h past now →
    Grows (record { handle = handle; command = length past }) now ds → length past < j → (requests_of (book_of (behind_turn now ds)) handle j ≡ []) × (questions_of (behind_turn now ds).asked handle j ≡ [])
none-behind speech course script handle h past now ds j k g lt =
    let other : j ≢ length past = λ e. omega (arith, lt, e) in
    let none = k.none_later j lt in
    (requests-other handle j (length past) now ds other g ∙ none.0, questions-other handle j (length past) now ds other g ∙ none.1)
