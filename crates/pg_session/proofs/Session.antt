-- What holds of a session is kept by each of its turns.
use Rattle.std.proofs.Common.{◌≡◌, ℕ, zero, suc, ◌+◌, ◌-◌, ◌^◌, ◌<◌, ◌≤◌, List, [], ◌∷◌, ◌++◌, length, set, Bool, true, false, Option, Some, Ok, refl, sym, ap, subst, ◌∙◌, arith, slice_get, unwrap_or, option_map}
use Rattle.std.proofs.lemmas.List.{length-append, length-set}
use Rattle.pg_spec.specs.RawMessages.{RawMessage, sync_of}
use Rattle.pg_spec.specs.Turns.{delivered_before, turn_of}
use Rattle.pg_spec.specs.declared.stamps.Stamp.{Stamp}
use Rattle.pg_spec.specs.declared.stamps.TurnMark.{TurnMark}
use Rattle.pg_connect.specs.Passes.{risen}
use Rattle.pg_connect.specs.declared.streams.Streams.{Streams}
use Rattle.pg_desk.specs.declared.event.Event.TheVariants.{CloseRequests}
use Rattle.pg_desk.specs.History.{Delivery, IsFrontOf, State, after_all, received}
use Rattle.pg_hub.specs.Becomes.{fits-touched}
use Rattle.pg_hub.specs.Fits.{Fits, HubBecomes}
use Rattle.pg_hub.specs.Standing.{Standing}
use Rattle.pg_query.specs.Lives.{Deed}
use Rattle.pg_query.specs.declared.desk_call.DeskCall.{DeskCall}
use Rattle.pg_query.specs.declared.desk_call.Reply.{Reply}
use Rattle.pg_spec.specs.Courses.{Asked, Course}
use Rattle.pg_core.specs.Deeds.{asked_in}
use Rattle.pg_core.specs.Lists.{events_of}
use Rattle.pg_session.proofs.Came.{counted-last}
use Rattle.pg_session.specs.Turns.{Closes, ClosesBehind, left_behind, untouched}
use Rattle.pg_session.specs.declared.handle_turn.Polling.{Polling}
use Rattle.pg_session.specs.declared.handle_turn.Polling.TheVariants as polling
use Rattle.pg_session.proofs.Lists.{get-last, one-more}
use Rattle.pg_session.proofs.Order.Traces.{in_front}
use Rattle.pg_session.specs.Speeches.{AreCommands, Speech}
use Rattle.pg_session.specs.Handles.{HandleState}
use Rattle.pg_session.specs.States.{SessionState}
use Rattle.pg_session.specs.Turns.{HandleMade, HandleTurns}
use Rattle.pg_session.specs.Calls.{deeds_in_handle}
use Rattle.pg_session.specs.Kept.{AllKept, HandleKept, Now, Past}
use Rattle.pg_session.specs.SessionKept.{IsWithin, SessionKept, left}
use Rattle.pg_session.proofs.AllKept.{nobodys-keep, turn-keeps}
use Rattle.pg_session.proofs.HandleCases.{answers-turn, idle-turn, waits-turn}
use Rattle.pg_session.proofs.HandleTurn.{IsTurnAt, TurnSo, answered-many}
use Rattle.pg_session.proofs.Hubs.{answers-state, becomes, closing-nobodys, nobodys, none-given, waits-state}
use Rattle.pg_session.proofs.Left.{left-at, left-set}
use Rattle.pg_session.proofs.OwnTurn.{behind_turn}
use Rattle.pg_session.proofs.Rows.{get-within}

-- ---- the course of the whole session

-- the mark of the next turn
mark-at : (trace : List TurnMark) (m : TurnMark) (whole : List TurnMark) → IsFrontOf (trace ++ m ∷ []) whole → slice_get whole (length trace) ≡ Some m
mark-at trace m whole (rest, e) =
    ap (λ (l : List TurnMark). slice_get l (length trace)) (sym e)
    ∙ in_front (trace ++ m ∷ []) rest (length trace) (let s = one-more trace m in omega (arith, s)) ∙ get-last trace m

pub turn-at : (trace : List TurnMark) (m : TurnMark) (whole : List TurnMark) → IsFrontOf (trace ++ m ∷ []) whole → turn_of whole (length trace) ≡ m.turn
turn-at trace m whole h = ap (λ (o : Option TurnMark). unwrap_or (option_map (λ mark. mark.turn) o) 0) (mark-at trace m whole h)

-- what was delivered when it begins
before-front : (trace rest : List TurnMark) (n : ℕ) → n ≤ length trace → delivered_before (trace ++ rest) n ≡ delivered_before trace n
before-front trace rest zero le = refl
before-front trace rest (suc n) le = ap (λ (o : Option TurnMark). unwrap_or (option_map (λ mark. mark.delivered) o) 0) (in_front trace rest n (omega (arith, le)))

before-at : (trace : List TurnMark) (m : TurnMark) (whole : List TurnMark) → IsFrontOf (trace ++ m ∷ []) whole → delivered_before whole (length trace) ≡ delivered_before trace (length trace)
before-at trace m whole (rest, e) =
    ap (λ (l : List TurnMark). delivered_before l (length trace)) (sym e)
    ∙ before-front (trace ++ m ∷ []) rest (length trace) (let s = one-more trace m in omega (arith, s)) ∙ before-front trace (m ∷ []) (length trace) (omega arith)

pub risen-small : (n : ℕ) → n < 2 ^ 64 → risen 0 n ≡ n
risen-small n h = omega arith

pub front-short : {A : Type 0} (xs ys : List A) → IsFrontOf xs ys → length xs ≤ length ys
front-short xs ys (more, e) = omega (arith, length-append xs more, ap length e)

false-unless : (b : Bool) → (b ≡ true → ⊥) → b ≡ false
false-unless true h = absurd (h refl)
false-unless false h = refl

-- ---- a turn of a handle

-- how many commands answer in a turn
abbrev pub answered_in : Polling → ℕ
answered_in polling.Answered = 1
answered_in other = 0

-- its poll, over states
record HandleTurned {C T A E : Type 0} (speech : Speech C T A E) (course : Course DeskCall Reply) (script : List C) (i : ℕ) (now : Now) (old new : HandleState T A E) (hub : Standing) (ds : List Deed) (answered : ℕ) : Type 0 where
  so : TurnSo speech course script i now old new (after_all now.state (events_of ds)) ds answered
  fits : Fits (after_all now.state (events_of ds)) hub

turned-so : {C T A E : Type 0} (speech : Speech C T A E) (course : Course DeskCall Reply) (script : List C) (i : ℕ) (now : Now) (old new : HandleState T A E) (hub : Standing) (ds : List Deed) (answered : ℕ) (b : State) →
    TurnSo speech course script i now old new b ds answered → Fits b hub → HandleTurned speech course script i now old new hub ds answered
turned-so speech course script i now old new hub ds answered b t f = record {
  so = subst (λ (x : State). TurnSo speech course script i now old new x ds answered) t.state t;
  fits = subst (λ (x : State). Fits x hub) t.state f;
}

turned : {C T A E : Type 0} (speech : Speech C T A E) (course : Course DeskCall Reply) (script : List C) (i : ℕ) (now : Now) (later : List RawMessage) (a hub : Standing) (old new : HandleState T A E) (past : List (Past A E)) (stamp : Stamp) (did : Polling) → AreCommands speech →
    IsTurnAt course i (length past) (length script) now later → HandleKept speech course script i old past now → stamp ≡ record { owner = i; command = length old.answers; turn = now.turns } → Fits now.state a →
    (turns : HandleTurns HubBecomes speech script stamp a old hub new did) → HandleTurned speech course script i now old new hub (deeds_in_handle speech script stamp a hub old new did turns) (answered_in did)
turned {C} {T} {A} {E} speech course script i now later a hub old new past stamp polling.Idle commands at k stamped f turns =
    turned-so speech course script i now old new hub [] 0 now.state
    (idle-turn speech course script i now later old past commands at k now.state new (record { none_runs = turns.none_runs; none_left = turns.none_left; handle = turns.handle; desk = refl }))
    (subst (λ (x : Standing). Fits now.state x) (sym turns.desk) f)
turned speech course script i now later a hub old new past stamp polling.Began commands at k stamped f turns =
    turned-so speech course script i now old new hub _ 0 (after_all now.state turns.pauses.goes.events)
    (waits-turn speech course script i now later old past commands at k stamp (after_all now.state turns.pauses.goes.events) new true stamped (waits-state speech script stamp now.state a old hub new true f turns))
    (becomes now.state a hub turns.pauses.goes.events f turns.pauses.goes.became).fits
turned speech course script i now later a hub old new past stamp polling.Waits commands at k stamped f turns =
    turned-so speech course script i now old new hub _ 0 (after_all now.state turns.pauses.goes.events)
    (waits-turn speech course script i now later old past commands at k stamp (after_all now.state turns.pauses.goes.events) new false stamped (waits-state speech script stamp now.state a old hub new false f turns))
    (becomes now.state a hub turns.pauses.goes.events f turns.pauses.goes.became).fits
turned speech course script i now later a hub old new past stamp polling.Answered commands at k stamped f turns =
    turned-so speech course script i now old new hub _ 1 (after_all now.state turns.goes.goes.events)
    (answers-turn speech course script i now later old past commands at k stamp (after_all now.state turns.goes.goes.events) new stamped (answers-state speech script stamp now.state a old hub new f turns))
    (becomes now.state a hub turns.goes.goes.events f turns.goes.goes.became).fits

-- what is done behind it
record Closed {C T A E : Type 0} (speech : Speech C T A E) (scripts : List (List C)) (course : Course DeskCall Reply) (turns : ℕ) (asked : List (Asked DeskCall Reply)) (handles : List (HandleState T A E)) (s : State) (hub now : Standing) (left' : ℕ) : Type 0 where
  state : State
  fits : Fits state now
  deliveries : state.deliveries ≡ s.deliveries
  failed : now.failed ≡ hub.failed
  closed : now.closed ≡ true → left' ≡ 0
  stays : hub.closed ≡ true → now.closed ≡ true
  all : AllKept speech scripts course (record { turns = turns; asked = asked; state = state }) handles

closed-same : {C T A E : Type 0} (speech : Speech C T A E) (scripts : List (List C)) (course : Course DeskCall Reply) (turns : ℕ) (asked : List (Asked DeskCall Reply)) (handles : List (HandleState T A E)) (s : State) (hub now : Standing) (left' : ℕ) →
    Fits s hub → (hub.closed ≡ true → left' ≡ 0) → now ≡ hub → AllKept speech scripts course (record { turns = turns; asked = asked; state = s }) handles → Closed speech scripts course turns asked handles s hub now left'
closed-same speech scripts course turns asked handles s hub now left' f closed same k =
    subst (λ (x : Standing). Closed speech scripts course turns asked handles s hub x left') (sym same)
    (record { state = s; fits = f; deliveries = refl; failed = refl; closed = closed; stays = λ e. e; all = k })

closes-so : {C T A E : Type 0} (speech : Speech C T A E) (scripts : List (List C)) (course : Course DeskCall Reply) (turns : ℕ) (asked : List (Asked DeskCall Reply)) (handles : List (HandleState T A E)) (s : State) (hub now : Standing) (n old : ℕ) → n ≡ old - 1 →
    Fits s hub → (hub.closed ≡ true → old ≡ 0) → Closes n hub now → AllKept speech scripts course (record { turns = turns; asked = asked; state = s }) handles → Closed speech scripts course turns asked handles s hub now (old - 1)
closes-so speech scripts course turns asked handles s hub now zero old same f closed h k =
    let b = becomes s hub now (CloseRequests (Ok tt) ∷ []) f h in
    record {
      state = after_all s (CloseRequests (Ok tt) ∷ []);
      fits = b.fits;
      deliveries = refl;
      failed = b.fits.failed ∙ sym f.failed;
      closed = λ e. sym same;
      stays = λ e. b.fits.closed;
      all = nobodys-keep speech scripts course (record { turns = turns; asked = asked; state = s }) handles (nobodys (CloseRequests (Ok tt) ∷ [])) turns
          (closing-nobodys course (length scripts) (record { turns = turns; asked = asked; state = s })) k;
    }
closes-so speech scripts course turns asked handles s hub now (suc n) old same f closed h k =
    closed-same speech scripts course turns asked handles s hub now (old - 1) f (λ e. let z = closed e in omega (arith, z)) h k

closed-by : {C T A E : Type 0} (speech : Speech C T A E) (scripts : List (List C)) (course : Course DeskCall Reply) (turns : ℕ) (asked : List (Asked DeskCall Reply)) (handles : List (HandleState T A E)) (s : State) (did : Polling) (hub now : Standing) (old : ℕ) →
    Fits s hub → (hub.closed ≡ true → old ≡ 0) → ClosesBehind did old hub now → AllKept speech scripts course (record { turns = turns; asked = asked; state = s }) handles → Closed speech scripts course turns asked handles s hub now (left_behind did old)
closed-by speech scripts course turns asked handles s polling.Idle hub now old f closed h k = closed-same speech scripts course turns asked handles s hub now old f closed h k
closed-by speech scripts course turns asked handles s polling.Began hub now old f closed h k = closed-same speech scripts course turns asked handles s hub now old f closed h k
closed-by speech scripts course turns asked handles s polling.Waits hub now old f closed h k =
    subst (λ (x : Standing). Closed speech scripts course turns asked handles s hub x old) (sym h)
    (record { state = s; fits = fits-touched s hub false f; deliveries = refl; failed = refl; closed = closed; stays = λ e. e; all = k })
closed-by speech scripts course turns asked handles s polling.Answered hub now old f closed h k = closes-so speech scripts course turns asked handles s hub now (old - 1) old refl f closed h k

-- how many are left
left-then : (did : Polling) (old script new answers : ℕ) (left' : ℕ) → new ≡ answers + answered_in did → answers + answered_in did ≤ script →
    left' + (script - answers) ≡ old + (script - new) → left_behind did old ≡ left'
left-then polling.Idle old script new answers left' e f g = omega (arith, e, f, g)
left-then polling.Began old script new answers left' e f g = omega (arith, e, f, g)
left-then polling.Waits old script new answers left' e f g = omega (arith, e, f, g)
left-then polling.Answered old script new answers left' e f g = omega (arith, e, f, g)

pub past-there : {C P : Type 0} (scripts : List (List C)) (pasts : List P) (i : ℕ) (script : List C) → length pasts ≡ length scripts → slice_get scripts i ≡ Some script → (past : P) × (slice_get pasts i ≡ Some past)
past-there [] pasts i script many e = absurd cc
past-there (s ∷ scripts) [] i script many e = absurd (omega (arith, many))
past-there (s ∷ scripts) (p ∷ pasts) zero script many e = (p, refl)
past-there (s ∷ scripts) (p ∷ pasts) (suc i) script many e = past-there scripts pasts i script (omega (arith, many)) e

-- what a handle did in its turn, the mark of the turn, and what stands before it
abbrev pub deeds_made : {C T A E : Type 0} → (speech : Speech C T A E) (scripts : List (List C)) (i : ℕ) (s t : SessionState T A E) (did : Polling) → HandleMade speech scripts i s t did → List Deed
deeds_made speech scripts i s t did made =
    deeds_in_handle speech made.script (record { owner = i; command = length made.old.answers; turn = length s.trace }) (untouched s.hub) made.hub made.old made.new did made.turns

abbrev pub mark_of : {T A E : Type 0} → ℕ → SessionState T A E → TurnMark
mark_of i s = record { turn = i; delivered = s.streams.delivered }

abbrev pub now_of : {T A E : Type 0} → List (Asked DeskCall Reply) → State → SessionState T A E → Now
now_of asked state s = record { turns = length s.trace; asked = asked; state = state }

pub handle-keeps : {C T A E : Type 0} (speech : Speech C T A E) (scripts : List (List C)) (course : Course DeskCall Reply) (later : List RawMessage) (asked : List (Asked DeskCall Reply)) (came : List RawMessage) (i : ℕ) (s t : SessionState T A E) (did : Polling) → AreCommands speech →
    (made : HandleMade speech scripts i s t did) → IsWithin course later t.trace came → SessionKept speech scripts course asked came s →
    SessionKept speech scripts course (asked ++ asked_in (deeds_made speech scripts i s t did made)) came t
handle-keeps {C} {T} {A} {E} speech scripts course later asked came i s t did commands made within k = record {
  state = behind.state;
  fits = behind.fits;
  received = ap (λ (ds : List Delivery). received ds) (behind.deliveries ∙ poll.so.same.deliveries) ∙ k.received;
  closed = λ e. made.unanswered ∙ behind.closed e;
  failed = behind.failed ∙ sym-failed ∙ k.failed;
  closing = λ e. behind.stays (sym-closed ∙ k.closing (sym (ap (λ (x : Streams). x.closing) made.streams) ∙ e));
  unanswered = made.unanswered
      ∙ left-then did s.unanswered (length made.script) (length made.new.answers) (length made.old.answers) (left scripts (set s.handles i made.new)) poll.so.grew poll.so.room
      (let moved = left-set scripts s.handles i made.script made.old made.new made.script_at made.old_at in let u = k.unanswered in omega (arith, moved, u))
      ∙ ap (left scripts) (sym made.handles);
  many = ap (λ (hs : List (HandleState T A E)). length hs) made.handles ∙ length-set s.handles i made.new ∙ k.many;
  marked = ap (λ (tr : List TurnMark). delivered_before tr (length tr)) made.trace ∙ counted-last s.trace (mark_of i s) ∙ sym (ap (λ (x : Streams). x.delivered) made.streams);
  counted = ap (λ (x : Streams). x.delivered) made.streams ∙ k.counted;
  all = subst (λ (n : ℕ). AllKept speech scripts course (record { turns = n; asked = asked ++ asked_in (deeds_made speech scripts i s t did made); state = behind.state }) t.handles) (sym (ap (λ (tr : List TurnMark). length tr) made.trace ∙ one-more s.trace (mark_of i s)))
      (subst (λ (hs : List (HandleState T A E)). AllKept speech scripts course (record { turns = suc (length s.trace); asked = asked ++ asked_in (deeds_made speech scripts i s t did made); state = behind.state }) hs) (sym made.handles) behind.all);
}
  where
    past : (p : List (Past A E)) × (slice_get k.all.pasts i ≡ Some p)
    past = past-there scripts k.all.pasts i made.script k.all.as_many made.script_at

    mine : HandleKept speech course made.script i made.old past.0 (now_of asked k.state s)
    mine = k.all.each i made.script made.old past.0 made.script_at made.old_at past.1

    here : IsFrontOf (s.trace ++ mark_of i s ∷ []) course.trace
    here = subst (λ (tr : List TurnMark). IsFrontOf tr course.trace) made.trace within.turns

    short : length came < 2 ^ 64
    short = within.small

    open_ : length past.0 < length made.script → s.hub.closed ≡ false
    open_ lt = false-unless s.hub.closed (λ e.
        let none = k.closed e in
        let some = left-at scripts s.handles i made.script made.old made.script_at made.old_at in
        let many = answered-many speech course made.script i made.old past.0 (now_of asked k.state s) mine in
        let u = k.unanswered in
        omega (arith, none, lt, some, many, u))

    at : IsTurnAt course i (length past.0) (length made.script) (now_of asked k.state s) later
    at = record {
      here = record { made = get-within course.trace (length s.trace) (mark_of i s) (mark-at s.trace (mark_of i s) course.trace here); own = turn-at s.trace (mark_of i s) course.trace here; no_sooner = omega arith };
      reached = k.all.reached;
      closed = λ lt. sym k.fits.closed ∙ open_ lt;
      failed = sym k.fits.failed ∙ k.failed;
      front = subst (λ (ms : List RawMessage). IsFrontOf ms (sync_of later)) (sym k.received) within.front;
      replies = within.replies;
      counted = before-at s.trace (mark_of i s) course.trace here ∙ k.marked ∙ k.counted ∙ risen-small (length came) short ∙ ap (λ (ms : List RawMessage). length ms) (sym k.received);
      counts = k.all.counts;
    }

    poll : HandleTurned speech course made.script i (now_of asked k.state s) made.old made.new made.hub (deeds_made speech scripts i s t did made) (answered_in did)
    poll = turned speech course made.script i (now_of asked k.state s) later (untouched s.hub) made.hub made.old made.new past.0 (record { owner = i; command = length made.old.answers; turn = length s.trace }) did commands at mine refl
        (fits-touched k.state s.hub false k.fits) made.turns

    sym-failed : made.hub.failed ≡ s.hub.failed
    sym-failed = poll.fits.failed ∙ poll.so.same.failed ∙ sym k.fits.failed

    sym-closed : made.hub.closed ≡ s.hub.closed
    sym-closed = poll.fits.closed ∙ poll.so.same.closed ∙ sym k.fits.closed

    kept : AllKept speech scripts course (behind_turn (now_of asked k.state s) (deeds_made speech scripts i s t did made)) (set s.handles i made.new)
    kept = turn-keeps speech scripts course i made.script (now_of asked k.state s) later s.handles made.old made.new _ _ (answered_in did) made.script_at made.old_at (length past.0) (length made.script) at k.all
        (none-given k.state s.hub k.fits) past.0 past.1 poll.so

    behind : Closed speech scripts course (suc (length s.trace)) (asked ++ asked_in (deeds_made speech scripts i s t did made)) (set s.handles i made.new)
        (after_all k.state (events_of (deeds_made speech scripts i s t did made))) made.hub t.hub (left_behind did s.unanswered)
    behind = closed-by speech scripts course (suc (length s.trace)) _ (set s.handles i made.new) _ did made.hub t.hub s.unanswered poll.fits (λ e. k.closed (sym sym-closed ∙ e)) made.closes kept
