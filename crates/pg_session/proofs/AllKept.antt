-- What holds of all handles is kept by each turn.
use Rattle.std.proofs.Common.{◌≡◌, ◌≢◌, ◌⊎◌, inl, inr, ℕ, suc, ◌<◌, ◌≤◌, ◌==◌, ◌&&◌, List, [], ◌∷◌, ◌++◌, length, map, set, Bool, true, false, Option, Some, refl, sym, ap, subst, ◌∙◌, arith, slice_get, take, sum_by}
use Rattle.std.specs.Prelude.{IsSome, is_some}
use Rattle.std.specs.Option.{option_and_then}
use Rattle.std.proofs.lemmas.Bool.{cases_eq, cases_lt}
use Rattle.std.proofs.lemmas.Bool.Decides.{nat_tests}
use Rattle.std.proofs.lemmas.List.{length-append, length-map, length-set, map-append}
use Rattle.std.proofs.lemmas.Option.{same_Some}
use Rattle.pg_spec.specs.Book as said
use Rattle.pg_spec.specs.RawMessages.{RawMessage}
use Rattle.pg_spec.specs.Turns.{delivered_before, entry_at, turn_of}
use Rattle.pg_desk.specs.History.{IsLegal, State, after_all, given}
use Rattle.pg_query.specs.Lives.{Deed}
use Rattle.pg_query.specs.Meaning.{Place}
use Rattle.pg_query.specs.declared.desk_call.DeskCall.{DeskCall}
use Rattle.pg_query.specs.declared.desk_call.Reply.{Reply}
use Rattle.pg_spec.specs.Courses.{Asked, Course, requests_of}
use Rattle.pg_spec.specs.Meanings.{booked_in}
use Rattle.pg_core.specs.Counters.{Counts, tells}
use Rattle.pg_core.specs.Deeds.{added_in, asked_in, requests_in}
use Rattle.pg_core.specs.Lists.{SparesAll, events_of}
use Rattle.pg_core.specs.Times.{HangsUpNone}
use Rattle.pg_core.specs.Trails.{said_booking}
use Rattle.pg_core.proofs.Counted.{counts-same}
use Rattle.pg_core.proofs.Counts.{came-by}
use Rattle.pg_core.proofs.Extended.{all-length}
use Rattle.pg_core.proofs.Owned.{others-questions}
use Rattle.pg_core.proofs.Steps.{firm, reached-on}
use Rattle.pg_session.proofs.Lists.{set-here, set-there}
use Rattle.pg_session.specs.Speeches.{Speech}
use Rattle.pg_session.specs.Handles.{HandleState}
use Rattle.pg_session.specs.Kept.{AllKept, AreKnown, Does, HandleKept, NoneFrom, Now, Past, Runs, book_of, free_of}
use Rattle.pg_session.proofs.Alone.{is-booked}
use Rattle.pg_session.proofs.AskedFirst.{asked-first}
use Rattle.pg_session.proofs.HandleTurn.{IsTurnAt, TurnSo}
use Rattle.pg_session.proofs.Known.{AreNew, booked-before, booked-now, booked-parts, known-grows, known-later, known-parts, new-bookings, new-questions, told-more}
use Rattle.pg_session.proofs.Numbers.{IsBookedBy, one-owner, reads-booked}
use Rattle.pg_session.proofs.Others.{LeavesAlone, others-keep}
use Rattle.pg_session.proofs.OwnTurn.{behind_turn}
use Rattle.pg_session.proofs.Rows.{get-within}

-- a command of a script is one of what was asked
pub entry-there : {C : Type 0} (scripts : List (List C)) (i place : ℕ) (script : List C) (c : C) → slice_get scripts i ≡ Some script → slice_get script place ≡ Some c → entry_at scripts i place ≡ Some c
entry-there {C} scripts i place script c e f = ap (λ (o : Option (List C)). option_and_then (λ row. slice_get row place) o) e ∙ f

-- ---- a turn of a handle

other-handle : (i j : ℕ) (b : Bool) → i ≢ j → ((i == j) && b) ≡ false
other-handle i j b h = by (i == j) (let e : (i == j) ≡ false = grind (arith, nat_tests, h) in e)
  where
    by : (t : Bool) → t ≡ false → (t && b) ≡ false
    by true e = absurd cc
    by false e = refl

-- a command of one handle doesn't read the request of one of another
reads-apart : {C T A E : Type 0} (speech : Speech C T A E) (course : Course DeskCall Reply) (script other : List C) (i j : ℕ) (g h : HandleState T A E) (past more : List (Past A E)) (now : Now) (p q : Place T) → i ≢ j →
    HandleKept speech course script i g past now → g.running ≡ Some p → HandleKept speech course other j h more now → h.running ≡ Some q → p.reads ≢ q.reads
reads-apart {C} {T} {A} {E} speech course script other i j g h past more now p q apart k runs l runs' same =
    let x : Runs speech course script i g.own past now p = subst (λ (o : Option (Place T)). Does speech course script i g.own past now o) runs k.does in
    let y : Runs speech course other j h.own more now q = subst (λ (o : Option (Place T)). Does speech course other j h.own more now o) runs' l.does in
    let a = reads-booked course (record { handle = i; command = length past }) (speech.says g.own x.command) (x.under_way.last ∷ x.under_way.before) now p x.under_way.ready x.under_way.stands in
    let b = reads-booked course (record { handle = j; command = length more }) (speech.says h.own y.command) (y.under_way.last ∷ y.under_way.before) now q y.under_way.ready y.under_way.stands in
    apart (one-owner i (length past) j (length more) q.reads (book_of now) (subst (λ (n : ℕ). IsBookedBy i (length past) 0 (book_of now) n) same a) b)

reads-there : {C T A E : Type 0} (speech : Speech C T A E) (course : Course DeskCall Reply) (script : List C) (i : ℕ) (g : HandleState T A E) (past : List (Past A E)) (now : Now) (p : Place T) →
    HandleKept speech course script i g past now → g.running ≡ Some p → p.reads < length now.state.book
reads-there {C} {T} {A} {E} speech course script i g past now p k runs =
    let x : Runs speech course script i g.own past now p = subst (λ (o : Option (Place T)). Does speech course script i g.own past now o) runs k.does in
    is-booked course (record { handle = i; command = length past }) (speech.says g.own x.command) (free_of past (length past)) now p x.under_way

module _ {C T A E : Type 0} (speech : Speech C T A E) (scripts : List (List C)) (course : Course DeskCall Reply) (i : ℕ) (script : List C) (now : Now) (later : List RawMessage) (handles : List (HandleState T A E)) (old new : HandleState T A E) (b : State)
    (ds : List Deed) (answered : ℕ) (script_at : slice_get scripts i ≡ Some script) (old_at : slice_get handles i ≡ Some old) (done commands : ℕ) (at : IsTurnAt course i done commands now later) (k : AllKept speech scripts course now handles) where
  -- another handle
  left-alone : (j : ℕ) → j ≢ i → (t : TurnSo speech course script i now old new b ds answered) → LeavesAlone course j now ds (behind_turn now ds)
  left-alone j other t = record {
    turns = omega arith;
    none = λ place ge lt own. other (sym own ∙ ap (turn_of course.trace) (let e : place ≡ now.turns = omega (arith, ge, lt) in e) ∙ at.here.own);
    legal = t.legal;
    state = refl;
    longer = (let e = ap (λ (bs : List said.Booking). length bs) t.grows.book in
        let f = all-length (added_in ds) (book_of now ++ map (λ r. r.booking) (requests_in ds)) in
        let g = length-append (book_of now) (map (λ r. r.booking) (requests_in ds)) in omega (arith, e, f, g));
    requests = λ p. t.grows.others j p (other-handle i j (t.place == p) (λ e. other (sym e)));
    questions = λ p.
        others-questions tells (record { handle = j; command = p }) (record { handle = i; command = t.place }) now.turns (map (λ a. a.question) now.asked) now.asked (asked_in ds) (other-handle i j (t.place == p) (λ e. other (sym e))) t.grows.told;
  }

  each-kept : (old-past : List (Past A E)) → slice_get k.pasts i ≡ Some old-past → (t : TurnSo speech course script i now old new b ds answered) → (j : ℕ) (other : List C) (h : HandleState T A E) (past : List (Past A E)) → slice_get scripts j ≡ Some other →
      slice_get (set handles i new) j ≡ Some h → slice_get (set k.pasts i t.past) j ≡ Some past → (j ≡ i) ⊎ (j ≡ i → ⊥) → HandleKept speech course other j h past (behind_turn now ds)
  each-kept old-past past_at t j other h past e f g (inl same) =
      let script_same : script ≡ other = same_Some script other (sym script_at ∙ ap (slice_get scripts) (sym same) ∙ e) in
      let new_same : h ≡ new = set-here handles i old new h old_at (ap (slice_get (set handles i new)) (sym same) ∙ f) in
      let past_same : past ≡ t.past = set-here k.pasts i old-past t.past past past_at (ap (slice_get (set k.pasts i t.past)) (sym same) ∙ g) in
      subst (λ (n : ℕ). HandleKept speech course other n h past (behind_turn now ds)) (sym same)
      (subst (λ (x : HandleState T A E). HandleKept speech course other i x past (behind_turn now ds)) (sym new_same)
      (subst (λ (x : List (Past A E)). HandleKept speech course other i new x (behind_turn now ds)) (sym past_same)
      (subst (λ (x : List C). HandleKept speech course x i new t.past (behind_turn now ds)) script_same t.kept)))
  each-kept old-past past_at t j other h past e f g (inr apart) =
      let was : HandleKept speech course other j h past now = k.each j other h past e (sym (set-there handles i j new apart) ∙ f) (sym (set-there k.pasts i j t.past apart) ∙ g) in
      let mine : HandleKept speech course script i old old-past now = k.each i script old old-past script_at old_at past_at in
      others-keep speech course other j h past now (behind_turn now ds) ds (left-alone j apart t)
      (λ p runs. t.spares p.reads (reads-there speech course other j h past now p was runs)
      (λ q runs'. reads-apart speech course script other i j old h old-past past now q p (λ same. apart (sym same)) mine runs' was runs)) was

  known-there : (t : TurnSo speech course script i now old new b ds answered) → (ds ≡ []) ⊎ IsSome (entry_at scripts i t.place)
  known-there t = by t.known
    where
      by : (ds ≡ []) ⊎ ((command : C) × (slice_get script t.place ≡ Some command)) → (ds ≡ []) ⊎ IsSome (entry_at scripts i t.place)
      by (inl none) = inl none
      by (inr (c, stands)) = inr (ap (λ (o : Option C). is_some o) (entry-there scripts i t.place script c script_at stands))

  new-book : (t : TurnSo speech course script i now old new b ds answered) → AreNew scripts (λ (b : said.Booking). b.stamp.owner) (λ b. b.stamp.command) (λ b. b.stamp.turn) now.turns (map (λ r. r.booking) (requests_in ds))
  new-book t = by (known-there t)
    where
      by : (ds ≡ []) ⊎ IsSome (entry_at scripts i t.place) → AreNew scripts (λ (b : said.Booking). b.stamp.owner) (λ b. b.stamp.command) (λ b. b.stamp.turn) now.turns (map (λ r. r.booking) (requests_in ds))
      by (inl none) = subst (λ (xs : List Deed). AreNew scripts (λ (b : said.Booking). b.stamp.owner) (λ b. b.stamp.command) (λ b. b.stamp.turn) now.turns (map (λ r. r.booking) (requests_in xs))) (sym none) tt
      by (inr some) = new-bookings scripts (record { handle = i; command = t.place }) now.turns (length (book_of now)) (requests_in ds) some t.grows.numbered

  new-asked : (t : TurnSo speech course script i now old new b ds answered) → AreNew scripts (λ (a : Asked DeskCall Reply). a.stamp.owner) (λ a. a.stamp.command) (λ a. a.stamp.turn) now.turns (asked_in ds)
  new-asked t = by (known-there t)
    where
      by : (ds ≡ []) ⊎ IsSome (entry_at scripts i t.place) → AreNew scripts (λ (a : Asked DeskCall Reply). a.stamp.owner) (λ a. a.stamp.command) (λ a. a.stamp.turn) now.turns (asked_in ds)
      by (inl none) = subst (λ (xs : List Deed). AreNew scripts (λ (a : Asked DeskCall Reply). a.stamp.owner) (λ a. a.stamp.command) (λ a. a.stamp.turn) now.turns (asked_in xs)) (sym none) tt
      by (inr some) = new-questions scripts tells (record { handle = i; command = t.place }) now.turns (map (λ a. a.question) now.asked) (asked_in ds) some t.grows.told

  first-asked : ((n : ℕ) → length now.state.book ≤ n → given n now.state.deliveries ≡ []) → (t : TurnSo speech course script i now old new b ds answered) → (n : ℕ) → n < length (book_of (behind_turn now ds)) →
      delivered_before course.trace (booked_in (book_of (behind_turn now ds)) n) ≤ sum_by length (take n course.replies)
  first-asked ahead t n lt =
      subst (λ (bs : List said.Booking). delivered_before course.trace (booked_in bs n) ≤ sum_by length (take n course.replies)) (sym t.grows.book)
      (subst (λ (turn : ℕ). delivered_before course.trace turn ≤ sum_by length (take n course.replies)) (sym (booked-parts (added_in ds) (book_of now ++ map (λ r. r.booking) (requests_in ds)) n))
      (by (cases_lt n (length (book_of now)))))
    where
      by : (n < length (book_of now)) ⊎ (length (book_of now) ≤ n) → delivered_before course.trace (booked_in (book_of now ++ map (λ r. r.booking) (requests_in ds)) n) ≤ sum_by length (take n course.replies)
      by (inl before) =
          subst (λ (turn : ℕ). delivered_before course.trace turn ≤ sum_by length (take n course.replies)) (sym (booked-before (book_of now) (map (λ r. r.booking) (requests_in ds)) n before))
          (k.asked_first n before)
      by (inr behind) =
          let lt' : n < length (book_of now ++ map (λ r. r.booking) (requests_in ds)) = (let e = ap (λ (bs : List said.Booking). length bs) t.grows.book in let f = all-length (added_in ds) (book_of now ++ map (λ r. r.booking) (requests_in ds)) in omega (arith, e, f, lt)) in
          subst (λ (turn : ℕ). delivered_before course.trace turn ≤ sum_by length (take n course.replies))
          (sym (booked-now (record { handle = i; command = t.place }) now.turns (length (book_of now)) (book_of now) (requests_in ds) n t.grows.numbered behind lt'))
          (asked-first course now.turns n now.state later (came-by course now.turns now.state later (firm now.state at.reached [] tt) at.front at.replies at.counted) at.front at.replies at.counted
          (ahead n (let e = length-map now.state.book said_booking in omega (arith, e, behind))))

  pub turn-keeps : ((n : ℕ) → length now.state.book ≤ n → given n now.state.deliveries ≡ []) → (old-past : List (Past A E)) → slice_get k.pasts i ≡ Some old-past → TurnSo speech course script i now old new b ds answered →
      AllKept speech scripts course (behind_turn now ds) (set handles i new)
  turn-keeps ahead old-past past_at t = record {
    reached = reached-on now.state (events_of ds) at.reached t.legal;
    counts = subst (λ (qs : List DeskCall). Counts qs (after_all now.state (events_of ds))) (sym (map-append (λ (a : Asked DeskCall Reply). a.question) now.asked (asked_in ds))) t.grows.counts;
    pasts = set k.pasts i t.past;
    as_many = length-set k.pasts i t.past ∙ k.as_many;
    each = λ j other h past e f g. each-kept old-past past_at t j other h past e f g (cases_eq j i);
    book = subst (λ (bs : List said.Booking). AreKnown scripts (λ b. b.stamp.owner) (λ b. b.stamp.command) (λ b. b.stamp.turn) (suc now.turns) bs) (sym t.grows.book)
        (known-parts scripts (suc now.turns) (added_in ds) (book_of now ++ map (λ r. r.booking) (requests_in ds))
        (known-grows scripts (λ (b : said.Booking). b.stamp.owner) (λ b. b.stamp.command) (λ b. b.stamp.turn) now.turns (book_of now) (map (λ r. r.booking) (requests_in ds)) (new-book t) k.book));
    questions = known-grows scripts (λ (a : Asked DeskCall Reply). a.stamp.owner) (λ a. a.stamp.command) (λ a. a.stamp.turn) now.turns now.asked (asked_in ds) (new-asked t) k.questions;
    told = told-more tells (record { handle = i; command = t.place }) now.turns [] now.asked (asked_in ds) k.told t.grows.told;
    asked_first = first-asked ahead t;
  }

-- ---- calls that are nobody's

-- Calls that take of no request, hang up none, book nothing and ask nothing, in turns that are no handle's.
pub record AreNobodys (course : Course DeskCall Reply) (handles : ℕ) (now : Now) (L : List Deed) (turns : ℕ) : Type 0 where
  pub no_fewer : now.turns ≤ turns
  pub none : (i : ℕ) → i < handles → NoneFrom course i now.turns turns
  pub legal : IsLegal now.state (events_of L)
  pub spares : (n : ℕ) → SparesAll n L × HangsUpNone n L
  pub book : (after_all now.state (events_of L)).book ≡ now.state.book
  pub statements : (after_all now.state (events_of L)).statements ≡ now.state.statements
  pub portals : (after_all now.state (events_of L)).portals ≡ now.state.portals
  pub catalog : (after_all now.state (events_of L)).catalog ≡ now.state.catalog

pub nobodys-keep : {C T A E : Type 0} (speech : Speech C T A E) (scripts : List (List C)) (course : Course DeskCall Reply) (now : Now) (handles : List (HandleState T A E)) (L : List Deed) (turns : ℕ) → AreNobodys course (length scripts) now L turns →
    AllKept speech scripts course now handles → AllKept speech scripts course (record { turns = turns; asked = now.asked; state = after_all now.state (events_of L) }) handles
nobodys-keep {C} {T} {A} {E} speech scripts course now handles L turns a k =
    let same : map said_booking (after_all now.state (events_of L)).book ≡ book_of now = ap (map said_booking) a.book in
    record {
      reached = reached-on now.state (events_of L) k.reached a.legal;
      counts = counts-same (map (λ (a : Asked DeskCall Reply). a.question) now.asked) now.state (after_all now.state (events_of L)) a.statements a.portals a.catalog k.counts;
      pasts = k.pasts;
      as_many = k.as_many;
      each = λ i script h past e f g.
          others-keep speech course script i h past now (record { turns = turns; asked = now.asked; state = after_all now.state (events_of L) }) L
          (record {
            turns = a.no_fewer;
            none = a.none i (get-within scripts i script e);
            legal = a.legal;
            state = refl;
            longer = (let e = ap (λ (bs : List said.Booking). length bs) same in omega (arith, e));
            requests = λ p. ap (λ (bs : List said.Booking). requests_of bs i p) same;
            questions = λ p. refl;
          })
          (λ p runs. a.spares p.reads) (k.each i script h past e f g);
      book = subst (λ (bs : List said.Booking). AreKnown scripts (λ b. b.stamp.owner) (λ b. b.stamp.command) (λ b. b.stamp.turn) turns bs) (sym same)
          (known-later scripts (λ (b : said.Booking). b.stamp.owner) (λ b. b.stamp.command) (λ b. b.stamp.turn) now.turns turns (book_of now) a.no_fewer k.book);
      questions = known-later scripts (λ (a : Asked DeskCall Reply). a.stamp.owner) (λ a. a.stamp.command) (λ a. a.stamp.turn) now.turns turns now.asked a.no_fewer k.questions;
      told = k.told;
      asked_first = subst (λ (bs : List said.Booking). (n : ℕ) → n < length bs → delivered_before course.trace (booked_in bs n) ≤ sum_by length (take n course.replies)) (sym same) k.asked_first;
    }
