-- A session that ended has run as its commands mean.
use Rattle.std.proofs.Common.{◌≡◌, ℕ, zero, suc, ◌+◌, ◌^◌, ◌<◌, ◌≤◌, List, [], ◌∷◌, length, map, Option, Some, None, option_map, unwrap_or, refl, sym, ap, subst, ◌∙◌, arith, slice_get}
use Rattle.std.specs.Prelude.{⊤, All, EachIndex, IsSome, false, take, sum_by}
use Rattle.std.specs.Option.{option_and_then}
use Rattle.std.specs.List.Sorted.{IsNonDecreasingBy}
use Rattle.std.proofs.lemmas.List.{append-nil, length-map}
use Rattle.std.proofs.lemmas.Option.{same_Some, slice_get-map}
use Rattle.pg_spec.specs.Book.{Booking}
use Rattle.pg_spec.specs.Links.{LinkView}
use Rattle.pg_spec.specs.RawMessages.{RawMessage, groups, sync_of}
use Rattle.pg_spec.specs.Turns.{BeginInTurn, IsFirstTurn, IsTrace, Times, delivered_before, entry_at, free_from}
use Rattle.pg_connect.specs.Passed.{delivered_by}
use Rattle.pg_desk.specs.History.{IsFrontOf}
use Rattle.pg_query.specs.declared.desk_call.DeskCall.{DeskCall}
use Rattle.pg_query.specs.declared.desk_call.Reply.{Reply}
use Rattle.pg_spec.specs.Courses.{Asked, Course, Unfolds, begun_in, nowhere, questions_of, requests_of}
use Rattle.pg_spec.specs.Meanings.{Did, EachCommand, HasRun, booked_in}
use Rattle.pg_core.specs.Trails.{said_booking}
use Rattle.pg_session.specs.Speeches.{AreCommands, Speech, meaning_of}
use Rattle.pg_session.specs.Handles.{HandleState}
use Rattle.pg_session.specs.States.{SessionState}
use Rattle.pg_session.specs.Sessions.{IsNewSession, Plays}
use Rattle.pg_session.specs.Calls.{asked_of, calls_of}
use Rattle.pg_session.specs.Kept.{HandleKept, Past, book_of, free_of, states_of}
use Rattle.pg_session.proofs.Left.{left-at}
use Rattle.pg_session.proofs.Order.Holds.{turns_are_in_order}
use Rattle.pg_session.proofs.Played.{SessionEnds, session-ends}
use Rattle.pg_session.proofs.Rows.{get-within, places-below}
use Rattle.pg_session.proofs.Session.{front-short, now_of, past-there}

-- ---- rows of rows

entry-row : {X Y : Type 0} (f : X → List Y) (rows : List X) (i j : ℕ) (row : X) → slice_get rows i ≡ Some row → entry_at (map f rows) i j ≡ slice_get (f row) j
entry-row {X} {Y} f rows i j row e = ap (λ (o : Option (List Y)). option_and_then (λ r. slice_get r j) o) (slice_get-map f rows i ∙ ap (λ (o : Option X). option_map f o) e)

-- the row in which an entry stands
row-of : {X Y : Type 0} (f : X → List Y) (rows : List X) (i j : ℕ) (y : Y) → entry_at (map f rows) i j ≡ Some y → (row : X) × (slice_get rows i ≡ Some row) × (slice_get (f row) j ≡ Some y)
row-of f [] i j y e = absurd cc
row-of f (row ∷ rows) zero j y e = (row, refl, e)
row-of f (row ∷ rows) (suc i) j y e = row-of f rows i j y e

item-of : {X Y : Type 0} (f : X → Y) (xs : List X) (j : ℕ) (y : Y) → slice_get (map f xs) j ≡ Some y → (x : X) × (slice_get xs j ≡ Some x) × (f x ≡ y)
item-of f [] j y e = absurd cc
item-of f (x ∷ xs) zero y e = (x, refl, same_Some (f x) y e)
item-of f (x ∷ xs) (suc j) y e = item-of f xs j y e

item-at : {X Y : Type 0} (f : X → Y) (xs : List X) (j : ℕ) (x : X) → slice_get xs j ≡ Some x → slice_get (map f xs) j ≡ Some (f x)
item-at {X} f xs j x e = slice_get-map f xs j ∙ ap (λ (o : Option X). option_map f o) e

get-there : {X : Type 0} (xs : List X) (i : ℕ) → i < length xs → (x : X) × (slice_get xs i ≡ Some x)
get-there [] i lt = absurd (omega (arith, lt))
get-there (x ∷ xs) zero lt = (x, refl)
get-there (x ∷ xs) (suc i) lt = get-there xs i (omega (arith, lt))

each-length : {C X Y : Type 0} (f : X → List Y) (scripts : List (List C)) (rows : List X) → length rows ≡ length scripts →
    ((i : ℕ) (script : List C) (row : X) → slice_get scripts i ≡ Some script → slice_get rows i ≡ Some row → length (f row) ≡ length script) → map length (map f rows) ≡ map length scripts
each-length f [] [] same each = refl
each-length f [] (row ∷ rows) same each = absurd (omega (arith, same))
each-length f (script ∷ scripts) [] same each = absurd (omega (arith, same))
each-length f (script ∷ scripts) (row ∷ rows) same each =
    ap (λ (n : ℕ). n ∷ map length (map f rows)) (each 0 script row refl refl) ∙ ap (λ (ns : List ℕ). length script ∷ ns) (each-length f scripts rows (omega (arith, same)) (λ i. each (suc i)))

-- ---- the session at its end

-- what a session did whose end this is
abbrev pub course_at : {T A E : Type 0} → SessionState T A E → List (List RawMessage) → List (Asked DeskCall Reply) → Course DeskCall Reply
course_at t replies asked = record { trace = t.trace; book = map said_booking t.hub.book; replies = replies; asked = asked }

module _ {C T A E : Type 0} (speech : Speech C T A E) (scripts : List (List C)) (given : List ℕ) (replies : List (List RawMessage)) (asked : List (Asked DeskCall Reply)) (came : List RawMessage) (t : SessionState T A E)
    (e : SessionEnds speech scripts (course_at t replies asked) asked came t) where
  schedule : List (List Times)
  schedule = map (λ (past : List (Past A E)). map (λ x. x.times) past) e.kept.all.pasts

  states : List (List E)
  states = map (λ (past : List (Past A E)). states_of speech.begins past) e.kept.all.pasts

  same-book : book_of (now_of asked e.kept.state t) ≡ map said_booking t.hub.book
  same-book = ap (map said_booking) (sym e.kept.fits.book)

  -- a handle, its script and its row
  record Handle-at (i : ℕ) (past : List (Past A E)) : Type 0 where
    script : List C
    script_at : slice_get scripts i ≡ Some script
    h : HandleState T A E
    handle_at : slice_get t.handles i ≡ Some h
    kept : HandleKept speech (course_at t replies asked) script i h past (now_of asked e.kept.state t)

  handle-at : (i : ℕ) (past : List (Past A E)) → slice_get e.kept.all.pasts i ≡ Some past → Handle-at i past
  handle-at i past at =
      let s = past-there e.kept.all.pasts scripts i past (sym e.kept.all.as_many) at in
      let h = past-there scripts t.handles i s.0 e.kept.many s.1 in
      record { script = s.0; script_at = s.1; h = h.0; handle_at = h.1; kept = e.kept.all.each i s.0 h.0 past s.1 h.1 at }

  -- each command is answered
  all-answered : (i : ℕ) (script : List C) (h : HandleState T A E) (past : List (Past A E)) → slice_get scripts i ≡ Some script → slice_get t.handles i ≡ Some h → slice_get e.kept.all.pasts i ≡ Some past →
      (length past ≡ length script) × (length h.answers ≡ length script)
  all-answered i script h past script_at handle_at past_at =
      let k = e.kept.all.each i script h past script_at handle_at past_at in
      let most = places-below past 0 (length script) (omega arith) (λ j x stands. let d = k.done j x stands in let lt = get-within script j d.command d.stands in omega (arith, lt)) in
      let least = left-at scripts t.handles i script h script_at handle_at in
      let many : length h.answers ≡ length past = ap (λ (as_ : List A). length as_) k.answers ∙ length-map past (λ (x : Past A E). x.ending.answer) in
      let u = e.kept.unanswered in
      let none = e.none_left in
      (omega (arith, most, least, many, u, none), omega (arith, most, least, many, u, none))

  -- when a command may begin
  free-same : (i : ℕ) (past : List (Past A E)) (j : ℕ) → slice_get e.kept.all.pasts i ≡ Some past → free_from schedule i j ≡ free_of past j
  unfolding schedule
  free-same i past zero at = refl
  free-same i past (suc j) at =
      ap (λ (o : Option Times). unwrap_or (option_map (λ (x : Times). x.answers + 1) o) 0)
      (entry-row (λ (past : List (Past A E)). map (λ x. x.times) past) e.kept.all.pasts i j past at ∙ slice_get-map (λ (x : Past A E). x.times) past j)
      ∙ by (slice_get past j)
    where
      by : (o : Option (Past A E)) → unwrap_or (option_map (λ (x : Times). x.answers + 1) (option_map (λ (x : Past A E). x.times) o)) 0 ≡ unwrap_or (option_map (λ (x : Past A E). x.times.answers + 1) o) 0
      by None = refl
      by (Some x) = refl

  begins-so : BeginInTurn t.trace schedule
  unfolding schedule
  begins-so i j times at =
      let row = row-of (λ (past : List (Past A E)). map (λ x. x.times) past) e.kept.all.pasts i j times at in
      let item = item-of (λ (x : Past A E). x.times) row.0 j times row.2 in
      let h = handle-at i row.0 row.1 in
      let d = h.kept.done j item.0 item.1 in
      subst (λ (x : Times). IsFirstTurn t.trace i (free_from schedule i j) (λ place. ⊤) x.begins) item.2
      (subst (λ (n : ℕ). IsFirstTurn t.trace i n (λ place. ⊤) item.0.times.begins) (sym (free-same i row.0 j row.1)) d.begins)

  did-so : EachCommand scripts schedule (Did (meaning_of speech) (course_at t replies asked) states (map (λ h. h.answers) t.handles))
  unfolding schedule states
  did-so i j command times of at =
      let row = row-of (λ (past : List (Past A E)). map (λ x. x.times) past) e.kept.all.pasts i j times at in
      let past = row.0 in
      let item = item-of (λ (x : Past A E). x.times) past j times row.2 in
      let x = item.0 in
      let h = handle-at i past row.1 in
      let d = h.kept.done j x item.1 in
      let same_command : d.command ≡ command = same_Some d.command command (sym d.stands ∙ sym (ap (λ (o : Option (List C)). option_and_then (λ r. slice_get r j) o) h.script_at) ∙ of) in
      let next : j + 1 ≡ suc j = omega arith in
      record {
        before = d.before;
        had = entry-row (λ (past : List (Past A E)). states_of speech.begins past) e.kept.all.pasts i j past row.1 ∙ d.had;
        ending = x.ending;
        answered = entry-row (λ (h : HandleState T A E). h.answers) t.handles i j h.h h.handle_at ∙ ap (λ (as_ : List A). slice_get as_ j) h.kept.answers ∙ item-at (λ (x : Past A E). x.ending.answer) past j x item.1;
        has = entry-row (λ (past : List (Past A E)). states_of speech.begins past) e.kept.all.pasts i (j + 1) past row.1 ∙ ap (slice_get (states_of speech.begins past)) next ∙ item-at (λ (x : Past A E). x.ending.own) past j x item.1;
        at = x.at;
        in_turn = d.in_turn ∙ ap (λ (y : Times). y.answers) item.2;
        unfolds =
            subst (λ (y : Times). Unfolds (course_at t replies asked) i (begun_in nowhere y.begins) ((meaning_of speech).asks d.before command) (requests_of (map said_booking t.hub.book) i j) (questions_of asked i j) (record { at = x.at; answer = x.ending })) item.2
            (subst (λ (c : C). Unfolds (course_at t replies asked) i (begun_in nowhere x.times.begins) ((meaning_of speech).asks d.before c) (requests_of (map said_booking t.hub.book) i j) (questions_of asked i j) (record { at = x.at; answer = x.ending })) same_command
            (subst (λ (bs : List Booking). Unfolds (course_at t replies asked) i (begun_in nowhere x.times.begins) ((meaning_of speech).asks d.before d.command) (requests_of bs i j) (questions_of asked i j) (record { at = x.at; answer = x.ending })) same-book
            d.unfolds));
      }

  pub ran : IsTrace given (length scripts) t.trace → HasRun (meaning_of speech) scripts given (map (λ h. h.answers) t.handles) (course_at t replies asked)
  unfolding schedule states
  ran made = record {
    schedule = schedule;
    states = states;
    one_answer_each = each-length (λ (h : HandleState T A E). h.answers) scripts t.handles e.kept.many (λ i script h f g. let p = past-there scripts e.kept.all.pasts i script e.kept.all.as_many f in (all-answered i script h p.0 f g p.1).1);
    one_time_each = each-length (λ (past : List (Past A E)). map (λ x. x.times) past) scripts e.kept.all.pasts e.kept.all.as_many (λ i script past f g. let h = past-there scripts t.handles i script e.kept.many f in length-map past (λ (x : Past A E). x.times) ∙ (all-answered i script h.0 past f h.1 g).0);
    new = λ i lt. let many = e.kept.all.as_many in let p = get-there e.kept.all.pasts i (omega (arith, lt, many)) in entry-row (λ (past : List (Past A E)). states_of speech.begins past) e.kept.all.pasts i 0 p.0 p.1;
    turns_made = made;
    begins = begins-so;
    did = did-so;
    no_other = subst (λ (bs : List Booking). All (λ b. IsSome (entry_at scripts b.stamp.owner b.stamp.command)) bs) same-book e.kept.all.book.known;
    in_order = subst (λ (bs : List Booking). IsNonDecreasingBy (λ b. b.stamp.turn) bs) same-book e.kept.all.book.in_order;
    asked_first = subst (λ (bs : List Booking). EachIndex bs (λ k. delivered_before t.trace (booked_in bs k) ≤ sum_by length (take k replies))) same-book e.kept.all.asked_first;
    none_asked_beside = e.kept.all.questions.known;
    asked_in_order = e.kept.all.questions.in_order;
    told = e.kept.all.told;
  }

-- a session that was played
pub session-has-run : {C T A E : Type 0} (speech : Speech C T A E) → AreCommands speech → (scripts : List (List C)) (given : List ℕ) (s : SessionState T A E) (l : LinkView) (t : SessionState T A E) (m : LinkView) →
    IsNewSession speech scripts s → s.streams.closing ≡ false → s.streams.delivered ≡ 0 → (plays : Plays speech scripts given s l t m) →
    (later : List RawMessage) → IsFrontOf (delivered_by (calls_of speech scripts given s l t m plays)) (sync_of later) → length (sync_of later) < 2 ^ 64 →
    HasRun (meaning_of speech) scripts given (map (λ h. h.answers) t.handles) (course_at t (groups later) (asked_of speech scripts given s l t m plays))
session-has-run speech commands scripts given s l t m new active none plays later front small =
    ran speech scripts given (groups later) (asked_of speech scripts given s l t m plays) (delivered_by (calls_of speech scripts given s l t m plays)) t
    (session-ends speech scripts given (course_at t (groups later) (asked_of speech scripts given s l t m plays)) later s l t m commands new active none plays
    (record { turns = ([], append-nil t.trace); front = front; replies = refl; small = (let a = front-short (delivered_by (calls_of speech scripts given s l t m plays)) (sync_of later) front in omega (arith, a, small)) })) (turns_are_in_order speech scripts given s t l m new none plays)
