-- A simple query that did what the headline says unfolds.
use Rattle.std.proofs.Common.{◌≡◌, ℕ, ◌+◌, ◌≤◌, List, [], ◌∷◌, map, take, Bool, true, false, Option, Some, None, option_map, is_some, Result, Ok, Err, refl, sym, ap, ◌∙◌, subst, arith, if◌then◌else◌}
use Rattle.std.specs.Prelude.{⊤}
use Rattle.std.proofs.lemmas.Option.{same_Some}
use Rattle.pg_spec.specs.Book.{Booking, bookings_of, request_of}
use Rattle.pg_spec.specs.Faults.{FrameFault, Encode, Frame}
use Rattle.pg_spec.specs.Frames.{query_frame}
use Rattle.pg_spec.specs.RawMessages.{RawMessage}
use Rattle.pg_spec.specs.Readings.{Decision}
use Rattle.pg_spec.specs.SimpleQuery.{SimpleAnswer, has_enough, simple_next, simple_decision, simple_reading}
use Rattle.pg_spec.specs.Stamps.{stamped}
use Rattle.pg_spec.specs.Turns.{IsFirstTurn, Times}
use Rattle.pg_spec.specs.Dialogues.{Dialogue, Answers, Asks, Sends, Reads, Puts, Closes, Calls, behind, decided_after}
use Rattle.pg_spec.specs.Courses.{Asked, Course, Point, Request, Given, Unfolds, begun_in, delivered_to, reply_to, requests_of, questions_of, unread}
use Rattle.pg_spec.specs.Simples.{IsAsBefore, UnfoldsBehind, asks_by, reads_unless, simple_query, told_or}
use Rattle.pg_spec.proofs.OneWay.{first-one}
use Rattle.pg_spec.proofs.Simple.{answer_in, bookings, decides, request-is, stands-decides, stands-first, stands-not, start}

-- ---- a front that decides

-- where no front decides, the whole doesn't
grown-none : (o : Option ℕ) → option_map (λ n. n + 1) o ≡ None → o ≡ None
grown-none None e = refl
grown-none (Some n) e = absurd cc

none-decides : (f : List RawMessage → Bool) (m : RawMessage) (ms : List RawMessage) → decided_after f (m ∷ ms) ≡ None → f (m ∷ ms) ≡ true → ⊥
none-decides f m [] h so = by (f (m ∷ [])) so h
  where
    by : (t : Bool) → t ≡ true → if◌then◌else◌ {A = Option ℕ} t (Some 1) None ≡ None → ⊥
    by true is e = absurd cc
    by false is e = absurd cc
none-decides f m (x ∷ ms) h so = by (f (m ∷ [])) h (λ e. none-decides (λ front. f (m ∷ front)) x ms e so)
  where
    by : (t : Bool) → (if t then Some 1 else option_map (λ n. n + 1) (decided_after (λ front. f (m ∷ front)) (x ∷ ms))) ≡ None → (decided_after (λ front. f (m ∷ front)) (x ∷ ms) ≡ None → ⊥) → ⊥
    by true e later = absurd cc
    by false e later = later (grown-none (decided_after (λ front. f (m ∷ front)) (x ∷ ms)) e)

-- ---- a simple query

no-requests : (rs : List Request) → map (λ r. r.booking) rs ≡ [] → rs ≡ []
no-requests [] h = refl
no-requests (r ∷ rs) h = absurd cc

module _ {Q R : Type 0} (course : Course Q R) (handle place : ℕ) (wanted : Option ℕ) (times : Times) (answer : SimpleAnswer) (from : ℕ)
    (begins : IsFirstTurn course.trace handle from (λ place. ⊤) times.begins) where
  abbrev book : List Booking
  book = course.book

  abbrev StandsBy : ℕ → ℕ → Type 0
  StandsBy k at = elim (simple_decision wanted (reply_to course (Some k))) as (λ _. Type 0) [ None ↦ ⊥ | Some d ↦ d.after ≤ delivered_to course (Some k) at ]

  abbrev DecidedBy : Option ℕ → Result (List ℕ) FrameFault → ℕ → Type 0
  DecidedBy request f at = elim f as (λ _. Type 0) [
    | Err fault ↦ Unit {0}
    | Ok frame ↦ elim request as (λ _. Type 0) [ None ↦ ⊥ | Some k ↦ StandsBy k at ]
  ]

  abbrev OwnBy : Result (List ℕ) FrameFault → Type 0
  OwnBy f = bookings_of book handle place ≡ elim f as (λ _. List Booking) [
    | Ok frame ↦ record { stamp = stamped handle place times.begins; parts = frame ∷ [] } ∷ []
    | Err fault ↦ []
  ]

  abbrev AnswerBy : Option ℕ → Result (List ℕ) FrameFault → Type 0
  AnswerBy request f = Some answer ≡ elim f as (λ _. Option SimpleAnswer) [
    | Err fault ↦ Some (Err (Encode (Frame fault)))
    | Ok frame ↦ elim request as (λ _. Option SimpleAnswer) [ None ↦ None | Some k ↦ simple_reading wanted (reply_to course (Some k)) ]
  ]

  -- where it stands when the command begins, it is given then
  begins-then : (P : ℕ → Type 0) → IsFirstTurn course.trace handle times.begins P times.answers → P times.begins → times.begins ≡ times.answers
  begins-then P first holds = first-one course.trace handle times.begins P times.begins times.answers (record {
    made = begins.made;
    own = begins.own;
    no_sooner = omega arith;
    holds = holds;
    first = λ earlier ge lt mine h. omega (arith, ge, lt);
  }) first

  -- from some point on it unfolds
  abbrev From : Point → Dialogue Q R SimpleAnswer → List Request → Type 0
  From at d requests = (last : Point) × (last.turn ≡ times.answers) × Unfolds course handle at d requests [] (record { at = last; answer = answer })

  same-answer : (at : Point) (a : SimpleAnswer) → Some answer ≡ Some a → ◌≡◌ {A = Given SimpleAnswer} (record { at = at; answer = answer }) (record { at = at; answer = a })
  same-answer at a h = ap (λ (x : SimpleAnswer). let g : Given SimpleAnswer = record { at = at; answer = x } in g) (same_Some answer a h)

  by-reading : (k : ℕ) (frame : List ℕ) (o : Option SimpleAnswer) → simple_reading wanted [] ≡ o → AnswerBy (Some k) (Ok frame) →
      IsFirstTurn course.trace handle times.begins (DecidedBy (Some k) (Ok frame)) times.answers →
      From (record { turn = times.begins; request = Some k; read = 0; parts = [] }) (reads_unless wanted o) []
  by-reading k frame (Some a) is answers first =
      let stands = stands-decides (has_enough wanted) simple_next start a (reply_to course (Some k)) (stands-first (has_enough wanted start) a is) in
      let at : Point = record { turn = times.begins; request = Some k; read = 0; parts = [] } in (
        at,
        begins-then (StandsBy k) first
            (subst (λ (o : Option (Decision SimpleAnswer)). elim o as (λ _. Type 0) [ None ↦ ⊥ | Some d ↦ d.after ≤ delivered_to course (Some k) times.begins ]) (sym stands) (omega arith)),
        (refl, refl, refl, same-answer at a (answers ∙ ap (λ (o : Option (Decision SimpleAnswer)). answer_in o) stands)),
      )
  by-reading k frame None is answers first = by (decided_after (λ ms. is_some (simple_reading wanted ms)) (reply_to course (Some k))) refl
    where
      whole : is_some (simple_reading wanted (reply_to course (Some k))) ≡ true
      whole = ap (λ (o : Option SimpleAnswer). is_some o) (sym answers)

      never : (ms : List RawMessage) → is_some (simple_reading wanted ms) ≡ true → decided_after (λ ms. is_some (simple_reading wanted ms)) ms ≡ None → ⊥
      never [] t e = let c : true ≡ false = sym t ∙ ap (λ (o : Option SimpleAnswer). is_some o) is in absurd cc
      never (m ∷ ms) t e = none-decides (λ ms. is_some (simple_reading wanted ms)) m ms e t

      by : (o : Option ℕ) → decided_after (λ ms. is_some (simple_reading wanted ms)) (reply_to course (Some k)) ≡ o →
          From (record { turn = times.begins; request = Some k; read = 0; parts = [] }) (reads_unless wanted None) []
      by None e = absurd (never (reply_to course (Some k)) whole e)
      by (Some n) e =
          let d = decides (has_enough wanted) simple_next start (reply_to course (Some k)) n (stands-not (has_enough wanted start) is) e in
          let last : Point = record { turn = times.answers; request = Some k; read = 0 + n; parts = [] } in
          let so : (p : ℕ) → StandsBy k p ≡ (n ≤ delivered_to course (Some k) p) =
          (λ p. ap (λ (o : Option (Decision SimpleAnswer)). elim o as (λ _. Type 0) [ None ↦ ⊥ | Some d ↦ d.after ≤ delivered_to course (Some k) p ]) d.decided) in
          let told : Some answer ≡ Some d.answer = answers ∙ ap (λ (o : Option (Decision SimpleAnswer)). answer_in o) d.decided in
          let front : told_or (simple_reading wanted (take n (reply_to course (Some k)))) ≡ d.answer = ap told_or d.by_front in (
            last,
            refl,
            (
              n,
              e,
              times.answers,
              record {
                made = first.made;
                own = first.own;
                no_sooner = first.no_sooner;
                holds = (let x = subst (λ (X : Type 0). X) (so times.answers) first.holds in omega (arith, x));
                first = λ earlier ge lt mine h. first.first earlier ge lt mine (subst (λ (X : Type 0). X) (sym (so earlier)) (omega (arith, h)));
              },
              (refl, refl, refl, same-answer last (told_or (simple_reading wanted (take n (reply_to course (Some k))))) (told ∙ ap (λ (x : SimpleAnswer). Some x) (sym front))),
            ),
          )

  by-request : (former : Point) (frame : List ℕ) (requests : List Request) → requests_of book handle place ≡ requests →
      map (λ r. r.booking) requests ≡ record { stamp = stamped handle place times.begins; parts = frame ∷ [] } ∷ [] →
      (request : Option ℕ) → request_of book handle place ≡ request → AnswerBy request (Ok frame) → IsFirstTurn course.trace handle times.begins (DecidedBy request (Ok frame)) times.answers →
      From (begun_in former times.begins) (asks_by wanted (Ok frame)) requests
  by-request former frame [] are one request is answers first = absurd cc
  by-request former frame (r ∷ x ∷ rest) are one request is answers first = absurd cc
  by-request former frame (r ∷ []) are one request is answers first =
      let b : r.booking ≡ record { stamp = stamped handle place times.begins; parts = frame ∷ [] } = cc in
      let number : request ≡ Some r.number = sym is ∙ request-is book handle place r [] are in
      let go = by-reading r.number frame (simple_reading wanted []) refl
      (subst (λ (o : Option ℕ). AnswerBy o (Ok frame)) number answers)
      (subst (λ (o : Option ℕ). IsFirstTurn course.trace handle times.begins (DecidedBy o (Ok frame)) times.answers) number first) in
      (go.0, go.1, (refl, ap (λ (b : Booking). b.stamp.turn) b, [], ap (λ (b : Booking). b.parts) b, go.2))

  by-frame : (former : Point) (f : Result (List ℕ) FrameFault) → OwnBy f → AnswerBy (request_of book handle place) f →
      IsFirstTurn course.trace handle times.begins (DecidedBy (request_of book handle place) f) times.answers →
      From (begun_in former times.begins) (asks_by wanted f) (requests_of book handle place)
  by-frame former (Err fault) own answers first = (
    begun_in former times.begins,
    begins-then (λ place. Unit {0}) first tt,
    (
      no-requests (requests_of book handle place) (bookings book 0 handle place ∙ own),
      refl,
      refl,
      same-answer (begun_in former times.begins) (Err (Encode (Frame fault))) answers,
    ),
  )
  by-frame former (Ok frame) own answers first =
      by-request former frame (requests_of book handle place) refl (bookings book 0 handle place ∙ own) (request_of book handle place) refl answers first

pub from-before : {Q R : Type 0} (course : Course Q R) (handle place : ℕ) (text : List ℕ) (wanted : Option ℕ) (times : Times) (answer : SimpleAnswer) (from : ℕ) (former : Point) →
    IsFirstTurn course.trace handle from (λ place. ⊤) times.begins → questions_of course.asked handle place ≡ [] → IsAsBefore course handle place text wanted times answer →
    UnfoldsBehind course handle place text wanted times answer former
from-before {Q} {R} course handle place text wanted times answer from former begins none h =
    let by = by-frame {Q = Q} {R = R} course handle place wanted times answer from begins former (query_frame text) h.own_request h.answers h.answers_in_turn in (
      by.0,
      by.1,
      subst (λ (qs : List (Asked Q R)). Unfolds course handle (begun_in former times.begins) (simple_query text wanted) (requests_of course.book handle place) qs
          (record { at = by.0; answer = answer })) (sym none) by.2,
    )

-- ---- an answer in other words

pub mapped : {Q R A B : Type 0} (course : Course Q R) (handle : ℕ) (at : Point) (d : Dialogue Q R A) (f : A → B) (requests : List Request) (asked : List (Asked Q R)) (last : Point) (a : A) →
    Unfolds course handle at d requests asked (record { at = last; answer = a }) →
    Unfolds course handle at (behind d (λ a. Answers (f a))) requests asked (record { at = last; answer = f a })
mapped {Q} {R} {A} {B} course handle at (Answers x) f requests asked last a (none, nothing, whole, is) =
    (none, nothing, whole, ap (λ (g : Given A). let y : Given B = record { at = g.at; answer = f g.answer } in y) is)
mapped course handle at (Asks copying part d) f [] asked last a h = absurd h
mapped course handle at (Asks copying part d) f (r ∷ requests) asked last a (whole, turn, more, parts, h) =
    (whole, turn, more, parts, mapped course handle (record { turn = at.turn; request = Some r.number; read = 0; parts = more }) d f requests asked last a h)
mapped course handle at (Sends part d) f [] asked last a h = absurd h
mapped course handle at (Sends part d) f (r ∷ requests) asked last a (turn, parts, h) = (turn, parts, mapped course handle at d f requests asked last a h)
mapped course handle at (Reads test next) f requests asked last a (n, decided, turn, first, h) =
    (n, decided, turn, first, mapped course handle (record at { turn = turn; read = at.read + n }) (next (take n (unread course at))) f requests asked last a h)
mapped course handle at (Puts part d) f requests asked last a (turn, own, more, parts, h) =
    (turn, own, more, parts, mapped course handle (record at { turn = turn; parts = more }) d f requests asked last a h)
mapped course handle at (Closes part d) f requests asked last a (more, parts, h) =
    (more, parts, mapped course handle (record at { parts = more }) d f requests asked last a h)
mapped course handle at (Calls q next) f requests [] last a h = absurd h
mapped course handle at (Calls q next) f requests (x ∷ asked) last a (turn, question, h) = (turn, question, mapped course handle at (next x.reply) f requests asked last a h)
