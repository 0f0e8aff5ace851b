-- A simple query that unfolds has one request of its own and answers its reading.
use Rattle.std.proofs.Common.{◌≡◌, ℕ, suc, ◌+◌, ◌<◌, ◌≤◌, List, [], ◌∷◌, length, map, take, filter, Bool, true, false, cond, ◌&&◌, ◌==◌, Option, Some, None, option_map, is_some, Result, Ok, Err, refl, sym, ap, ◌∙◌, subst, arith, if◌then◌else◌, nat_lt, not}
use Rattle.std.specs.Prelude.{⊤}
use Rattle.std.specs.List.{position_or_len}
use Rattle.std.proofs.lemmas.Bool.Decides.{nat_tests}
use Rattle.std.proofs.lemmas.Bool.{eqb-true}
use Rattle.pg_spec.specs.Book.{Booking, is_of, bookings_of, request_of}
use Rattle.pg_spec.specs.Faults.{FrameFault, Encode, Frame}
use Rattle.pg_spec.specs.Frames.{query_frame}
use Rattle.pg_spec.specs.RawMessages.{RawMessage}
use Rattle.pg_spec.specs.Readings.{Next, GoesOn, Answers as Ends, Decision, decision, decided_by, stands_or, one_later}
use Rattle.pg_spec.specs.SimpleQuery.{SimpleAnswer, SimpleState, has_enough, simple_next, simple_decision, simple_reading}
use Rattle.pg_spec.specs.Turns.{IsFirstTurn, Times, turn_of}
use Rattle.pg_spec.specs.Courses.{Asked, Course, Point, Request, Given, Unfolds, begun_in, numbered, reply_to, delivered_to, requests_of, questions_of}
use Rattle.pg_spec.specs.Dialogues.{decided_after}
use Rattle.pg_spec.specs.Simples.{IsAsBefore, UnfoldsSimple, asks_by, reads_unless, told_or}

-- ---- requests and their numbers

pub bookings : (book : List Booking) (n owner command : ℕ) → map (λ r. r.booking) (filter (λ r. is_of owner command r.booking) (numbered n book)) ≡ bookings_of book owner command
bookings [] n owner command = refl
bookings (b ∷ book) n owner command = by (is_of owner command b) (bookings book (n + 1) owner command)
  where
    by : (t : Bool) → map (λ r. r.booking) (filter (λ r. is_of owner command r.booking) (numbered (n + 1) book)) ≡ filter (is_of owner command) book →
        map (λ r. r.booking) (cond t (record { number = n; booking = b } ∷ filter (λ r. is_of owner command r.booking) (numbered (n + 1) book)) (filter (λ r. is_of owner command r.booking) (numbered (n + 1) book)))
        ≡ cond t (b ∷ filter (is_of owner command) book) (filter (is_of owner command) book)
    by true e = ap (λ (bs : List Booking). b ∷ bs) e
    by false e = e

-- the first request of a command: its number is its place in the book
record IsFirst (p : Booking → Bool) (n : ℕ) (book : List Booking) (r : Request) : Type 0 where
  at : n + position_or_len p book ≡ r.number
  within : position_or_len p book < length book
  own : p r.booking ≡ true

first-number : (p : Booking → Bool) (n : ℕ) (book : List Booking) (r : Request) (rest : List Request) → filter (λ (x : Request). p x.booking) (numbered n book) ≡ r ∷ rest → IsFirst p n book r
first-number p n [] r rest h = absurd cc
first-number p n (b ∷ book) r rest h = by (p b) refl h (λ e. first-number p (n + 1) book r rest e)
  where
    later : List Request
    later = filter (λ (x : Request). p x.booking) (numbered (n + 1) book)

    by : (t : Bool) → p b ≡ t → cond t (record { number = n; booking = b } ∷ filter (λ (x : Request). p x.booking) (numbered (n + 1) book)) (filter (λ (x : Request). p x.booking) (numbered (n + 1) book)) ≡ r ∷ rest →
        (filter (λ (x : Request). p x.booking) (numbered (n + 1) book) ≡ r ∷ rest → IsFirst p (n + 1) book r) → IsFirst p n (b ∷ book) r
    by true is e f =
        let one : ◌≡◌ {A = Request} (record { number = n; booking = b }) r = cc in
        record {
          at = ap (λ (t : Bool). n + cond (not t) (1 + position_or_len p book) 0) is ∙ (let e : n + 0 ≡ n = omega arith in e) ∙ ap (λ (x : Request). x.number) one;
          within = subst (λ (t : Bool). cond (not t) (1 + position_or_len p book) 0 < length (b ∷ book)) (sym is) (omega arith);
          own = ap (λ (x : Request). p x.booking) (sym one) ∙ is;
        }
    by false is e f =
        let h = f e in
        record {
          at = ap (λ (t : Bool). n + cond (not t) (1 + position_or_len p book) 0) is ∙ (let g = h.at in omega (arith, g));
          within = subst (λ (t : Bool). cond (not t) (1 + position_or_len p book) 0 < length (b ∷ book)) (sym is) (let g = h.within in omega (arith, g));
          own = h.own;
        }

pub request-is : (book : List Booking) (owner command : ℕ) (r : Request) (rest : List Request) → requests_of book owner command ≡ r ∷ rest → request_of book owner command ≡ Some r.number
request-is book owner command r rest h =
    let p : Booking → Bool = is_of owner command in
    let first = first-number p 0 book r rest h in
    let at : position_or_len p book ≡ r.number = (let g = first.at in omega (arith, g)) in
    let lt : r.number < length book = (let g = first.within in omega (arith, g, at)) in
    ap (λ (n : ℕ). cond (nat_lt n (length book)) (Some n) None) at ∙ ap (λ (t : Bool). let o : Option ℕ = cond t (Some r.number) None in o) (below r.number (length book) lt)
  where
    below : (a b : ℕ) → a < b → nat_lt a b ≡ true
    below a b h = grind (arith, nat_tests)

-- its stamp is the command's
and-both : (a b : Bool) → (a && b) ≡ true → (a ≡ true) × (b ≡ true)
and-both true b h = (refl, h)
and-both false b h = absurd cc

stamped-so : (owner command turn : ℕ) (frame : List ℕ) (b : Booking) → is_of owner command b ≡ true → b.stamp.turn ≡ turn → b.parts ≡ frame ∷ [] →
    b ≡ record { stamp = record { owner = owner; command = command; turn = turn }; parts = frame ∷ [] }
stamped-so owner command turn frame b own at parts =
    let both = and-both (b.stamp.owner == owner) (b.stamp.command == command) own in
    let o : b.stamp.owner ≡ owner = eqb-true b.stamp.owner owner both.0 in
    let c : b.stamp.command ≡ command = eqb-true b.stamp.command command both.1 in
    ap (λ (x : ℕ). let y : Booking = record { stamp = record { owner = x; command = b.stamp.command; turn = b.stamp.turn }; parts = b.parts } in y) o
    ∙ ap (λ (x : ℕ). let y : Booking = record { stamp = record { owner = owner; command = x; turn = b.stamp.turn }; parts = b.parts } in y) c
    ∙ ap (λ (x : ℕ). let y : Booking = record { stamp = record { owner = owner; command = command; turn = x }; parts = b.parts } in y) at
    ∙ ap (λ (x : List (List ℕ)). let y : Booking = record { stamp = record { owner = owner; command = command; turn = turn }; parts = x } in y) parts

-- ---- the shortest front that decides

decided-same : (f g : List RawMessage → Bool) (ms : List RawMessage) → ((l : List RawMessage) → f l ≡ g l) → decided_after f ms ≡ decided_after g ms
decided-same f g [] h = refl
decided-same f g (m ∷ ms) h =
    ap (λ (t : Bool). if t then Some 1 else option_map (λ n. n + 1) (decided_after (λ front. f (m ∷ front)) ms)) (h (m ∷ []))
    ∙ ap (λ (o : Option ℕ). if g (m ∷ []) then Some 1 else option_map (λ n. n + 1) o) (decided-same (λ front. f (m ∷ front)) (λ front. g (m ∷ front)) ms (λ l. h (m ∷ l)))

abbrev pub answer_in : {A : Type 0} → Option (Decision A) → Option A
answer_in o = option_map (λ d. d.answer) o

later-some : {A : Type 0} (o : Option (Decision A)) → is_some (answer_in (option_map one_later o)) ≡ is_some (answer_in o)
later-some None = refl
later-some (Some d) = refl

-- a reading decides where the shortest front that decides ends
pub record Decides {A : Type 0} (d : Option (Decision A)) (front : Option (Decision A)) (n : ℕ) : Type 0 where
  pub answer : A
  pub decided : d ≡ Some (record { answer = answer; after = n })
  pub by_front : answer_in front ≡ Some answer

grown : {A : Type 0} (d front : Option (Decision A)) (n : ℕ) → Decides d front n → Decides (option_map one_later d) (option_map one_later front) (n + 1)
grown {A} d front n h = record {
  answer = h.answer;
  decided = ap (option_map one_later) h.decided;
  by_front = by front h.by_front;
}
  where
    by : (o : Option (Decision A)) → answer_in o ≡ Some h.answer → answer_in (option_map one_later o) ≡ Some h.answer
    by None e = absurd cc
    by (Some x) e = e

minus-one : (n : ℕ) (o : Option ℕ) → option_map (λ k. k + 1) o ≡ Some n → (k : ℕ) × (o ≡ Some k) × (n ≡ k + 1)
minus-one n None h = absurd cc
minus-one n (Some k) h = let e : k + 1 ≡ n = cc in (k, refl, sym e)

pub stands-decides : {S A : Type 0} (stands : S → Option A) (next : S → RawMessage → Next S A) (state : S) (b : A) (ms : List RawMessage) → stands state ≡ Some b →
    decision stands next state ms ≡ Some (record { answer = b; after = 0 })
stands-decides stands next state b [] h = ap (λ o. stands_or o None) h
stands-decides {S} {A} stands next state b (m ∷ ms) h = ap (λ o. stands_or o (decided_by (next state m) (λ later. decision stands next later ms))) h

-- behind the first message, where one is read
record Behind {A : Type 0} (at : List RawMessage → Option (Decision A)) (ms : List RawMessage) (n : ℕ) : Type 0 where
  fewer : ℕ
  is : n ≡ suc fewer
  decides : Decides (at ms) (at (take fewer ms)) n

-- what is decided behind it
abbrev at_first : {S A : Type 0} → (S → Option A) → (S → RawMessage → Next S A) → Option A → Next S A → List RawMessage → Option (Decision A)
at_first stands next w x front = stands_or w (decided_by x (λ later. decision stands next later front))

-- those later decide so
abbrev Later : {S A : Type 0} → (S → Option A) → (S → RawMessage → Next S A) → List RawMessage → Type 0
Later {S} {A} stands next ms = (later : S) (k : ℕ) → stands later ≡ None → decided_after (λ l. is_some (answer_in (decision stands next later l))) ms ≡ Some k →
    Decides (decision stands next later ms) (decision stands next later (take k ms)) k

now-one : {A : Type 0} (at : List RawMessage → Option (Decision A)) (ms : List RawMessage) (n : ℕ) (a : A) → ((l : List RawMessage) → at l ≡ Some (record { answer = a; after = 1 })) → 1 ≡ n → Behind at ms n
now-one {A} at ms n a same is = record {
  fewer = 0;
  is = sym is;
  decides = record {
    answer = a;
    decided = same ms ∙ ap (λ (k : ℕ). let o : Option (Decision A) = Some (record { answer = a; after = k }) in o) is;
    by_front = ap answer_in (same (take 0 ms));
  };
}

goes-on : {S A : Type 0} (stands : S → Option A) (next : S → RawMessage → Next S A) (later : S) (ms : List RawMessage) (n : ℕ) (w : Option A) → stands later ≡ w →
    (if is_some (answer_in (option_map one_later (stands_or w None))) then Some 1
    else option_map (λ k. k + 1) (decided_after (λ front. is_some (answer_in (option_map one_later (decision stands next later front)))) ms)) ≡ Some n →
    Later stands next ms → Behind (λ front. option_map one_later (decision stands next later front)) ms n
goes-on stands next later ms n (Some a) is h f =
    now-one (λ front. option_map one_later (decision stands next later front)) ms n a (λ l. ap (option_map one_later) (stands-decides stands next later a l is)) (let e : 1 ≡ n = cc in e)
goes-on stands next later ms n None is h f =
    let one = minus-one n (decided_after (λ front. is_some (answer_in (option_map one_later (decision stands next later front)))) ms) h in
    let same = decided-same (λ front. is_some (answer_in (option_map one_later (decision stands next later front)))) (λ front. is_some (answer_in (decision stands next later front))) ms
    (λ l. later-some (decision stands next later l)) in
    let d = f later one.0 is (sym same ∙ one.1) in
    record {
      fewer = one.0;
      is = one.2 ∙ omega arith;
      decides = subst (λ (k : ℕ). Decides (option_map one_later (decision stands next later ms)) (option_map one_later (decision stands next later (take one.0 ms))) k) (sym one.2)
          (grown (decision stands next later ms) (decision stands next later (take one.0 ms)) one.0 d);
    }

first-of : {S A : Type 0} (stands : S → Option A) (next : S → RawMessage → Next S A) (ms : List RawMessage) (n : ℕ) (w : Option A) → w ≡ None → (x : Next S A) →
    (if is_some (answer_in (at_first stands next w x [])) then Some 1 else option_map (λ k. k + 1) (decided_after (λ front. is_some (answer_in (at_first stands next w x front))) ms)) ≡ Some n →
    Later stands next ms → Behind (at_first stands next w x) ms n
first-of stands next ms n (Some a) none x h f = absurd cc
first-of stands next ms n None none (Ends a) h f = now-one (λ l. Some (record { answer = a; after = 1 })) ms n a (λ l. refl) (let e : 1 ≡ n = cc in e)
first-of stands next ms n None none (GoesOn later) h f = goes-on stands next later ms n (stands later) refl h f

pub decides : {S A : Type 0} (stands : S → Option A) (next : S → RawMessage → Next S A) (state : S) (ms : List RawMessage) (n : ℕ) → stands state ≡ None →
    decided_after (λ l. is_some (answer_in (decision stands next state l))) ms ≡ Some n →
    Decides (decision stands next state ms) (decision stands next state (take n ms)) n
decides stands next state [] n none h = absurd cc
decides stands next state (m ∷ ms) n none h =
    let b = first-of stands next ms n (stands state) none (next state m) h (λ later k e f. decides stands next later ms k e f) in
    subst (λ (k : ℕ). Decides (decision stands next state (m ∷ ms)) (decision stands next state (take k (m ∷ ms))) n) (sym b.is) b.decides

-- ---- a simple query

-- the state before the first message
abbrev pub start : SimpleState
start = record { columns = None; items = [] }

pub stands-first : (enough : Option SimpleAnswer) (a : SimpleAnswer) → answer_in (stands_or enough None) ≡ Some a → enough ≡ Some a
stands-first None a h = absurd cc
stands-first (Some x) a h = let e : x ≡ a = cc in ap (λ (y : SimpleAnswer). Some y) e

pub stands-not : (enough : Option SimpleAnswer) → answer_in (stands_or enough None) ≡ None → enough ≡ None
stands-not None h = refl
stands-not (Some x) h = absurd cc

module _ {Q R : Type 0} (course : Course Q R) (handle place : ℕ) (wanted : Option ℕ) (times : Times) (answer : SimpleAnswer) (from : ℕ)
    (begins : IsFirstTurn course.trace handle from (λ place. ⊤) times.begins) where
  -- what is to be shown, by the frame of the text and the number of the request
  abbrev OwnBy : Result (List ℕ) FrameFault → Type 0
  OwnBy f = bookings_of course.book handle place ≡ elim f as (λ _. List Booking) [
    | Ok frame ↦ record { stamp = record { owner = handle; command = place; turn = times.begins }; parts = frame ∷ [] } ∷ []
    | Err fault ↦ []
  ]

  abbrev AnswerBy : Option ℕ → Result (List ℕ) FrameFault → Type 0
  AnswerBy request f = Some answer ≡ elim f as (λ _. Option SimpleAnswer) [
    | Err fault ↦ Some (Err (Encode (Frame fault)))
    | Ok frame ↦ elim request as (λ _. Option SimpleAnswer) [ None ↦ None | Some k ↦ simple_reading wanted (reply_to course (Some k)) ]
  ]

  abbrev DecidedBy : Option ℕ → Result (List ℕ) FrameFault → ℕ → Type 0
  DecidedBy request f at = elim f as (λ _. Type 0) [
    | Err fault ↦ Unit {0}
    | Ok frame ↦ elim request as (λ _. Type 0) [
      | None ↦ ⊥
      | Some k ↦ elim (simple_decision wanted (reply_to course (Some k))) as (λ _. Type 0) [ None ↦ ⊥ | Some d ↦ d.after ≤ delivered_to course (Some k) at ]
    ]
  ]

  record By (request : Option ℕ) (f : Result (List ℕ) FrameFault) : Type 0 where
    own : OwnBy f
    answers : AnswerBy request f
    in_turn : IsFirstTurn course.trace handle times.begins (DecidedBy request f) times.answers

  abbrev book : List Booking
  book = course.book

  -- an answer that stands at once is given in the turn in which it begins
  at-once : (P : ℕ → Type 0) → times.answers ≡ times.begins → P times.answers → IsFirstTurn course.trace handle times.begins P times.answers
  at-once P same holds = record {
    made = (let m = begins.made in omega (arith, m, same));
    own = ap (λ (t : ℕ). turn_of course.trace t) same ∙ begins.own;
    no_sooner = omega (arith, same);
    holds = holds;
    first = λ earlier ge lt mine h. omega (arith, ge, lt, same);
  }

  one-own : (frame : List ℕ) (r : Request) (more : List (List ℕ)) (rest : List Request) → requests_of book handle place ≡ r ∷ rest → rest ≡ [] → r.booking.stamp.turn ≡ times.begins →
      r.booking.parts ≡ frame ∷ more → more ≡ [] → OwnBy (Ok frame)
  one-own frame r more rest are none turn parts no_more =
      sym (bookings book 0 handle place) ∙ ap (map (λ (x : Request). x.booking)) (are ∙ ap (λ (rs : List Request). r ∷ rs) none)
      ∙ ap (λ (b : Booking). b ∷ []) (stamped-so handle place times.begins frame r.booking (first-number (is_of handle place) 0 book r rest are).own turn
      (parts ∙ ap (λ (ps : List (List ℕ)). frame ∷ ps) no_more))

  reads-so : (frame : List ℕ) (r : Request) (more : List (List ℕ)) (rest : List Request) (qs : List (Asked Q R)) (at' : Point) → at'.turn ≡ times.answers → (o : Option SimpleAnswer) → simple_reading wanted [] ≡ o →
      requests_of book handle place ≡ r ∷ rest → r.booking.stamp.turn ≡ times.begins → r.booking.parts ≡ frame ∷ more →
      Unfolds course handle (record { turn = times.begins; request = Some r.number; read = 0; parts = more }) (reads_unless wanted o) rest qs (record { at = at'; answer = answer }) →
      By (Some r.number) (Ok frame)
  reads-so frame r more rest qs at' is (Some a) stands are turn parts (none, told, whole, given) =
      let k = r.number in
      let enough : has_enough wanted start ≡ Some a = stands-first (has_enough wanted start) a stands in
      let decision_is = stands-decides (has_enough wanted) simple_next start a (reply_to course (Some k)) enough in
      let at : times.answers ≡ times.begins = sym is ∙ ap (λ (g : Given SimpleAnswer). g.at.turn) given in
      record {
        own = one-own frame r more rest are none turn parts whole;
        answers = ap (λ (g : Given SimpleAnswer). Some g.answer) given ∙ sym (ap (λ (o : Option (Decision SimpleAnswer)). answer_in o) decision_is);
        in_turn = at-once (DecidedBy (Some k) (Ok frame)) at
            (subst (λ (o : Option (Decision SimpleAnswer)). elim o as (λ _. Type 0) [ None ↦ ⊥ | Some d ↦ d.after ≤ delivered_to course (Some k) times.answers ]) (sym decision_is) (omega arith));
      }
  reads-so frame r more rest qs at' is None stands are turn parts (n, decided, at, first, (none, told, whole, given)) =
      let k = r.number in
      let d = decides (has_enough wanted) simple_next start (reply_to course (Some k)) n (stands-not (has_enough wanted start) stands) decided in
      let same : times.answers ≡ at = sym is ∙ ap (λ (g : Given SimpleAnswer). g.at.turn) given in
      let so : (p : ℕ) → DecidedBy (Some k) (Ok frame) p ≡ (n ≤ delivered_to course (Some k) p) =
      (λ p. ap (λ (o : Option (Decision SimpleAnswer)). elim o as (λ _. Type 0) [ None ↦ ⊥ | Some d ↦ d.after ≤ delivered_to course (Some k) p ]) d.decided) in
      record {
        own = one-own frame r more rest are none turn parts whole;
        answers = ap (λ (g : Given SimpleAnswer). Some g.answer) given ∙ ap (λ (o : Option SimpleAnswer). Some (told_or o)) d.by_front
            ∙ sym (ap (λ (o : Option (Decision SimpleAnswer)). answer_in o) d.decided);
        in_turn = subst (λ (t : ℕ). IsFirstTurn course.trace handle times.begins (DecidedBy (Some k) (Ok frame)) t) (sym same) (record {
          made = first.made;
          own = first.own;
          no_sooner = first.no_sooner;
          holds = subst (λ (X : Type 0). X) (sym (so at)) (let h = first.holds in omega (arith, h));
          first = λ earlier ge lt mine h. first.first earlier ge lt mine (let g = subst (λ (X : Type 0). X) (so earlier) h in omega (arith, g));
        });
      }

  asks-so : (former at' : Point) → at'.turn ≡ times.answers → (f : Result (List ℕ) FrameFault) (requests : List Request) (qs : List (Asked Q R)) → requests_of book handle place ≡ requests →
      Unfolds course handle (begun_in former times.begins) (asks_by wanted f) requests qs (record { at = at'; answer = answer }) → By (request_of book handle place) f
  asks-so former at' is (Err fault) requests qs are (none, told, whole, given) = record {
    own = sym (bookings book 0 handle place) ∙ ap (map (λ (x : Request). x.booking)) (are ∙ none);
    answers = ap (λ (g : Given SimpleAnswer). Some g.answer) given;
    in_turn = at-once (λ p. Unit {0}) (sym is ∙ ap (λ (g : Given SimpleAnswer). g.at.turn) given) tt;
  }
  asks-so former at' is (Ok frame) [] qs are h = absurd h
  asks-so former at' is (Ok frame) (r ∷ rest) qs are (whole, turn, more, parts, h) =
      subst (λ (request : Option ℕ). By request (Ok frame)) (sym (request-is book handle place r rest are))
      (reads-so frame r more rest qs at' is (simple_reading wanted []) refl are turn parts h)

pub as-before : {Q R : Type 0} (course : Course Q R) (handle place : ℕ) (text : List ℕ) (wanted : Option ℕ) (times : Times) (answer : SimpleAnswer) (from : ℕ) →
    IsFirstTurn course.trace handle from (λ place. ⊤) times.begins → UnfoldsSimple course handle place text wanted times answer → IsAsBefore course handle place text wanted times answer
as-before {Q} {R} course handle place text wanted times answer from begins h =
    let by = asks-so {Q = Q} {R = R} course handle place wanted times answer from begins h.0 h.1.0 h.1.1 (query_frame text) (requests_of course.book handle place) (questions_of course.asked handle place) refl h.1.2 in
    record { own_request = by.own; answers = by.answers; answers_in_turn = by.in_turn }
