-- What a handle asks that is alone is no more than is foreseen of its commands.
use Rattle.std.proofs.Common.{◌≡◌, ℕ, ◌+◌, ◌-◌, ◌<◌, ◌≤◌, zero, suc, List, [], ◌∷◌, ◌++◌, length, map, drop, Bool, true, false, cond, ◌&&◌, ◌==◌, Option, Some, None, slice_get, unwrap_or, inl, inr, refl, sym, ap, subst, ◌∙◌, arith}
use Rattle.std.specs.Prelude.{filter, IsSome, ◌⊎◌, option_and_then}
use Rattle.std.specs.List.{AllByRecursion}
use Rattle.std.specs.List.Sorted.{IsNonDecreasingBy}
use Rattle.std.proofs.lemmas.Bool.{cases_lt}
use Rattle.std.proofs.lemmas.Bool.Decides.{nat_tests}
use Rattle.std.proofs.lemmas.List.{length-append, length-map}
use Rattle.std.proofs.lemmas.List.Elements.{recursion_from_All}
use Rattle.pg_spec.specs.Book.{Booking}
use Rattle.pg_spec.specs.Courses.{Asked, Course, Outcome, Request, first_reply, later_replies, numbered, questions_of, reply_to, requests_of}
use Rattle.pg_spec.specs.Meanings.{AreTold, Ending, Meaning}
use Rattle.pg_spec.specs.RawMessages.{RawMessage}
use Rattle.pg_spec.specs.declared.stamps.Stamp.{Stamp}
use Rattle.pg_spec.specs.Turns.{entry_at}
use Rattle.pg_spec.proofs.GroupLaws.{AreFronts}
use Rattle.pg_desk.specs.History.{IsFrontOf}
use Rattle.pg_promises.specs.Sent.{AreBegun, AskedInOrder, HasEnded, InScriptOrder, IsUnderWay, asked_of, outcome_in, parts_of}
use Rattle.pg_tool.proofs.Foreseen.{foreseen}
use Rattle.pg_tool.proofs.Foreseeing.{HaveCome, Within, questions, told-append, within}

-- these are in order, and those of a handle
module _ {X : Type 0} (stamp : X → Stamp) (handle end : ℕ) where
  -- From this command on, and each before the end.
  abbrev pub Rise : ℕ → List X → Type 0
  Rise from [] = Unit {0}
  Rise from (x ∷ xs) = ((stamp x).owner ≡ handle) × (from ≤ (stamp x).command) × ((stamp x).command < end) × Rise (stamp x).command xs

  -- it is of this command
  abbrev pub of : ℕ → X → Bool
  of command x = (stamp x).owner == handle && (stamp x).command == command

  of-own : (command : ℕ) (x : X) → (stamp x).owner ≡ handle → (stamp x).command ≡ command → of command x ≡ true
  of-own command x o c = grind (arith, nat_tests, o, c)

  of-later : (command : ℕ) (x : X) → command < (stamp x).command → of command x ≡ false
  of-later command x lt = grind (arith, nat_tests, lt)

  of-former : (command : ℕ) (x : X) → (stamp x).command < command → of command x ≡ false
  of-former command x lt = grind (arith, nat_tests, lt)

  pass : (test : X → Bool) (x : X) (xs : List X) → test x ≡ true → filter test (x ∷ xs) ≡ x ∷ filter test xs
  pass test x xs is = ap (λ (b : Bool). cond b (x ∷ filter test xs) (filter test xs)) is

  fail : (test : X → Bool) (x : X) (xs : List X) → test x ≡ false → filter test (x ∷ xs) ≡ filter test xs
  fail test x xs is = ap (λ (b : Bool). cond b (x ∷ filter test xs) (filter test xs)) is

  -- where all are of later commands, none is of this
  none-of : (command from : ℕ) (xs : List X) → command < from → Rise from xs → filter (of command) xs ≡ []
  none-of command from [] lt h = refl
  none-of command from (x ∷ xs) lt h =
      let above : command < (stamp x).command = omega (arith, lt, h.1) in
      fail (of command) x xs (of-later command x above) ∙ none-of command (stamp x).command xs above h.3

  -- where none is of any, there is none
  no-more : (from : ℕ) (xs : List X) → Rise from xs → ((command : ℕ) → from ≤ command → filter (of command) xs ≡ []) → length xs ≡ 0
  no-more from [] h none = refl
  no-more from (x ∷ xs) h none =
      absurd (let no : x ∷ filter (of (stamp x).command) xs ≡ [] = sym (pass (of (stamp x).command) x xs (of-own (stamp x).command x h.0 refl)) ∙ none (stamp x).command h.1 in cc)

  -- those of the first command, and those behind it
  pub record Cut (from : ℕ) (xs : List X) : Type 0 where
    pub own : List X
    pub later : List X
    pub is : xs ≡ own ++ later
    pub rise : Rise (suc from) later
    pub here : filter (of from) xs ≡ own
    pub behind : (command : ℕ) → from < command → filter (of command) xs ≡ filter (of command) later

  pub cut : (from : ℕ) (xs : List X) → Rise from xs → Cut from xs
  cut from [] h = record { own = []; later = []; is = refl; rise = tt; here = refl; behind = λ command lt. refl }
  cut from (x ∷ xs) h = by (cases_lt from (stamp x).command) (cut from xs)
    where
      by : (from < (stamp x).command) ⊎ ((stamp x).command ≤ from) → (Rise from xs → Cut from xs) → Cut from (x ∷ xs)
      by (inl lt) rest =
          let rises : Rise (suc from) (x ∷ xs) = (h.0, omega (arith, lt), h.2, h.3) in
          record { own = []; later = x ∷ xs; is = refl; rise = rises; here = none-of from (suc from) (x ∷ xs) (omega arith) rises; behind = λ command above. refl }
      by (inr le) rest =
          let same : (stamp x).command ≡ from = omega (arith, le, h.1) in
          let c = rest (subst (λ (n : ℕ). Rise n xs) same h.3) in
          record {
            own = x ∷ c.own;
            later = c.later;
            is = ap (λ (l : List X). x ∷ l) c.is;
            rise = c.rise;
            here = pass (of from) x xs (of-own from x h.0 same) ∙ ap (λ (l : List X). x ∷ l) c.here;
            behind = λ command above. fail (of command) x xs (of-former command x (omega (arith, same, above))) ∙ c.behind command above;
          }

  -- each is the handle's, of a command before the end
  abbrev pub AreOf : List X → Type 0
  AreOf xs = AllByRecursion (λ x. ((stamp x).owner ≡ handle) × ((stamp x).command < end)) xs

  tail-sorted : (x : X) (xs : List X) → IsNonDecreasingBy (λ y. (stamp y).command) (x ∷ xs) → IsNonDecreasingBy (λ y. (stamp y).command) xs
  tail-sorted x xs h i j d le lt = h (suc i) (suc j) d (omega (arith, le)) (omega (arith, lt))

  rise-behind : (x : X) (xs : List X) → AreOf xs → IsNonDecreasingBy (λ y. (stamp y).command) (x ∷ xs) → Rise (stamp x).command xs
  rise-behind x [] known sorted = tt
  rise-behind x (y ∷ ys) known sorted = (known.0.0, sorted 0 1 x (omega arith) (omega arith), known.0.1, rise-behind y ys known.1 (tail-sorted x (y ∷ ys) sorted))

  pub rise-all : (xs : List X) → AreOf xs → IsNonDecreasingBy (λ y. (stamp y).command) xs → Rise 0 xs
  rise-all [] known sorted = tt
  rise-all (x ∷ xs) known sorted = (known.0.0, omega arith, known.0.1, rise-behind x xs known.1 sorted)

  pub all-own : (xs : List X) → AreOf xs → filter (λ x. (stamp x).owner == handle) xs ≡ xs
  all-own [] known = refl
  all-own (x ∷ xs) known =
      let is : ((stamp x).owner == handle) ≡ true = grind (arith, nat_tests, known.0.0) in
      pass (λ (y : X). (stamp y).owner == handle) x xs is ∙ ap (λ (l : List X). x ∷ l) (all-own xs known.1)

abbrev pub booked : Request → Stamp
booked r = r.booking.stamp

abbrev pub asks : {Q R : Type 0} → Asked Q R → Stamp
asks a = a.stamp

-- as bookings rise, their requests do
rise-numbered : (handle end from n : ℕ) (book : List Booking) → Rise (λ b. b.stamp) handle end from book → Rise booked handle end from (numbered n book)
rise-numbered handle end from n [] h = tt
rise-numbered handle end from n (b ∷ book) h = (h.0, h.1, h.2, rise-numbered handle end b.stamp.command (n + 1) book h.3)

-- ---- replies as far as they came

pub come-cut : (xs ys all : List (List RawMessage)) → HaveCome (xs ++ ys) all → HaveCome xs all × HaveCome ys (drop (length xs) all)
come-cut [] ys all h = (tt, h)
come-cut (x ∷ xs) ys [] h =
    let r = come-cut xs ys [] h.1 in
    ((h.0, r.0), subst (λ (l : List (List RawMessage)). HaveCome ys l) (none (length xs)) r.1)
  where
    none : (n : ℕ) → ◌≡◌ {A = List (List RawMessage)} (drop n []) []
    none zero = refl
    none (suc n) = refl
come-cut (x ∷ xs) ys (z ∷ zs) h =
    let r = come-cut xs ys zs h.1 in
    ((h.0, r.0), r.1)

-- ---- by the commands of a script

-- what is foreseen of a command
abbrev pub foreseen_of : {C A E Q R : Type 0} → Meaning C A E Q R → (before : List Q) → (replies : List (List RawMessage)) → E → C → Outcome Q (Ending A E)
foreseen_of meaning before replies own c = foreseen meaning.tells (meaning.asks own c) before replies []

-- By these replies to their requests, no more requests are foreseen of these commands.
abbrev pub AsksFew : {C A E Q R : Type 0} → Meaning C A E Q R → (before : List Q) → (replies : List (List RawMessage)) → E → List C → ℕ → Type 0
AsksFew meaning before replies own [] most = Unit {0}
AsksFew {C} {A} {E} {Q} {R} meaning before replies own (c ∷ cs) most =
    (length (foreseen_of meaning before replies own c).requests ≤ most)
    × ((ending : Ending A E) → (foreseen_of meaning before replies own c).answer ≡ Some ending →
    AsksFew meaning (before ++ (foreseen_of meaning before replies own c).asked) (drop (length (foreseen_of meaning before replies own c).requests) replies) ending.own cs
    (most - length (foreseen_of meaning before replies own c).requests))

begun-few : (begun all : List (List (List ℕ))) → AreBegun begun all → length begun ≤ length all
begun-few [] all h = omega arith
begun-few (x ∷ xs) [] h = absurd h
begun-few (x ∷ xs) (y ∷ ys) h = let r = begun-few xs ys h.1 in omega (arith, r)

module _ {C A E Q R : Type 0} (meaning : Meaning C A E Q R) (course : Course Q R) (handle end : ℕ) where
  abbrev reply : Request → List RawMessage
  reply r = reply_to course (Some r.number)

  -- of a command, of which these are the requests and questions
  module _ (c : C) (place : ℕ) (own : E) (before : List Q) (rs : List Request) (qs : List (Asked Q R)) (replies : List (List RawMessage))
      (mine : requests_of course.book handle place ≡ rs) (meant : questions_of course.asked handle place ≡ qs)
      (come : HaveCome (map reply rs) replies) (told : AreTold meaning.tells before qs) where
    abbrev so_far : Outcome Q (Ending A E)
    so_far = outcome_in meaning course handle place own c

    one : asked_of course handle place ≡ so_far.asked → Within so_far (foreseen_of meaning before replies own c)
    one are = within meaning.tells (meaning.asks own c) before (questions_of course.asked handle place) (map reply (requests_of course.book handle place)) replies [] []
        (subst (λ (l : List (Asked Q R)). AreTold meaning.tells before l) (sym meant) told)
        (subst (λ (l : List Request). HaveCome (map reply l) replies) (sym mine) come) ([], refl) are

    many : length (parts_of course handle place) ≡ length rs
    many = length-map (requests_of course.book handle place) (λ (r : Request). r.booking.parts) ∙ ap (λ (l : List Request). length l) mine

    way-few : IsUnderWay course handle place so_far → length rs ≤ length (foreseen_of meaning before replies own c).requests
    way-few way =
        let w = (one way.asked).requests in
        let b = begun-few (parts_of course handle place) so_far.requests way.requests in
        omega (arith, w, b, many)

    ended-same : (ending : Ending A E) → HasEnded course handle place so_far ending →
        ((foreseen_of meaning before replies own c).answer ≡ Some ending) × ((foreseen_of meaning before replies own c).asked ≡ questions qs) × (length (foreseen_of meaning before replies own c).requests ≡ length rs)
    ended-same ending h =
        let w = (one h.asked).answered ending h.answered in
        (w.0, w.1 ∙ sym h.asked ∙ ap (λ (l : List (Asked Q R)). questions l) meant, w.2 ∙ sym (ap length h.requests) ∙ many)

  -- of the rest of a script, of which these are the requests and questions
  pub few : (cs : List C) (place : ℕ) (own : E) (before : List Q) (rs : List Request) (qs : List (Asked Q R)) (replies : List (List RawMessage)) (most : ℕ) →
      place + length cs ≡ end →
      ((j : ℕ) → place ≤ j → requests_of course.book handle j ≡ filter (of booked handle end j) rs) →
      ((j : ℕ) → place ≤ j → questions_of course.asked handle j ≡ filter (of asks handle end j) qs) →
      Rise booked handle end place rs → Rise asks handle end place qs →
      HaveCome (map reply rs) replies → AreTold meaning.tells before qs →
      AskedInOrder meaning course handle place own cs → AsksFew meaning before replies own cs most → length rs ≤ most
  few [] place own before [] qs replies most ends mine meant rise rises come told order asks = omega arith
  few [] place own before (r ∷ rs) qs replies most ends mine meant rise rises come told order asks = absurd (omega (arith, ends, rise.1, rise.2))
  few (c ∷ cs) place own before rs qs replies most ends mine meant rise rises come told order asks_few = by order (few cs (place + 1))
    where
      x : Cut booked handle end place rs
      x = cut booked handle end place rs rise

      y : Cut asks handle end place qs
      y = cut asks handle end place qs rises

      next : place + 1 ≡ suc place
      next = omega arith

      both : map reply rs ≡ map reply x.own ++ map reply x.later
      both = ap (map reply) x.is ∙ map-append x.own x.later
        where
          map-append : (rs others : List Request) → map reply (rs ++ others) ≡ map reply rs ++ map reply others
          map-append [] others = refl
          map-append (r ∷ rs) others = ap (λ (l : List (List RawMessage)). reply r ∷ l) (map-append rs others)

      came : HaveCome (map reply x.own) replies × HaveCome (map reply x.later) (drop (length (map reply x.own)) replies)
      came = come-cut (map reply x.own) (map reply x.later) replies (subst (λ (l : List (List RawMessage)). HaveCome l replies) both come)

      tells : AreTold meaning.tells before y.own × AreTold meaning.tells (before ++ questions y.own) y.later
      tells = told-append meaning.tells before y.own y.later (subst (λ (l : List (Asked Q R)). AreTold meaning.tells before l) y.is told)

      mine-own : requests_of course.book handle place ≡ x.own
      mine-own = mine place (omega arith) ∙ x.here

      meant-own : questions_of course.asked handle place ≡ y.own
      meant-own = meant place (omega arith) ∙ y.here

      count : length rs ≡ length x.own + length x.later
      count = ap length x.is ∙ length-append x.own x.later

      mine-later : (j : ℕ) → place + 1 ≤ j → requests_of course.book handle j ≡ filter (of booked handle end j) x.later
      mine-later j le = mine j (omega (arith, le)) ∙ x.behind j (omega (arith, le))

      meant-later : (j : ℕ) → place + 1 ≤ j → questions_of course.asked handle j ≡ filter (of asks handle end j) y.later
      meant-later j le = meant j (omega (arith, le)) ∙ y.behind j (omega (arith, le))

      by : IsUnderWay course handle place (outcome_in meaning course handle place own c)
          ⊎ ((ending : Ending A E) × HasEnded course handle place (outcome_in meaning course handle place own c) ending × AskedInOrder meaning course handle (place + 1) ending.own cs) →
          ((own : E) (before : List Q) (rs : List Request) (qs : List (Asked Q R)) (replies : List (List RawMessage)) (most : ℕ) →
          place + 1 + length cs ≡ end →
          ((j : ℕ) → place + 1 ≤ j → requests_of course.book handle j ≡ filter (of booked handle end j) rs) →
          ((j : ℕ) → place + 1 ≤ j → questions_of course.asked handle j ≡ filter (of asks handle end j) qs) →
          Rise booked handle end (place + 1) rs → Rise asks handle end (place + 1) qs →
          HaveCome (map reply rs) replies → AreTold meaning.tells before qs →
          AskedInOrder meaning course handle (place + 1) own cs → AsksFew meaning before replies own cs most → length rs ≤ most) →
          length rs ≤ most
      by (inl way) later =
          let none = no-more booked handle end (suc place) x.later x.rise
          (λ j le. sym (mine-later j (omega (arith, le))) ∙ (way.none_later j (omega (arith, le))).0) in
          let some = way-few c place own before x.own y.own replies mine-own meant-own came.0 tells.0 way in
          omega (arith, count, none, some, asks_few.0)
      by (inr (ending, ended, rest)) later =
          let s = ended-same c place own before x.own y.own replies mine-own meant-own came.0 tells.0 ending ended in
          let behind : length (map reply x.own) ≡ length (foreseen_of meaning before replies own c).requests = length-map x.own reply ∙ sym s.2 in
          let less = later ending.own (before ++ (foreseen_of meaning before replies own c).asked) x.later y.later (drop (length (foreseen_of meaning before replies own c).requests) replies)
          (most - length (foreseen_of meaning before replies own c).requests) (omega (arith, ends)) mine-later meant-later
          (subst (λ (n : ℕ). Rise booked handle end n x.later) (sym next) x.rise) (subst (λ (n : ℕ). Rise asks handle end n y.later) (sym next) y.rise)
          (subst (λ (n : ℕ). HaveCome (map reply x.later) (drop n replies)) behind came.1)
          (subst (λ (l : List Q). AreTold meaning.tells (before ++ l) y.later) (sym s.1) tells.1)
          rest (asks_few.1 ending s.0) in
          omega (arith, count, s.2, asks_few.0, less)

-- ---- one handle alone

-- a command of one script is handle 0's
known-alone : {C : Type 0} (cs : List C) (s : Stamp) → IsSome (entry_at (cs ∷ []) s.owner s.command) → (s.owner ≡ 0) × (s.command < length cs)
known-alone {C} cs s some = by s.owner refl some
  where
    within : (cs : List C) (k : ℕ) → IsSome (slice_get cs k) → k < length cs
    within [] k none = absurd (let no : false ≡ true = none in cc)
    within (c ∷ cs) zero h = omega arith
    within (c ∷ cs) (suc k) h = let r = within cs k h in omega (arith, r)

    by : (n : ℕ) → s.owner ≡ n → IsSome (option_and_then (λ row. slice_get row s.command) (slice_get (cs ∷ []) n)) → (s.owner ≡ 0) × (s.command < length cs)
    by zero is h = (is, within cs s.command h)
    by (suc n) is h = absurd (let no : false ≡ true = h in cc)

known-all : {C X : Type 0} (stamp : X → Stamp) (cs : List C) (xs : List X) → AllByRecursion (λ x. IsSome (entry_at (cs ∷ []) (stamp x).owner (stamp x).command)) xs → AreOf stamp 0 (length cs) xs
known-all stamp cs [] h = tt
known-all stamp cs (x ∷ xs) h = (known-alone cs (stamp x) h.0, known-all stamp cs xs h.1)

module _ {C A E Q R : Type 0} (meaning : Meaning C A E Q R) (cs : List C) (course : Course Q R) (order : InScriptOrder meaning (cs ∷ []) course)
    (all : List (List RawMessage)) (fronts : AreFronts course.replies all) where
  first-at : (n : ℕ) (xs : List (List RawMessage)) → first_reply (drop n xs) ≡ unwrap_or (slice_get xs n) []
  first-at zero [] = refl
  first-at (suc n) [] = refl
  first-at zero (x ∷ xs) = refl
  first-at (suc n) (x ∷ xs) = first-at n xs

  later-at : (n : ℕ) (xs : List (List RawMessage)) → later_replies (drop n xs) ≡ drop (suc n) xs
  later-at zero [] = refl
  later-at (suc n) [] = refl
  later-at zero (x ∷ xs) = refl
  later-at (suc n) (x ∷ xs) = later-at n xs

  came-at : (n : ℕ) → IsFrontOf (reply_to course (Some n)) (first_reply (drop n all))
  came-at n = by (slice_get course.replies n) refl
    where
      by : (o : Option (List RawMessage)) → slice_get course.replies n ≡ o → IsFrontOf (unwrap_or o []) (first_reply (drop n all))
      by None is = (first_reply (drop n all), refl)
      by (Some piece) is =
          let f = fronts n piece is in
          (f.0, sym (first-at n all ∙ ap (λ (o : Option (List RawMessage)). unwrap_or o []) f.1))

  have-come : (n : ℕ) (book : List Booking) → HaveCome (map (λ (r : Request). reply_to course (Some r.number)) (numbered n book)) (drop n all)
  have-come n [] = tt
  have-come n (b ∷ book) =
      let next : n + 1 ≡ suc n = omega arith in (
        came-at n,
        subst (λ (l : List (List RawMessage)). HaveCome (map (λ (r : Request). reply_to course (Some r.number)) (numbered (n + 1) book)) l)
            (ap (λ (k : ℕ). drop k all) next ∙ sym (later-at n all)) (have-come (n + 1) book),
      )

  length-numbered : (n : ℕ) (book : List Booking) → length (numbered n book) ≡ length book
  length-numbered n [] = refl
  length-numbered n (b ∷ book) = ap suc (length-numbered (n + 1) book)

  owned : AreOf (λ (b : Booking). b.stamp) 0 (length cs) course.book
  owned = known-all (λ b. b.stamp) cs course.book (recursion_from_All (λ (b : Booking). IsSome (entry_at (cs ∷ []) b.stamp.owner b.stamp.command)) course.book order.owners)

  owns : AreOf (asks {Q = Q} {R = R}) 0 (length cs) course.asked
  owns = known-all asks cs course.asked (recursion_from_All (λ (a : Asked Q R). IsSome (entry_at (cs ∷ []) a.stamp.owner a.stamp.command)) course.asked order.askers)

  -- Its requests are no more than are foreseen of its script, whose replies are these.
  pub few-alone : (most : ℕ) → AsksFew meaning [] all meaning.begins cs most → length course.book ≤ most
  few-alone most foreseen_so =
      let sorted = subst (λ (l : List Booking). IsNonDecreasingBy (λ b. b.stamp.command) l) (all-own (λ (b : Booking). b.stamp) 0 (length cs) course.book owned) (order.in_order 0) in
      let sorts = subst (λ (l : List (Asked Q R)). IsNonDecreasingBy (λ a. a.stamp.command) l) (all-own asks 0 (length cs) course.asked owns) (order.asked_in_order 0) in
      let less = few meaning course 0 (length cs) cs 0 meaning.begins [] (numbered 0 course.book) course.asked all most (omega arith)
      (λ j le. refl) (λ j le. refl)
      (rise-numbered 0 (length cs) 0 0 course.book (rise-all (λ (b : Booking). b.stamp) 0 (length cs) course.book owned sorted))
      (rise-all asks 0 (length cs) course.asked owns sorts)
      (have-come 0 course.book) order.told (order.each 0 cs refl) foreseen_so in
      omega (arith, less, length-numbered 0 course.book)
