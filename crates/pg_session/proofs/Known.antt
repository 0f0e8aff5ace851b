-- Books and lists of questions, as they grow.
use Rattle.std.proofs.Common.{◌≡◌, ℕ, zero, suc, ◌+◌, ◌-◌, ◌<◌, ◌≤◌, List, [], ◌∷◌, ◌++◌, length, map, Option, option_map, unwrap_or, refl, sym, ap, subst, ◌∙◌, arith, append_assoc}
use Rattle.std.specs.Prelude.{IsSome, slice_index_or}
use Rattle.std.proofs.lemmas.List.{append-nil}
use Rattle.std.proofs.lemmas.List.Elements.{All-nil, All-push, All-weaker}
use Rattle.std.proofs.lemmas.List.Sorted.{IsNonDecreasingBy-push, IsNonDecreasingBy-short}
use Rattle.pg_spec.specs.Book.{Booking}
use Rattle.pg_spec.specs.Turns.{entry_at}
use Rattle.pg_query.specs.declared.desk_call.DeskCall.{DeskCall}
use Rattle.pg_query.specs.declared.desk_call.Reply.{Reply}
use Rattle.pg_spec.specs.Courses.{Asked, Request, Who}
use Rattle.pg_spec.specs.Meanings.{AreTold, booked_in}
use Rattle.pg_spec.specs.declared.stamps.Stamp.{Stamp}
use Rattle.pg_core.specs.Deeds.{Addition}
use Rattle.pg_core.specs.Trails.{AreNumbered, AreToldIn, with_all, with_part}
use Rattle.pg_core.proofs.Extended.{all-length}
use Rattle.pg_session.proofs.Order.Traces.{in_front}
use Rattle.pg_session.specs.Kept.{AreKnown}

module _ {C X : Type 0} (scripts : List (List C)) (owner command turn : X → ℕ) where
  pub none-known : (n : ℕ) → AreKnown scripts owner command turn n []
  none-known n = record { known = All-nil _; in_order = IsNonDecreasingBy-short turn [] (omega arith); past = All-nil (λ x. turn x < n) }

  pub known-later : (n m : ℕ) (xs : List X) → n ≤ m → AreKnown scripts owner command turn n xs → AreKnown scripts owner command turn m xs
  known-later n m xs le h = record {
    known = h.known;
    in_order = h.in_order;
    past = All-weaker (λ x. turn x < n) (λ x. turn x < m) (λ x lt. omega (arith, lt, le)) xs h.past;
  }

  known-push : (n : ℕ) (xs : List X) (y : X) → IsSome (entry_at scripts (owner y) (command y)) → turn y ≡ n → AreKnown scripts owner command turn (suc n) xs → AreKnown scripts owner command turn (suc n) (xs ++ y ∷ [])
  known-push n xs y some is h = record {
    known = All-push (λ x. IsSome (entry_at scripts (owner x) (command x))) xs y h.known some;
    in_order = IsNonDecreasingBy-push turn xs y h.in_order (λ d stands. let lt = h.past (length xs - 1) d (omega (arith, stands)) in omega (arith, lt, is));
    past = All-push (λ x. turn x < suc n) xs y h.past (omega (arith, is));
  }

  -- each of them is a command's, of this turn
  abbrev pub AreNew : (n : ℕ) → List X → Type 0
  AreNew n [] = Unit {0}
  AreNew n (y ∷ ys) = IsSome (entry_at scripts (owner y) (command y)) × (turn y ≡ n) × AreNew n ys

  known-more : (n : ℕ) (xs ys : List X) → AreNew n ys → AreKnown scripts owner command turn (suc n) xs → AreKnown scripts owner command turn (suc n) (xs ++ ys)
  known-more n xs [] new h = subst (λ (l : List X). AreKnown scripts owner command turn (suc n) l) (sym (append-nil xs)) h
  known-more n xs (y ∷ ys) new h =
      subst (λ (l : List X). AreKnown scripts owner command turn (suc n) l) (append_assoc xs (y ∷ []) ys)
      (known-more n (xs ++ y ∷ []) ys new.2 (known-push n xs y new.0 new.1 h))

  pub known-grows : (n : ℕ) (xs ys : List X) → AreNew n ys → AreKnown scripts owner command turn n xs → AreKnown scripts owner command turn (suc n) (xs ++ ys)
  known-grows n xs ys new h = known-more n xs ys new (known-later n (suc n) xs (omega arith) h)

-- ---- the bookings of a turn, and its questions

pub new-bookings : {C : Type 0} (scripts : List (List C)) (who : Who) (turn n : ℕ) (rs : List Request) → IsSome (entry_at scripts who.handle who.command) → AreNumbered who turn n rs →
    AreNew scripts (λ (b : Booking). b.stamp.owner) (λ b. b.stamp.command) (λ b. b.stamp.turn) turn (map (λ r. r.booking) rs)
new-bookings scripts who turn n [] some h = tt
new-bookings scripts who turn n (r ∷ rs) some (is, stamp, h) =
    (subst (λ s. IsSome (entry_at scripts s.owner s.command)) (sym stamp) some, ap (λ s. s.turn) stamp, new-bookings scripts who turn (n + 1) rs some h)

pub new-questions : {C : Type 0} (scripts : List (List C)) (tells : List DeskCall → DeskCall → Reply) (who : Who) (turn : ℕ) (before : List DeskCall) (qs : List (Asked DeskCall Reply)) → IsSome (entry_at scripts who.handle who.command) → AreToldIn tells who turn before qs →
    AreNew scripts (λ (a : Asked DeskCall Reply). a.stamp.owner) (λ a. a.stamp.command) (λ a. a.stamp.turn) turn qs
new-questions scripts tells who turn before [] some h = tt
new-questions scripts tells who turn before (a ∷ qs) some (stamp, reply, h) =
    (subst (λ s. IsSome (entry_at scripts s.owner s.command)) (sym stamp) some, ap (λ s. s.turn) stamp, new-questions scripts tells who turn (before ++ a.question ∷ []) qs some h)

told-alone : (tells : List DeskCall → DeskCall → Reply) (who : Who) (turn : ℕ) (before : List DeskCall) (qs : List (Asked DeskCall Reply)) → AreToldIn tells who turn before qs → AreTold tells before qs
told-alone tells who turn before [] h = tt
told-alone tells who turn before (a ∷ qs) (stamp, reply, h) = (reply, told-alone tells who turn (before ++ a.question ∷ []) qs h)

-- what is told stays so where more is asked
pub told-more : (tells : List DeskCall → DeskCall → Reply) (who : Who) (turn : ℕ) (before : List DeskCall) (asked qs : List (Asked DeskCall Reply)) → AreTold tells before asked → AreToldIn tells who turn (before ++ map (λ a. a.question) asked) qs →
    AreTold tells before (asked ++ qs)
told-more tells who turn before [] qs h k = told-alone tells who turn before qs (subst (λ (l : List DeskCall). AreToldIn tells who turn l qs) (append-nil before) k)
told-more tells who turn before (a ∷ asked) qs (reply, h) k =
    (reply, told-more tells who turn (before ++ a.question ∷ []) asked qs h (subst (λ (l : List DeskCall). AreToldIn tells who turn l qs) (sym (append_assoc before (a.question ∷ []) (map (λ a. a.question) asked))) k))

-- ---- the turns of bookings

pub booked-before : (xs ys : List Booking) (k : ℕ) → k < length xs → booked_in (xs ++ ys) k ≡ booked_in xs k
booked-before xs ys k lt = ap (λ (o : Option Booking). unwrap_or (option_map (λ b. b.stamp.turn) o) 0) (in_front xs ys k lt)

pub booked-now : (who : Who) (turn n : ℕ) (xs : List Booking) (rs : List Request) (k : ℕ) → AreNumbered who turn n rs → length xs ≤ k → k < length (xs ++ map (λ r. r.booking) rs) → booked_in (xs ++ map (λ r. r.booking) rs) k ≡ turn
booked-now who turn n [] [] k h ge lt = absurd (omega (arith, lt))
booked-now who turn n [] (r ∷ rs) zero h ge lt = ap (λ s. s.turn) h.1
booked-now who turn n [] (r ∷ rs) (suc k) h ge lt = booked-now who turn (n + 1) [] rs k h.2 (omega arith) (omega (arith, lt))
booked-now who turn n (x ∷ xs) rs zero h ge lt = absurd (omega (arith, ge))
booked-now who turn n (x ∷ xs) rs (suc k) h ge lt = booked-now who turn n xs rs k h (omega (arith, ge)) (omega (arith, lt))

-- ---- parts of copies

stamp-part : (j : ℕ) (part : List ℕ) (bs : List Booking) (k : ℕ) (d : Booking) → (slice_index_or (with_part j part bs) k d).stamp ≡ (slice_index_or bs k d).stamp
stamp-part j part [] k d = refl
stamp-part zero part (b ∷ bs) zero d = refl
stamp-part zero part (b ∷ bs) (suc k) d = refl
stamp-part (suc j) part (b ∷ bs) zero d = refl
stamp-part (suc j) part (b ∷ bs) (suc k) d = stamp-part j part bs k d

stamp-all : (xs : List Addition) (bs : List Booking) (k : ℕ) (d : Booking) → (slice_index_or (with_all xs bs) k d).stamp ≡ (slice_index_or bs k d).stamp
stamp-all [] bs k d = refl
stamp-all (a ∷ xs) bs k d = stamp-all xs (with_part a.request a.part bs) k d ∙ stamp-part a.request a.part bs k d

-- a book is as known with more parts
pub known-parts : {C : Type 0} (scripts : List (List C)) (n : ℕ) (xs : List Addition) (bs : List Booking) → AreKnown scripts (λ (b : Booking). b.stamp.owner) (λ b. b.stamp.command) (λ b. b.stamp.turn) n bs →
    AreKnown scripts (λ (b : Booking). b.stamp.owner) (λ b. b.stamp.command) (λ b. b.stamp.turn) n (with_all xs bs)
known-parts {C} scripts n xs bs h = record {
  known = λ k d lt. subst (λ (s : Stamp). IsSome (entry_at scripts s.owner s.command)) (sym (stamp-all xs bs k d)) (h.known k d (let e = all-length xs bs in omega (arith, e, lt)));
  in_order = λ i j d le lt.
      (let a = ap (λ (s : Stamp). s.turn) (stamp-all xs bs i d) in let b = ap (λ (s : Stamp). s.turn) (stamp-all xs bs j d) in
      let c = h.in_order i j d le (let e = all-length xs bs in omega (arith, e, lt)) in omega (arith, a, b, c));
  past = λ k d lt. (let a = ap (λ (s : Stamp). s.turn) (stamp-all xs bs k d) in let c = h.past k d (let e = all-length xs bs in omega (arith, e, lt)) in omega (arith, a, c));
}

turn-part : (j : ℕ) (part : List ℕ) (bs : List Booking) (k : ℕ) → booked_in (with_part j part bs) k ≡ booked_in bs k
turn-part j part [] k = refl
turn-part zero part (b ∷ bs) zero = refl
turn-part zero part (b ∷ bs) (suc k) = refl
turn-part (suc j) part (b ∷ bs) zero = refl
turn-part (suc j) part (b ∷ bs) (suc k) = turn-part j part bs k

pub booked-parts : (xs : List Addition) (bs : List Booking) (k : ℕ) → booked_in (with_all xs bs) k ≡ booked_in bs k
booked-parts [] bs k = refl
booked-parts (a ∷ xs) bs k = booked-parts xs (with_part a.request a.part bs) k ∙ turn-part a.request a.part bs k
