-- Nothing of a reply came before its request was booked.
use Rattle.std.proofs.Common.{◌≡◌, ◌⊎◌, inl, inr, ℕ, zero, suc, ◌+◌, ◌-◌, ◌<◌, ◌≤◌, List, [], ◌∷◌, length, take, Bool, true, false, cond, refl, sym, ap, ◌∙◌, arith, sum_by}
use Rattle.std.proofs.lemmas.Bool.{cases_lt}
use Rattle.std.proofs.lemmas.List.{length-append}
use Rattle.std.proofs.lemmas.List.Sums.{sum_by-cons}
use Rattle.std.specs.List.{onto_first}
use Rattle.pg_spec.specs.RawMessages.{RawMessage, cut_after, groups, is_ready, sync_of}
use Rattle.pg_spec.specs.Turns.{delivered_before}
use Rattle.pg_spec.proofs.GroupLaws.{before, piece}
use Rattle.pg_desk.specs.History.{IsFrontOf, State, given, joined, received}
use Rattle.pg_query.specs.declared.desk_call.DeskCall.{DeskCall}
use Rattle.pg_query.specs.declared.desk_call.Reply.{Reply}
use Rattle.pg_spec.specs.Courses.{Course}
use Rattle.pg_core.specs.Lists.{came_of}
use Rattle.pg_core.specs.Trails.{CameBy}

first-onto : {X : Type 0} (x : X) (pieces : List (List X)) → piece 0 (onto_first x pieces) ≡ x ∷ piece 0 pieces
first-onto x [] = refl
first-onto x (p ∷ ps) = refl

later-onto : {X : Type 0} (k : ℕ) (x : X) (pieces : List (List X)) → piece (suc k) (onto_first x pieces) ≡ piece (suc k) pieces
later-onto k x [] = refl
later-onto k x (p ∷ ps) = refl

before-onto : {X : Type 0} (k : ℕ) (x : X) (pieces : List (List X)) → suc (before (suc k) pieces) ≤ before (suc k) (onto_first x pieces)
before-onto {X} k x [] =
    let a : before (suc k) ((x ∷ []) ∷ []) ≡ length (x ∷ []) + before k [] = sum_by-cons (λ (l : List X). length l) (x ∷ []) (take k []) in
    let b : ◌≡◌ {A = ℕ} (before {X = X} (suc k) []) 0 = refl in
    omega (arith, a, b)
before-onto {X} k x (p ∷ ps) =
    let a : before (suc k) ((x ∷ p) ∷ ps) ≡ length (x ∷ p) + before k ps = sum_by-cons (λ (l : List X). length l) (x ∷ p) (take k ps) in
    let b : before (suc k) (p ∷ ps) ≡ length p + before k ps = sum_by-cons (λ (l : List X). length l) p (take k ps) in
    omega (arith, a, b)

-- where no piece stands, all items stand before
no-piece : {X : Type 0} (p : X → Bool) (xs : List X) (k : ℕ) → piece k (cut_after p xs) ≡ [] → length xs ≤ before k (cut_after p xs)
no-piece p [] k e = omega arith
no-piece {X} p (x ∷ xs) k e = by (p x) k (no-piece p xs) e
  where
    by : (b : Bool) (k : ℕ) → ((j : ℕ) → piece j (cut_after p xs) ≡ [] → length xs ≤ before j (cut_after p xs)) → piece k (cond b ((x ∷ []) ∷ cut_after p xs) (onto_first x (cut_after p xs))) ≡ [] →
        suc (length xs) ≤ before k (cond b ((x ∷ []) ∷ cut_after p xs) (onto_first x (cut_after p xs)))
    by true zero f e = absurd cc
    by true (suc k) f e =
        let a : before (suc k) ((x ∷ []) ∷ cut_after p xs) ≡ length (x ∷ []) + before k (cut_after p xs) = sum_by-cons (λ (l : List X). length l) (x ∷ []) (take k (cut_after p xs)) in
        let le = f k e in
        omega (arith, a, le)
    by false zero f e = let no_way : x ∷ piece 0 (cut_after p xs) ≡ [] = sym (first-onto x (cut_after p xs)) ∙ e in absurd cc
    by false (suc k) f e =
        let le = f (suc k) (sym (later-onto k x (cut_after p xs)) ∙ e) in
        let more = before-onto k x (cut_after p xs) in
        omega (arith, le, more)

take-some : {X : Type 0} (n : ℕ) (xs : List X) → take (suc n) xs ≡ [] → xs ≡ []
take-some n [] e = refl
take-some n (x ∷ xs) e = absurd cc

take-any : {X : Type 0} (m n : ℕ) (xs : List X) → m < n → take (n - m) xs ≡ [] → xs ≡ []
take-any m n xs lt e = take-some (n - m - 1) xs (ap (λ (k : ℕ). take k xs) (let same : suc (n - m - 1) ≡ n - m = omega (arith, lt) in same) ∙ e)

-- where nothing of reply k came, no more came than the replies before it
pub asked-first : (course : Course DeskCall Reply) (place k : ℕ) (s : State) (later : List RawMessage) → CameBy course place (came_of s) → IsFrontOf (received s.deliveries) (sync_of later) → course.replies ≡ groups later →
    delivered_before course.trace place ≡ length (received s.deliveries) → given k s.deliveries ≡ [] → delivered_before course.trace place ≤ sum_by length (take k course.replies)
asked-first course place k s later came front replies counted none = by (cases_lt (before k course.replies) (delivered_before course.trace place))
  where
    short : length (received s.deliveries) ≤ length (sync_of later)
    short = let e = length-append (received s.deliveries) front.0 in let f = ap length front.1 in omega (arith, e, f)

    by : (before k course.replies < delivered_before course.trace place) ⊎ (delivered_before course.trace place ≤ before k course.replies) → delivered_before course.trace place ≤ before k course.replies
    by (inr le) = le
    by (inl lt) =
        let taken : take (delivered_before course.trace place - before k course.replies) (piece k course.replies) ≡ [] = sym (came k) ∙ ap joined none in
        let empty : piece k course.replies ≡ [] = take-any (before k course.replies) (delivered_before course.trace place) (piece k course.replies) lt taken in
        let all = no-piece is_ready (sync_of later) k (ap (piece k) (sym replies) ∙ empty) in
        let same = ap (before k) replies in
        omega (arith, all, same, counted, short)
