-- To whom batches belong: by the oldest open request, by counting, and by cutting at the ends of replies.
use Rattle.std.proofs.Common.{◌≡◌, ◌≢◌, ◌<◌, ◌≤◌, ℕ, zero, suc, ◌+◌, ◌==◌, List, [], ◌∷◌, ◌++◌, length, Bool, true, false, not, ◌&&◌, ◌||◌, if◌then◌else◌, Option, Some, None, is_some, refl, sym, ◌∙◌, ap, arith, nat_lt, inl, inr}
use Rattle.std.specs.Prelude.{unwrap_or}
use Rattle.std.proofs.lemmas.Bool.Decides.{nat_tests, eqb_tells}
use Rattle.pg_spec.specs.RawMessages.{RawMessage}
use Rattle.pg_desk.specs.History.{State, Delivery, started_of, finished, given, between_ends, has_ended, is_open, first_from, oldest_open, has_open, next_owner}
use Rattle.pg_desk.specs.Order.{OneAfterAnother, InOrder}
use Rattle.pg_desk.proofs.Parts.{started-low}

-- ---- one batch more

-- it belongs to its owner
pub given-own : (k : ℕ) (ds : List Delivery) (d : Delivery) → d.owner ≡ k → given k (ds ++ d ∷ []) ≡ given k ds ++ d.messages ∷ []
given-own k [] d e = grind (arith, nat_tests)
given-own k (x ∷ ds) d e = let h = given-own k ds d e in grind (arith, nat_tests)

-- and to no other request
pub given-other : (k : ℕ) (ds : List Delivery) (d : Delivery) → d.owner ≢ k → given k (ds ++ d ∷ []) ≡ given k ds
given-other k [] d e = grind (arith, nat_tests)
given-other k (x ∷ ds) d e = let h = given-other k ds d e in grind (arith, nat_tests)

ended-step : (b : Bool) (n m l : ℕ) → n ≡ m + l → (if b then suc n else n) ≡ m + (if b then suc l else l)
ended-step true n m l h = omega arith
ended-step false n m l h = h

-- whether one reply more has ended
pub finished-more : (ds : List Delivery) (d : Delivery) → finished (ds ++ d ∷ []) ≡ (if d.complete then 1 else 0) + finished ds
finished-more [] d = by_complete d.complete
  where
    by_complete : (b : Bool) → (if b then 1 else 0) ≡ (if b then 1 else 0) + 0
    by_complete true = refl
    by_complete false = refl
finished-more (x ∷ ds) d = ended-step x.complete (finished (ds ++ d ∷ [])) (if d.complete then 1 else 0) (finished ds) (finished-more ds d)

-- they still come one after another where the next belongs to the request that the last left open
pub owners-more : (k : ℕ) (ds : List Delivery) (d : Delivery) → OneAfterAnother k ds → d.owner ≡ k + finished ds → OneAfterAnother k (ds ++ d ∷ [])
owners-more k [] d h e = (omega arith, tt)
owners-more k (x ∷ ds) d h e = (h.0, by_complete x.complete h.1 e (λ j. owners-more j ds d))
  where
    by_complete : (b : Bool) → OneAfterAnother (if b then suc k else k) ds → d.owner ≡ k + (if b then suc (finished ds) else finished ds) →
        ((j : ℕ) → OneAfterAnother j ds → d.owner ≡ j + finished ds → OneAfterAnother j (ds ++ d ∷ [])) → OneAfterAnother (if b then suc k else k) (ds ++ d ∷ [])
    by_complete true h e later = later (suc k) h (omega arith)
    by_complete false h e later = later k h e

-- ---- what a request was given, and which replies have ended

is-equal : (a b : ℕ) → a ≡ b → a == b ≡ true
is-equal a b e = grind (arith, nat_tests)

is-less : (a b : ℕ) → a < b → b == a ≡ false
is-less a b low = grind (arith, nat_tests)

passed : (b : Bool) (m : List RawMessage) (l : List (List RawMessage)) → b ≡ false → (if b then m ∷ l else l) ≡ l
passed true m l e = absurd cc
passed false m l e = refl

own : (b : Bool) (m : List RawMessage) (l : List (List RawMessage)) → b ≡ true → (if b then m ∷ l else l) ≡ m ∷ l
own true m l e = refl
own false m l e = absurd cc

-- a request before the first has nothing
given-before : (k j : ℕ) (ds : List Delivery) → OneAfterAnother k ds → j < k → given j ds ≡ []
given-before k j [] h low = refl
given-before k j (d ∷ ds) h low =
    passed (d.owner == j) d.messages (given j ds) (is-less j d.owner (let e : d.owner ≡ k = h.0 in omega arith))
    ∙ by_complete d.complete h.1 (λ m. given-before m j ds)
  where
    by_complete : (b : Bool) → OneAfterAnother (if b then suc k else k) ds → ((m : ℕ) → OneAfterAnother m ds → j < m → given j ds ≡ []) → given j ds ≡ []
    by_complete true h later = later (suc k) h (omega arith)
    by_complete false h later = later k h low

-- what belongs to a request stands between the ends of two replies
given-from : (k i : ℕ) (ds : List Delivery) → OneAfterAnother k ds → given (k + i) ds ≡ between_ends i ds
given-from k i [] h = refl
given-from k zero (d ∷ ds) h =
    own (d.owner == (k + zero)) d.messages (given (k + zero) ds) (is-equal d.owner (k + zero) (let e : d.owner ≡ k = h.0 in omega arith))
    ∙ ap (λ (l : List (List RawMessage)). d.messages ∷ l) (by_complete d.complete h.1 (λ m. given-from m zero ds) (λ m. given-before m (k + zero) ds))
  where
    by_complete : (b : Bool) → OneAfterAnother (if b then suc k else k) ds → ((m : ℕ) → OneAfterAnother m ds → given (m + zero) ds ≡ between_ends zero ds) →
        ((m : ℕ) → OneAfterAnother m ds → k + zero < m → given (k + zero) ds ≡ []) → given (k + zero) ds ≡ (if b then [] else between_ends zero ds)
    by_complete true h later none = none (suc k) h (omega arith)
    by_complete false h later none = later k h
given-from k (suc i) (d ∷ ds) h =
    passed (d.owner == (k + suc i)) d.messages (given (k + suc i) ds) (is-less-than (let e : d.owner ≡ k = h.0 in omega arith))
    ∙ by_complete d.complete h.1 (given-from (suc k) i ds) (given-from k (suc i) ds)
  where
    is-less-than : d.owner < k + suc i → d.owner == (k + suc i) ≡ false
    is-less-than low = grind (arith, nat_tests)

    by_complete : (b : Bool) → OneAfterAnother (if b then suc k else k) ds → (OneAfterAnother (suc k) ds → given (suc k + i) ds ≡ between_ends i ds) →
        (OneAfterAnother k ds → given (k + suc i) ds ≡ between_ends (suc i) ds) → given (k + suc i) ds ≡ between_ends (if b then i else suc i) ds
    by_complete true h next here = ap (λ (n : ℕ). given n ds) (let e : k + suc i ≡ suc k + i = omega arith in e) ∙ next h
    by_complete false h next here = here h

-- the batches of request k are those between two ends, in order
pub given-between : (ds : List Delivery) → OneAfterAnother 0 ds → (k : ℕ) → given k ds ≡ between_ends k ds
given-between ds h k = ap (λ (n : ℕ). given n ds) (let e : k ≡ 0 + k = omega arith in e) ∙ given-from 0 k ds h

-- a reply before the first hasn't ended here
ended-before : (k j : ℕ) (ds : List Delivery) → OneAfterAnother k ds → j < k → has_ended j ds ≡ false
ended-before k j [] h low = refl
ended-before k j (d ∷ ds) h low =
    by_complete d.complete (d.owner == j) (is-less j d.owner (let e : d.owner ≡ k = h.0 in omega arith)) h.1 (λ m. ended-before m j ds)
  where
    by_complete : (b c : Bool) → c ≡ false → OneAfterAnother (if b then suc k else k) ds → ((m : ℕ) → OneAfterAnother m ds → j < m → has_ended j ds ≡ false) → (b && c) || has_ended j ds ≡ false
    by_complete true false e h later = later (suc k) h (omega arith)
    by_complete true true e h later = absurd cc
    by_complete false c e h later = later k h low

ended-from : (k i : ℕ) (ds : List Delivery) → OneAfterAnother k ds → has_ended (k + i) ds ≡ nat_lt i (finished ds)
ended-from k i [] h = grind (arith, nat_tests)
ended-from k zero (d ∷ ds) h =
    by_complete d.complete (d.owner == (k + zero)) (is-equal d.owner (k + zero) (let e : d.owner ≡ k = h.0 in omega arith)) h.1 (ended-from k zero ds)
  where
    by_complete : (b c : Bool) → c ≡ true → OneAfterAnother (if b then suc k else k) ds → (OneAfterAnother k ds → has_ended (k + zero) ds ≡ nat_lt zero (finished ds)) →
        (b && c) || has_ended (k + zero) ds ≡ nat_lt zero (if b then suc (finished ds) else finished ds)
    by_complete true true e h here = grind (arith, nat_tests)
    by_complete true false e h here = absurd cc
    by_complete false c e h here = here h
ended-from k (suc i) (d ∷ ds) h =
    by_complete d.complete (d.owner == (k + suc i)) (is-less-than (let e : d.owner ≡ k = h.0 in omega arith)) h.1 (ended-from (suc k) i ds) (ended-from k (suc i) ds)
  where
    is-less-than : d.owner < k + suc i → d.owner == (k + suc i) ≡ false
    is-less-than low = grind (arith, nat_tests)

    more : (n : ℕ) → nat_lt i n ≡ nat_lt (suc i) (suc n)
    more n = grind (arith, nat_tests)

    by_complete : (b c : Bool) → c ≡ false → OneAfterAnother (if b then suc k else k) ds → (OneAfterAnother (suc k) ds → has_ended (suc k + i) ds ≡ nat_lt i (finished ds)) →
        (OneAfterAnother k ds → has_ended (k + suc i) ds ≡ nat_lt (suc i) (finished ds)) →
        (b && c) || has_ended (k + suc i) ds ≡ nat_lt (suc i) (if b then suc (finished ds) else finished ds)
    by_complete true false e h next here = ap (λ (n : ℕ). has_ended n ds) (let e : k + suc i ≡ suc k + i = omega arith in e) ∙ next h ∙ more (finished ds)
    by_complete true true e h next here = absurd cc
    by_complete false c e h next here = here h

-- the reply to request k has ended where more than k replies have
pub ended-counted : (ds : List Delivery) → OneAfterAnother 0 ds → (k : ℕ) → has_ended k ds ≡ nat_lt k (finished ds)
ended-counted ds h k = ap (λ (n : ℕ). has_ended n ds) (let e : k ≡ 0 + k = omega arith in e) ∙ ended-from 0 k ds h

-- ---- the oldest open request

first-same : (p q : ℕ → Bool) (k n : ℕ) → ((j : ℕ) → p j ≡ q j) → first_from p k n ≡ first_from q k n
first-same p q k zero same = refl
first-same p q k (suc n) same = by_first (p k) (q k) (same k) (first-same p q (suc k) n same)
  where
    by_first : (a b : Bool) → a ≡ b → first_from p (suc k) n ≡ first_from q (suc k) n → (if a then Some k else first_from p (suc k) n) ≡ (if b then Some k else first_from q (suc k) n)
    by_first true true e h = refl
    by_first true false e h = absurd cc
    by_first false true e h = absurd cc
    by_first false false e h = h

-- it is between these numbers
abbrev between : (low high k : ℕ) → Bool
between low high k = nat_lt k high && not (nat_lt k low)

skip : {A : Type 0} (b : Bool) (x y : A) → b ≡ false → (if b then x else y) ≡ y
skip true x y e = absurd cc
skip false x y e = refl

stop : {A : Type 0} (b : Bool) (x y : A) → b ≡ true → (if b then x else y) ≡ x
stop true x y e = refl
stop false x y e = absurd cc

first-past : (low high k n : ℕ) → high ≤ k → first_from (between low high) k n ≡ None
first-past low high k zero past = refl
first-past low high k (suc n) past =
    skip (between low high k) (Some k) (first_from (between low high) (suc k) n) (grind (arith, nat_tests)) ∙ first-past low high (suc k) n (omega arith)

first-between : (low high k n : ℕ) → k ≤ low → high ≤ k + n → first_from (between low high) k n ≡ (if nat_lt low high then Some low else None)
first-between low high k zero a b = sym (skip (nat_lt low high) (Some low) None (grind (arith, nat_tests)))
first-between low high k (suc n) a b = elim (eqb_tells k low) [
  | inl same ↦ here same.1 (nat_lt low high) refl
  | inr apart ↦ let less = further k low apart.1 a in
      skip (between low high k) (Some k) (first_from (between low high) (suc k) n) (below less) ∙ first-between low high (suc k) n less (omega arith)
]
  where
    further : (a b : ℕ) → a ≢ b → a ≤ b → suc a ≤ b
    further a b f le = elim (eqb_tells a b) [ inl same ↦ absurd (f same.1) | inr apart ↦ omega arith ]

    below : suc k ≤ low → between low high k ≡ false
    below less = grind (arith, nat_tests)

    here : k ≡ low → (x : Bool) → nat_lt low high ≡ x → first_from (between low high) k (suc n) ≡ (if x then Some low else None)
    here e true is = stop (between low high k) (Some k) (first_from (between low high) (suc k) n) (grind (arith, nat_tests)) ∙ ap (λ (k : ℕ). Some k) e
    here e false is = first-past low high k (suc n) (let f : high ≤ low = grind (arith, nat_tests) in omega arith)

-- where requests and replies are in order, it is the one that as many stand before as replies have ended
pub oldest-counted : (s : State) → InOrder s → oldest_open s ≡ (if nat_lt (finished s.deliveries) (started_of s) then Some (finished s.deliveries) else None)
oldest-counted s h =
    first-same (is_open s) (between (finished s.deliveries) (started_of s)) 0 (length s.book) same
    ∙ first-between (finished s.deliveries) (started_of s) 0 (length s.book) (omega arith) (let a = started-low (length s.gone_out) s.book in omega (arith, a))
  where
    same : (k : ℕ) → is_open s k ≡ between (finished s.deliveries) (started_of s) k
    same k = ap (λ (b : Bool). nat_lt k (started_of s) && not b) (ended-counted s.deliveries h.owners k)

-- some request is open exactly where more requests began than replies have ended
pub open-counted : (s : State) → InOrder s → has_open s ≡ nat_lt (finished s.deliveries) (started_of s)
open-counted s h = ap (λ (o : Option ℕ). is_some o) (oldest-counted s h) ∙ by_test (nat_lt (finished s.deliveries) (started_of s))
  where
    by_test : (b : Bool) → is_some (if b then Some (finished s.deliveries) else None) ≡ b
    by_test true = refl
    by_test false = refl

less-is : (a b : ℕ) → nat_lt a b ≡ true → a < b
less-is a b e = grind (arith, nat_tests)

not-less-is : (a b : ℕ) → nat_lt a b ≡ false → b ≤ a
not-less-is a b e = grind (arith, nat_tests)

pub open-less : (s : State) → InOrder s → has_open s ≡ true → finished s.deliveries < started_of s
open-less s h e = less-is (finished s.deliveries) (started_of s) (sym (open-counted s h) ∙ e)

pub less-open : (s : State) → InOrder s → finished s.deliveries < started_of s → has_open s ≡ true
less-open s h low = open-counted s h ∙ grind (arith, nat_tests)

pub none-open : (s : State) → InOrder s → has_open s ≡ false → started_of s ≤ finished s.deliveries
none-open s h e = not-less-is (finished s.deliveries) (started_of s) (sym (open-counted s h) ∙ e)

pub open-none : (s : State) → InOrder s → started_of s ≤ finished s.deliveries → has_open s ≡ false
open-none s h low = open-counted s h ∙ grind (arith, nat_tests)

-- a batch that comes belongs to it
pub owner-counted : (s : State) → InOrder s → has_open s ≡ true → next_owner s ≡ finished s.deliveries
owner-counted s h e =
    ap (λ (o : Option ℕ). unwrap_or o (length s.book)) (oldest-counted s h)
    ∙ ap (λ (b : Bool). unwrap_or (if b then Some (finished s.deliveries) else None) (length s.book)) (sym (open-counted s h) ∙ e)
