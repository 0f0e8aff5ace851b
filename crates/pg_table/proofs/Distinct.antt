-- Lists without repetition: put together, thinned out, and sorted by the commands whose they are.
use Rattle.std.proofs.Common.{◌≡◌, ◌⊎◌, inl, inr, ℕ, arith, ◌==◌, ◌&&◌, List, [], ◌∷◌, ◌++◌, Bool, true, false, cond, refl, sym, ap, subst, ◌∙◌}
use Rattle.std.specs.Prelude.{◌≢◌, AllPairs, filter, flat_map}
use Rattle.std.specs.List.{AllByRecursion}
use Rattle.std.proofs.lemmas.Bool.{eqb-true}
use Rattle.std.proofs.lemmas.Bool.Decides.{nat_tests}
use Rattle.std.proofs.lemmas.List.Elements.{All-from_recursion}
use Rattle.std.proofs.lemmas.List.Kept.{AllPairs-cons}
use Rattle.pg_spec.specs.declared.stamps.Stamp.{Stamp}
use Rattle.pg_session.proofs.Crossing.Groups.{both-true}

-- it is one of them
abbrev pub IsAmong : {X : Type 0} → X → List X → Type 0
IsAmong x [] = ⊥
IsAmong x (y ∷ ys) = (y ≡ x) ⊎ IsAmong x ys

-- no two are equal
abbrev pub AreApart : {X : Type 0} → List X → Type 0
AreApart [] = Unit {0}
AreApart (x ∷ xs) = (IsAmong x xs → ⊥) × AreApart xs

none-of : {X : Type 0} (x : X) (xs : List X) → (IsAmong x xs → ⊥) → AllByRecursion (λ y. x ≢ y) xs
none-of x [] h = tt
none-of x (y ∷ ys) h = (λ e. h (inl (sym e)), none-of x ys (λ k. h (inr k)))

pub all-pairs : {X : Type 0} (xs : List X) → AreApart xs → AllPairs (λ a b. a ≢ b) xs
all-pairs [] h = λ i j d lt within. absurd (omega arith)
all-pairs (x ∷ xs) h = AllPairs-cons (λ a b. a ≢ b) x xs (All-from_recursion (λ y. x ≢ y) xs (none-of x xs h.0)) (all-pairs xs h.1)

-- ---- one list behind another

pub among-front : {X : Type 0} (x : X) (xs ys : List X) → IsAmong x xs → IsAmong x (xs ++ ys)
among-front x [] ys h = absurd h
among-front x (y ∷ xs) ys (inl e) = inl e
among-front x (y ∷ xs) ys (inr h) = inr (among-front x xs ys h)

pub among-behind : {X : Type 0} (x : X) (xs ys : List X) → IsAmong x ys → IsAmong x (xs ++ ys)
among-behind x [] ys h = h
among-behind x (y ∷ xs) ys h = inr (among-behind x xs ys h)

pub among-either : {X : Type 0} (x : X) (xs ys : List X) → IsAmong x (xs ++ ys) → IsAmong x xs ⊎ IsAmong x ys
among-either x [] ys h = inr h
among-either x (y ∷ xs) ys (inl e) = inl (inl e)
among-either x (y ∷ xs) ys (inr h) = by (among-either x xs ys h)
  where
    by : IsAmong x xs ⊎ IsAmong x ys → IsAmong x (y ∷ xs) ⊎ IsAmong x ys
    by (inl k) = inl (inr k)
    by (inr k) = inr k

pub apart-join : {X : Type 0} (xs ys : List X) → AreApart xs → AreApart ys → ((x : X) → IsAmong x xs → IsAmong x ys → ⊥) → AreApart (xs ++ ys)
apart-join [] ys h k never = k
apart-join (x ∷ xs) ys h k never = (λ m. by (among-either x xs ys m), apart-join xs ys h.1 k (λ z m n. never z (inr m) n))
  where
    by : IsAmong x xs ⊎ IsAmong x ys → ⊥
    by (inl m) = h.0 m
    by (inr m) = never x (inl refl) m

pub apart-front : {X : Type 0} (xs ys : List X) → AreApart (xs ++ ys) → AreApart xs
apart-front [] ys h = tt
apart-front (x ∷ xs) ys h = (λ m. h.0 (among-front x xs ys m), apart-front xs ys h.1)

pub apart-behind : {X : Type 0} (xs ys : List X) → AreApart (xs ++ ys) → AreApart ys
apart-behind [] ys h = h
apart-behind (x ∷ xs) ys h = apart-behind xs ys h.1

pub apart-both : {X : Type 0} (x : X) (xs ys : List X) → AreApart (xs ++ ys) → IsAmong x xs → IsAmong x ys → ⊥
apart-both x [] ys h m n = m
apart-both {X} x (y ∷ xs) ys h (inl e) n = h.0 (subst (λ (z : X). IsAmong z (xs ++ ys)) (sym e) (among-behind x xs ys n))
apart-both x (y ∷ xs) ys h (inr m) n = apart-both x xs ys h.1 m n

-- ---- some of them, in their order

pub data IsSubsequence {X : Type 0} : List X → List X → Type 0 where
  nothing : {ys : List X} → IsSubsequence [] ys
  left_out : {y : X} {xs ys : List X} → IsSubsequence xs ys → IsSubsequence xs (y ∷ ys)
  taken : {y : X} {xs ys : List X} → IsSubsequence xs ys → IsSubsequence (y ∷ xs) (y ∷ ys)

pub some-among : {X : Type 0} {xs ys : List X} → IsSubsequence xs ys → (x : X) → IsAmong x xs → IsAmong x ys
some-among nothing x h = absurd h
some-among (left_out s) x h = inr (some-among s x h)
some-among (taken s) x (inl e) = inl e
some-among (taken s) x (inr h) = inr (some-among s x h)

pub some-apart : {X : Type 0} {xs ys : List X} → IsSubsequence xs ys → AreApart ys → AreApart xs
some-apart nothing h = tt
some-apart (left_out s) h = some-apart s h.1
some-apart (taken {y} s) h = (λ m. h.0 (some-among s y m), some-apart s h.1)

pub some-front : {X : Type 0} (zs : List X) {xs ys : List X} → IsSubsequence xs ys → IsSubsequence (zs ++ xs) (zs ++ ys)
some-front [] s = s
some-front (z ∷ zs) s = taken (some-front zs s)

pub some-later : {X : Type 0} (zs : List X) {xs ys : List X} → IsSubsequence xs ys → IsSubsequence xs (zs ++ ys)
some-later [] s = s
some-later (z ∷ zs) s = left_out (some-later zs s)

pub filter-subsequence : {X N : Type 0} (f : X → List N) (test : X → Bool) (xs : List X) → IsSubsequence (flat_map f (filter test xs)) (flat_map f xs)
filter-subsequence f test [] = nothing
filter-subsequence {X} {N} f test (x ∷ xs) = by (test x) (filter-subsequence f test xs)
  where
    by : (b : Bool) → IsSubsequence (flat_map f (filter test xs)) (flat_map f xs) → IsSubsequence (flat_map f (cond b (x ∷ filter test xs) (filter test xs))) (f x ++ flat_map f xs)
    by true s = some-front (f x) s
    by false s = some-later (f x) s

-- ---- by the commands whose they are

eq-same : (n : ℕ) → (n == n) ≡ true
eq-same n = grind (arith, nat_tests)

module _ {X N : Type 0} (stamp : X → Stamp) (f : X → List N) where
  -- it is of this command
  abbrev is_own : ℕ → ℕ → X → Bool
  is_own i j x = (stamp x).owner == i && (stamp x).command == j

  -- those of a command
  abbrev own : ℕ → ℕ → List X → List X
  own i j xs = filter (is_own i j) xs

  own-itself : (x : X) → is_own (stamp x).owner (stamp x).command x ≡ true
  own-itself x = ap (λ (b : Bool). b && (stamp x).command == (stamp x).command) (eq-same (stamp x).owner) ∙ eq-same (stamp x).command

  own-one : (i j k l : ℕ) (x : X) → is_own i j x ≡ true → is_own k l x ≡ true → (i ≡ k) × (j ≡ l)
  own-one i j k l x e e' =
      let a = both-true ((stamp x).owner == i) ((stamp x).command == j) e in
      let b = both-true ((stamp x).owner == k) ((stamp x).command == l) e' in
      (sym (eqb-true (stamp x).owner i a.0) ∙ eqb-true (stamp x).owner k b.0, sym (eqb-true (stamp x).command j a.1) ∙ eqb-true (stamp x).command l b.1)

  own-among : (i j : ℕ) (xs : List X) (n : N) → IsAmong n (flat_map f (own i j xs)) → IsAmong n (flat_map f xs)
  own-among i j [] n h = h
  own-among i j (x ∷ xs) n h = by (λ m. own-among i j xs n m) (is_own i j x) h
    where
      either : (IsAmong n (flat_map f (own i j xs)) → IsAmong n (flat_map f xs)) → IsAmong n (f x) ⊎ IsAmong n (flat_map f (own i j xs)) → IsAmong n (f x ++ flat_map f xs)
      either rest (inl m) = among-front n (f x) (flat_map f xs) m
      either rest (inr m) = among-behind n (f x) (flat_map f xs) (rest m)

      by : (IsAmong n (flat_map f (own i j xs)) → IsAmong n (flat_map f xs)) → (b : Bool) → IsAmong n (flat_map f (cond b (x ∷ own i j xs) (own i j xs))) → IsAmong n (f x ++ flat_map f xs)
      by rest true h = either rest (among-either n (f x) (flat_map f (own i j xs)) h)
      by rest false h = among-behind n (f x) (flat_map f xs) (rest h)

  -- where no two are equal, what two commands have they have as one
  pub one-owner : (xs : List X) → AreApart (flat_map f xs) → (i j k l : ℕ) (n : N) → IsAmong n (flat_map f (own i j xs)) → IsAmong n (flat_map f (own k l xs)) → (i ≡ k) × (j ≡ l)
  one-owner [] h i j k l n m m' = absurd m
  one-owner (x ∷ xs) h i j k l n m m' = by (λ a b. one-owner xs (apart-behind (f x) (flat_map f xs) h) i j k l n a b) (is_own i j x) (is_own k l x) refl refl m m'
    where
      Same : Type 0
      Same = (i ≡ k) × (j ≡ l)

      never : IsAmong n (f x) → IsAmong n (flat_map f xs) → ⊥
      never a b = apart-both n (f x) (flat_map f xs) h a b

      first : (IsAmong n (flat_map f (own i j xs)) → IsAmong n (flat_map f (own k l xs)) → Same) → IsAmong n (f x) ⊎ IsAmong n (flat_map f (own i j xs)) → IsAmong n (flat_map f (own k l xs)) → Same
      first rest (inl a) b = absurd (never a (own-among k l xs n b))
      first rest (inr a) b = rest a b

      second : (IsAmong n (flat_map f (own i j xs)) → IsAmong n (flat_map f (own k l xs)) → Same) → IsAmong n (flat_map f (own i j xs)) → IsAmong n (f x) ⊎ IsAmong n (flat_map f (own k l xs)) → Same
      second rest a (inl b) = absurd (never b (own-among i j xs n a))
      second rest a (inr b) = rest a b

      by : (IsAmong n (flat_map f (own i j xs)) → IsAmong n (flat_map f (own k l xs)) → Same) → (b c : Bool) → is_own i j x ≡ b → is_own k l x ≡ c →
          IsAmong n (flat_map f (cond b (x ∷ own i j xs) (own i j xs))) → IsAmong n (flat_map f (cond c (x ∷ own k l xs) (own k l xs))) → Same
      by rest true true e e' m m' = own-one i j k l x e e'
      by rest true false e e' m m' = first rest (among-either n (f x) (flat_map f (own i j xs)) m) m'
      by rest false true e e' m m' = second rest m (among-either n (f x) (flat_map f (own k l xs)) m')
      by rest false false e e' m m' = rest m m'

  -- a command of these, whose it is
  record Owned (Known : ℕ → ℕ → Type 0) (xs : List X) (n : N) : Type 0 where
    i : ℕ
    j : ℕ
    known : Known i j
    among : IsAmong n (flat_map f (own i j xs))

  owned : (Known : ℕ → ℕ → Type 0) (xs : List X) (n : N) → AllByRecursion (λ x. Known (stamp x).owner (stamp x).command) xs → IsAmong n (flat_map f xs) → Owned Known xs n
  owned Known [] n known m = absurd m
  owned Known (x ∷ xs) n known m = by (λ a. owned Known xs n known.1 a) (among-either n (f x) (flat_map f xs) m)
    where
      later : (b : Bool) (k l : ℕ) → IsAmong n (flat_map f (own k l xs)) → IsAmong n (flat_map f (cond b (x ∷ own k l xs) (own k l xs)))
      later true k l a = among-behind n (f x) (flat_map f (own k l xs)) a
      later false k l a = a

      by : (IsAmong n (flat_map f xs) → Owned Known xs n) → IsAmong n (f x) ⊎ IsAmong n (flat_map f xs) → Owned Known (x ∷ xs) n
      by rest (inl a) = record {
        i = (stamp x).owner;
        j = (stamp x).command;
        known = known.0;
        among = subst (λ (b : Bool). IsAmong n (flat_map f (cond b (x ∷ own (stamp x).owner (stamp x).command xs) (own (stamp x).owner (stamp x).command xs)))) (sym (own-itself x))
            (among-front n (f x) (flat_map f (own (stamp x).owner (stamp x).command xs)) a);
      }
      by rest (inr a) =
          let o = rest a in
          record { i = o.i; j = o.j; known = o.known; among = later (is_own o.i o.j x) o.i o.j o.among }

  -- Where no two of one command are equal, and what a command has no other has, no two are.
  pub apart-by-owners : (Known : ℕ → ℕ → Type 0) (Has : ℕ → ℕ → N → Type 0) → ((i j k l : ℕ) (n : N) → Has i j n → Has k l n → (i ≡ k) × (j ≡ l)) → (xs : List X) →
      AllByRecursion (λ x. Known (stamp x).owner (stamp x).command) xs → ((i j : ℕ) → Known i j → AreApart (flat_map f (own i j xs))) → ((i j : ℕ) → Known i j → (n : N) → IsAmong n (flat_map f (own i j xs)) → Has i j n) →
      AreApart (flat_map f xs)
  apart-by-owners Known Has one [] known apart has = tt
  apart-by-owners Known Has one (x ∷ xs) known apart has =
      apart-join (f x) (flat_map f xs) (apart-front (f x) (flat_map f (own (stamp x).owner (stamp x).command xs)) front) (apart-by-owners Known Has one xs known.1 later_apart later_has) (λ n m m'. crossing n m (owned Known xs n known.1 m'))
    where
      front : AreApart (f x ++ flat_map f (own (stamp x).owner (stamp x).command xs))
      front = subst (λ (b : Bool). AreApart (flat_map f (cond b (x ∷ own (stamp x).owner (stamp x).command xs) (own (stamp x).owner (stamp x).command xs)))) (own-itself x) (apart (stamp x).owner (stamp x).command known.0)

      owns : (n : N) → IsAmong n (f x) → Has (stamp x).owner (stamp x).command n
      owns n m = subst (λ (b : Bool). IsAmong n (flat_map f (cond b (x ∷ own (stamp x).owner (stamp x).command xs) (own (stamp x).owner (stamp x).command xs))) → Has (stamp x).owner (stamp x).command n) (own-itself x)
          (has (stamp x).owner (stamp x).command known.0 n) (among-front n (f x) (flat_map f (own (stamp x).owner (stamp x).command xs)) m)

      fewer : (k l : ℕ) (b : Bool) → AreApart (flat_map f (cond b (x ∷ own k l xs) (own k l xs))) → AreApart (flat_map f (own k l xs))
      fewer k l true h = apart-behind (f x) (flat_map f (own k l xs)) h
      fewer k l false h = h

      later_apart : (k l : ℕ) → Known k l → AreApart (flat_map f (own k l xs))
      later_apart k l known = fewer k l (is_own k l x) (apart k l known)

      narrower : (k l : ℕ) (n : N) (b : Bool) → (IsAmong n (flat_map f (cond b (x ∷ own k l xs) (own k l xs))) → Has k l n) → IsAmong n (flat_map f (own k l xs)) → Has k l n
      narrower k l n true h m = h (among-behind n (f x) (flat_map f (own k l xs)) m)
      narrower k l n false h m = h m

      later_has : (k l : ℕ) → Known k l → (n : N) → IsAmong n (flat_map f (own k l xs)) → Has k l n
      later_has k l known n m = narrower k l n (is_own k l x) (has k l known n) m

      crossing : (n : N) → IsAmong n (f x) → Owned Known xs n → ⊥
      crossing n m o =
          let same = one (stamp x).owner (stamp x).command o.i o.j n (owns n m) (later_has o.i o.j o.known n o.among) in
          let here = subst (λ (k : ℕ). IsAmong n (flat_map f (own k (stamp x).command xs))) (sym same.0) (subst (λ (l : ℕ). IsAmong n (flat_map f (own o.i l xs))) (sym same.1) o.among) in
          apart-both n (f x) (flat_map f (own (stamp x).owner (stamp x).command xs)) front m here

-- what holds of those of each command holds of all
pub each-by-owners : {X : Type 0} (stamp : X → Stamp) (P : X → Type 0) (Known : ℕ → ℕ → Type 0) (xs : List X) → AllByRecursion (λ x. Known (stamp x).owner (stamp x).command) xs →
    ((i j : ℕ) → Known i j → AllByRecursion P (filter (λ x. (stamp x).owner == i && (stamp x).command == j) xs)) → AllByRecursion P xs
each-by-owners stamp P Known [] known h = tt
each-by-owners {X} stamp P Known (x ∷ xs) known h = (first, each-by-owners stamp P Known xs known.1 (λ i j k. later i j ((stamp x).owner == i && (stamp x).command == j) (h i j k)))
  where
    own : ℕ → ℕ → List X
    own i j = filter (λ x. (stamp x).owner == i && (stamp x).command == j) xs

    itself : ((stamp x).owner == (stamp x).owner && (stamp x).command == (stamp x).command) ≡ true
    itself = ap (λ (b : Bool). b && (stamp x).command == (stamp x).command) (eq-same (stamp x).owner) ∙ eq-same (stamp x).command

    first : P x
    first = (subst (λ (b : Bool). AllByRecursion P (cond b (x ∷ own (stamp x).owner (stamp x).command) (own (stamp x).owner (stamp x).command))) itself (h (stamp x).owner (stamp x).command known.0)).0

    later : (i j : ℕ) (b : Bool) → AllByRecursion P (cond b (x ∷ own i j) (own i j)) → AllByRecursion P (own i j)
    later i j true h = h.1
    later i j false h = h
