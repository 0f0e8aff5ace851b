-- Tests of what a session's record asks for, and that they tell the truth.
use Rattle.std.proofs.Common.{◌≡◌, ◌⊎◌, inl, inr, ℕ, zero, suc, ◌+◌, ◌-◌, ◌<◌, ◌≤◌, arith, List, [], ◌∷◌, length, map, Bool, true, false, not, ◌&&◌, ◌||◌, ◌==◌, Some, refl, sym, ap, ◌∙◌, subst}
use Rattle.std.specs.Prelude.{⊤, nat_lt, nat_le, slice_get, slice_index_or}
use Rattle.std.specs.List.Sorted.{IsNonDecreasingBy}
use Rattle.std.proofs.lemmas.Bool.{eqb-true, eq-eqb, leb-true, le-leb, ltb-true}
use Rattle.std.proofs.lemmas.List.Sorted.{IsNonDecreasingBy-from_all_adjacent}
use Rattle.std.proofs.lemmas.Option.{same_Some}
use Rattle.pg_spec.specs.declared.stamps.TurnMark.{TurnMark}
use Rattle.pg_spec.specs.Turns.{IsFirstTurn, IsTrace, delivered_after, delivered_before, entry_at, turn_at, turn_of}

-- ---- tests below a number

abbrev pub all_below : (ℕ → Bool) → ℕ → Bool
all_below p zero = true
all_below p (suc n) = p n && all_below p n

pub both : (a b : Bool) → (a && b) ≡ true → (a ≡ true) × (b ≡ true)
both true b h = (refl, h)
both false b h = absurd cc

last-or : (i n : ℕ) → i < suc n → (i ≡ n) ⊎ (i < n)
last-or zero zero lt = inl refl
last-or zero (suc n) lt = inr (omega arith)
last-or (suc i) zero lt = absurd (omega (arith, lt))
last-or (suc i) (suc n) lt = by (last-or i n (omega (arith, lt)))
  where
    by : (i ≡ n) ⊎ (i < n) → (suc i ≡ suc n) ⊎ (suc i < suc n)
    by (inl e) = inl (ap suc e)
    by (inr l) = inr (omega (arith, l))

pub below : (p : ℕ → Bool) (n : ℕ) → all_below p n ≡ true → (i : ℕ) → i < n → p i ≡ true
below p zero h i lt = absurd (omega (arith, lt))
below p (suc n) h i lt = by (last-or i n lt) (λ l. below p n (both (p n) (all_below p n) h).1 i l)
  where
    by : (i ≡ n) ⊎ (i < n) → (i < n → p i ≡ true) → p i ≡ true
    by (inl e) lower = ap p e ∙ (both (p n) (all_below p n) h).0
    by (inr l) lower = lower l

-- ---- the first turn at which something that can be tested holds

-- it is a turn of the handle, from a place on, and the test holds
abbrev pub fits : List TurnMark → (handle from : ℕ) → (ℕ → Bool) → ℕ → Bool
fits trace handle from p place = nat_le from place && ((turn_of trace place == handle) && p place)

abbrev pub is_first : List TurnMark → (handle from : ℕ) → (ℕ → Bool) → ℕ → Bool
is_first trace handle from p place = nat_lt place (length trace) && (fits trace handle from p place && all_below (λ i. not (fits trace handle from p i)) place)

fits-so : (trace : List TurnMark) (handle from : ℕ) (p : ℕ → Bool) (i : ℕ) → from ≤ i → turn_of trace i ≡ handle → p i ≡ true → fits trace handle from p i ≡ true
fits-so trace handle from p i ge own h =
    ap (λ (t : Bool). t && ((turn_of trace i == handle) && p i)) (le-leb from i ge)
    ∙ ap (λ (t : Bool). t && p i) (eq-eqb (turn_of trace i) handle own) ∙ h

pub first-turn : (trace : List TurnMark) (handle from place : ℕ) (p : ℕ → Bool) (P : ℕ → Type 0) → ((i : ℕ) → p i ≡ true → P i) → ((i : ℕ) → P i → p i ≡ true) →
    is_first trace handle from p place ≡ true → IsFirstTurn trace handle from P place
first-turn trace handle from place p P sound complete h =
    let a = both (nat_lt place (length trace)) (fits trace handle from p place && all_below (λ i. not (fits trace handle from p i)) place) h in
    let b = both (fits trace handle from p place) (all_below (λ i. not (fits trace handle from p i)) place) a.1 in
    let c = both (nat_le from place) ((turn_of trace place == handle) && p place) b.0 in
    let d = both (turn_of trace place == handle) (p place) c.1 in
    record {
      made = ltb-true place (length trace) a.0;
      own = eqb-true (turn_of trace place) handle d.0;
      no_sooner = leb-true from place c.0;
      holds = sound place d.1;
      first = λ earlier ge lt own h. none earlier (below (λ i. not (fits trace handle from p i)) place b.1 earlier lt) (fits-so trace handle from p earlier ge own (complete earlier h));
    }
  where
    none : (i : ℕ) → not (fits trace handle from p i) ≡ true → fits trace handle from p i ≡ true → ⊥
    none i not_so is_so = let e : not true ≡ true = ap not (sym is_so) ∙ not_so in absurd cc

-- at which it comes
pub first-own : (trace : List TurnMark) (handle from place : ℕ) → is_first trace handle from (λ i. true) place ≡ true → IsFirstTurn trace handle from (λ i. ⊤) place
first-own trace handle from place h = first-turn trace handle from place (λ i. true) (λ i. ⊤) (λ i e. tt) (λ i t. refl) h

-- at which so much was delivered
pub first-at_least : (trace : List TurnMark) (handle from place n : ℕ) (f : ℕ → ℕ) → is_first trace handle from (λ i. nat_le n (f i)) place ≡ true → IsFirstTurn trace handle from (λ i. n ≤ f i) place
first-at_least trace handle from place n f h = first-turn trace handle from place (λ i. nat_le n (f i)) (λ i. n ≤ f i) (λ i e. leb-true n (f i) e) (λ i le. le-leb n (f i) le) h

-- ---- the turns that were made

abbrev pub keeps_at : List TurnMark → (handles place : ℕ) → Bool
keeps_at trace handles place = nat_le handles (turn_of trace place) || (delivered_after trace place == delivered_before trace place)

abbrev pub is_trace : (given : List ℕ) (handles : ℕ) → List TurnMark → Bool
is_trace given handles trace =
    all_below (λ i. turn_of trace i == turn_at given handles i) (length trace)
    && (nat_lt 0 (length trace) && (nat_le handles (turn_of trace (length trace - 1))
    && (all_below (λ i. nat_le (delivered_before trace i) (delivered_after trace i)) (length trace) && all_below (keeps_at trace handles) (length trace))))

pub trace-is : (given : List ℕ) (handles : ℕ) (trace : List TurnMark) → is_trace given handles trace ≡ true → IsTrace given handles trace
trace-is given handles trace h =
    let a = both (all_below (λ i. turn_of trace i == turn_at given handles i) (length trace)) (nat_lt 0 (length trace) && (nat_le handles (turn_of trace (length trace - 1))
    && (all_below (λ i. nat_le (delivered_before trace i) (delivered_after trace i)) (length trace) && all_below (keeps_at trace handles) (length trace)))) h in
    let b = both (nat_lt 0 (length trace)) (nat_le handles (turn_of trace (length trace - 1))
    && (all_below (λ i. nat_le (delivered_before trace i) (delivered_after trace i)) (length trace) && all_below (keeps_at trace handles) (length trace))) a.1 in
    let c = both (nat_le handles (turn_of trace (length trace - 1)))
    (all_below (λ i. nat_le (delivered_before trace i) (delivered_after trace i)) (length trace) && all_below (keeps_at trace handles) (length trace)) b.1 in
    let d = both (all_below (λ i. nat_le (delivered_before trace i) (delivered_after trace i)) (length trace)) (all_below (keeps_at trace handles) (length trace)) c.1 in
    record {
      order = λ i lt. eqb-true (turn_of trace i) (turn_at given handles i) (below (λ i. turn_of trace i == turn_at given handles i) (length trace) a.0 i lt);
      some = ltb-true 0 (length trace) b.0;
      ends = leb-true handles (turn_of trace (length trace - 1)) c.0;
      rises = λ i lt. leb-true (delivered_before trace i) (delivered_after trace i) (below (λ i. nat_le (delivered_before trace i) (delivered_after trace i)) (length trace) d.0 i lt);
      handles_keep = λ i lt own. kept i own (nat_le handles (turn_of trace i)) refl (below (keeps_at trace handles) (length trace) d.1 i lt);
    }
  where
    kept : (i : ℕ) → turn_of trace i < handles → (t : Bool) → nat_le handles (turn_of trace i) ≡ t → (t || (delivered_after trace i == delivered_before trace i)) ≡ true →
        delivered_after trace i ≡ delivered_before trace i
    kept i own true is h = let le = leb-true handles (turn_of trace i) is in absurd (omega (arith, own, le))
    kept i own false is h = eqb-true (delivered_after trace i) (delivered_before trace i) h

-- ---- lists that rise

abbrev pub is_rising : List ℕ → Bool
is_rising [] = true
is_rising (a ∷ []) = true
is_rising (a ∷ b ∷ ns) = nat_le a b && is_rising (b ∷ ns)

pub rising : {X : Type 0} (n : X → ℕ) (xs : List X) → is_rising (map n xs) ≡ true → IsNonDecreasingBy n xs
rising {X} n xs h = IsNonDecreasingBy-from_all_adjacent n xs (λ k d lt.
    subst (λ (j : ℕ). n (slice_index_or xs k d) ≤ n (slice_index_or xs j d)) (let e : suc k ≡ k + 1 = omega arith in e) (adjacent xs h k d (omega (arith, lt))))
  where
    adjacent : (ys : List X) → is_rising (map n ys) ≡ true → (k : ℕ) (d : X) → suc k < length ys → n (slice_index_or ys k d) ≤ n (slice_index_or ys (suc k) d)
    adjacent [] e k d lt = absurd (omega (arith, lt))
    adjacent (a ∷ []) e k d lt = absurd (omega (arith, lt))
    adjacent (a ∷ b ∷ ys) e zero d lt = leb-true (n a) (n b) (both (nat_le (n a) (n b)) (is_rising (map n (b ∷ ys))) e).0
    adjacent (a ∷ b ∷ ys) e (suc k) d lt = adjacent (b ∷ ys) (both (nat_le (n a) (n b)) (is_rising (map n (b ∷ ys))) e).1 k d (omega (arith, lt))

-- ---- entries of lists of lists

-- P of each, with its place
abbrev pub EachOf : {X : Type 0} → List X → (ℕ → X → Type 0) → Type 0
EachOf [] P = ⊤
EachOf (x ∷ xs) P = P 0 x × EachOf xs (λ j. P (suc j))

abbrev pub EachIn : {X : Type 0} → List (List X) → (ℕ → ℕ → X → Type 0) → Type 0
EachIn [] P = ⊤
EachIn (xs ∷ rows) P = EachOf xs (P 0) × EachIn rows (λ i. P (suc i))

pub of-row : {X : Type 0} (xs : List X) (P : ℕ → X → Type 0) → EachOf xs P → (j : ℕ) (x : X) → slice_get xs j ≡ Some x → P j x
of-row [] P h j x e = absurd cc
of-row (y ∷ xs) P h zero x e = subst (P 0) (same_Some y x e) h.0
of-row (y ∷ xs) P h (suc j) x e = of-row xs (λ j. P (suc j)) h.1 j x e

pub of-rows : {X : Type 0} (rows : List (List X)) (P : ℕ → ℕ → X → Type 0) → EachIn rows P → (i j : ℕ) (x : X) → entry_at rows i j ≡ Some x → P i j x
of-rows [] P h i j x e = absurd cc
of-rows (xs ∷ rows) P h zero j x e = of-row xs (P 0) h.0 j x e
of-rows (xs ∷ rows) P h (suc i) j x e = of-rows rows (λ i. P (suc i)) h.1 i j x e

-- where one list of lists has an entry, another of the same lengths has one
pub row-entry : {X Y : Type 0} (xs : List X) (ys : List Y) → length ys ≡ length xs → (j : ℕ) (x : X) → slice_get xs j ≡ Some x → (y : Y) × (slice_get ys j ≡ Some y)
row-entry [] ys same j x e = absurd cc
row-entry (a ∷ xs) [] same j x e = absurd cc
row-entry (a ∷ xs) (b ∷ ys) same zero x e = (b, refl)
row-entry (a ∷ xs) (b ∷ ys) same (suc j) x e = row-entry xs ys (omega (arith, same)) j x e

abbrev heads : List ℕ → ℕ
heads [] = 0
heads (n ∷ ns) = n

abbrev tails : List ℕ → List ℕ
tails [] = []
tails (n ∷ ns) = ns

pub other-entry : {X Y : Type 0} (rows : List (List X)) (others : List (List Y)) → map length others ≡ map length rows → (i j : ℕ) (x : X) → entry_at rows i j ≡ Some x → (y : Y) × (entry_at others i j ≡ Some y)
other-entry [] others same i j x e = absurd cc
other-entry (xs ∷ rows) [] same i j x e = absurd cc
other-entry (xs ∷ rows) (ys ∷ others) same zero j x e = row-entry xs ys (ap heads same) j x e
other-entry (xs ∷ rows) (ys ∷ others) same (suc i) j x e = other-entry rows others (ap tails same) i j x e
