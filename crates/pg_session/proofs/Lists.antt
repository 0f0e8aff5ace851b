-- Lists of turns and of requests that grow at their end.
use Rattle.std.proofs.Common.{◌≡◌, ◌≢◌, ℕ, zero, suc, ◌<◌, ◌≤◌, List, [], ◌∷◌, ◌++◌, length, Option, Some, refl, sym, ap, ◌∙◌, arith, inl, inr, ◌⊎◌, set, unwrap_or, option_map, slice_get}
use Rattle.std.specs.Prelude.{⊤}
use Rattle.pg_spec.specs.declared.stamps.TurnMark.{TurnMark}
use Rattle.pg_spec.specs.Turns.{turn_of, IsFirstTurn, IsOwnTurn}

-- ---- what stands at a place

-- an item in front of the last one
pub get-before : {X : Type 0} (xs : List X) (y : X) (i : ℕ) → i < length xs → slice_get (xs ++ y ∷ []) i ≡ slice_get xs i
get-before [] y i h = absurd (omega (arith, h))
get-before (x ∷ xs) y zero h = refl
get-before (x ∷ xs) y (suc i) h = get-before xs y i (omega (arith, h))

-- the last one
pub get-last : {X : Type 0} (xs : List X) (y : X) → slice_get (xs ++ y ∷ []) (length xs) ≡ Some y
get-last [] y = refl
get-last (x ∷ xs) y = get-last xs y

-- an item of a list that grew stood before or is the last
pub get-cases : {X : Type 0} (xs : List X) (y x : X) (i : ℕ) → slice_get (xs ++ y ∷ []) i ≡ Some x →
    ((i < length xs) × (slice_get xs i ≡ Some x)) ⊎ ((i ≡ length xs) × (x ≡ y))
get-cases [] y x zero h = let same : x ≡ y = cc in inr (refl, same)
get-cases [] y x (suc i) h = absurd cc
get-cases (z ∷ xs) y x zero h = inl (omega arith, h)
get-cases {X} (z ∷ xs) y x (suc i) h = by (get-cases xs y x i h)
  where
    by : ((i < length xs) × (slice_get xs i ≡ Some x)) ⊎ ((i ≡ length xs) × (x ≡ y)) →
        ((suc i < length (z ∷ xs)) × (slice_get xs i ≡ Some x)) ⊎ ((suc i ≡ length (z ∷ xs)) × (x ≡ y))
    by (inl k) = inl (omega (arith, k.0), k.1)
    by (inr k) = inr (ap suc k.0, k.1)

-- a write
pub set-here : {X : Type 0} (xs : List X) (i : ℕ) (old new x : X) → slice_get xs i ≡ Some old → slice_get (set xs i new) i ≡ Some x → x ≡ new
set-here [] i old new x h k = absurd cc
set-here (y ∷ xs) zero old new x h k = cc
set-here (y ∷ xs) (suc i) old new x h k = set-here xs i old new x h k

pub set-there : {X : Type 0} (xs : List X) (i j : ℕ) (new : X) → j ≢ i → slice_get (set xs i new) j ≡ slice_get xs j
set-there [] i j new h = refl
set-there (y ∷ xs) zero zero new h = absurd (h refl)
set-there (y ∷ xs) zero (suc j) new h = refl
set-there (y ∷ xs) (suc i) zero new h = refl
set-there (y ∷ xs) (suc i) (suc j) new h = set-there xs i j new (λ e. h (ap suc e))

-- ---- turns

-- a turn more changes none before it
pub turn-before : (trace : List TurnMark) (m : TurnMark) (i : ℕ) → i < length trace → turn_of (trace ++ m ∷ []) i ≡ turn_of trace i
turn-before trace m i h = ap (λ (o : Option TurnMark). unwrap_or (option_map (λ mark. mark.turn) o) 0) (get-before trace m i h)

pub turn-last : (trace : List TurnMark) (m : TurnMark) → turn_of (trace ++ m ∷ []) (length trace) ≡ m.turn
turn-last trace m = ap (λ (o : Option TurnMark). unwrap_or (option_map (λ mark. mark.turn) o) 0) (get-last trace m)

pub one-more : {X : Type 0} (xs : List X) (x : X) → length (xs ++ x ∷ []) ≡ suc (length xs)
one-more [] x = refl
one-more (y ∷ xs) x = ap suc (one-more xs x)

pub first-grows : (trace : List TurnMark) (m : TurnMark) (handle from place : ℕ) →
    IsFirstTurn trace handle from (λ place. ⊤) place → IsFirstTurn (trace ++ m ∷ []) handle from (λ place. ⊤) place
first-grows trace m handle from place h = record {
  made = omega (arith, one-more trace m, h.made);
  own = turn-before trace m place h.made ∙ h.own;
  no_sooner = h.no_sooner;
  holds = tt;
  first = λ earlier ge lt own t. h.first earlier ge lt (sym (turn-before trace m earlier (omega (arith, lt, h.made))) ∙ own) tt;
}

pub own-grows : (trace : List TurnMark) (m : TurnMark) (handle from place : ℕ) → IsOwnTurn trace handle from place →
    IsOwnTurn (trace ++ m ∷ []) handle from place
own-grows trace m handle from place h = record {
  made = omega (arith, one-more trace m, h.made);
  own = turn-before trace m place h.made ∙ h.own;
  no_sooner = h.no_sooner;
}

-- no turn of this handle was made from a place on
abbrev pub NoTurn : List TurnMark → (handle from : ℕ) → Type 0
NoTurn trace handle from = (earlier : ℕ) → from ≤ earlier → earlier < length trace → turn_of trace earlier ≡ handle → ⊥

-- another's turn is none of its
pub no-turn-grows : (trace : List TurnMark) (m : TurnMark) (handle from : ℕ) → m.turn ≢ handle → NoTurn trace handle from →
    NoTurn (trace ++ m ∷ []) handle from
no-turn-grows trace m handle from other h earlier ge lt own = by (nat-cases earlier (length trace))
  where
    nat-cases : (a b : ℕ) → (a < b) ⊎ (b ≤ a)
    nat-cases zero zero = inr (omega arith)
    nat-cases zero (suc b) = inl (omega arith)
    nat-cases (suc a) zero = inr (omega arith)
    nat-cases (suc a) (suc b) = step (nat-cases a b)
      where
        step : (a < b) ⊎ (b ≤ a) → (suc a < suc b) ⊎ (suc b ≤ suc a)
        step (inl k) = inl (omega (arith, k))
        step (inr k) = inr (omega (arith, k))

    by : (earlier < length trace) ⊎ (length trace ≤ earlier) → ⊥
    by (inl k) = h earlier ge k (sym (turn-before trace m earlier k) ∙ own)
    by (inr k) =
        let same : earlier ≡ length trace = omega (arith, k, lt, one-more trace m) in
        other (sym (turn-last trace m) ∙ ap (turn_of (trace ++ m ∷ [])) (sym same) ∙ own)

-- its own turn, where it made none before
pub first-now : (trace : List TurnMark) (m : TurnMark) (handle from : ℕ) → m.turn ≡ handle → from ≤ length trace → NoTurn trace handle from →
    IsFirstTurn (trace ++ m ∷ []) handle from (λ place. ⊤) (length trace)
first-now trace m handle from own ge none = record {
  made = omega (arith, one-more trace m);
  own = turn-last trace m ∙ own;
  no_sooner = ge;
  holds = tt;
  first = λ earlier from' lt is t. none earlier from' lt (sym (turn-before trace m earlier lt) ∙ is);
}
