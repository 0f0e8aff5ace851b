-- Which turn stands at a place.
use Rattle.std.proofs.Common.{◌≡◌, ℕ, zero, suc, ◌+◌, ◌-◌, ◌*◌, ◌%◌, ◌<◌, ◌≤◌, Bool, true, false, if◌then◌else◌, List, [], ◌∷◌, ◌++◌, length, get_or, nat_lt, inl, inr, refl, sym, ap, ◌∙◌, arith, append_assoc, length-append, lt-ltb, le-ltb}
use Rattle.std.proofs.lemmas.List.{get_or_append_left, get_or-append_right, get_or_at, length_push}
use Rattle.std.proofs.lemmas.Bool.{cases_lt}
use Rattle.std.proofs.lemmas.Nat.{mod-mul-add}
use Rattle.pg_spec.specs.Turns.{turn_at}
use Rattle.pg_desk.specs.History.{IsFrontOf}
use Rattle.pg_session.specs.Sessions.{numbers, rounds, InOrder}

-- ---- numbers in order

pub length-numbers : (n : ℕ) → length (numbers n) ≡ n
length-numbers zero = refl
length-numbers (suc n) = let e = length_push (numbers n) n in let before = length-numbers n in omega arith

pub numbers_at : (n i : ℕ) → i < n → get_or (numbers n) i 0 ≡ i
numbers_at zero i low = absurd (omega arith)
numbers_at (suc n) i low = elim (cases_lt i n) [
  | inl below ↦ get_or_append_left (numbers n) (n ∷ []) 0 i (let e = length-numbers n in omega arith) ∙ numbers_at n i below
  | inr above ↦ get_or_at (numbers n) n [] 0 i (let e = length-numbers n in omega arith) ∙ omega arith
]

-- ---- whole rounds

pub length-rounds : (handles count : ℕ) → length (rounds handles count) ≡ count * (handles + 1)
length-rounds handles zero = omega arith
length-rounds handles (suc n) =
    let parts = length-append (rounds handles n) (numbers (handles + 1)) in
    let before = length-rounds handles n in
    let last = length-numbers (handles + 1) in
    omega arith

-- behind whole rounds of w places, the places of a front of one more
round_at : (w n k i : ℕ) → k ≤ w → n * w ≤ i → i < n * w + k → get_or (numbers k) (i - n * w) 0 ≡ i % w
round_at w n k i fits from below =
    numbers_at k (i - n * w) (omega arith) ∙ sym (ap (λ (x : ℕ). x % w) (let e : i ≡ n * w + (i - n * w) = omega arith in e) ∙ mod-mul-add n w (i - n * w) (omega arith))

-- a place in whole rounds, or in what stands behind them
rounds_then : (handles n k i : ℕ) → k ≤ handles + 1 → i < n * (handles + 1) + k →
    (i < n * (handles + 1) → get_or (rounds handles n) i 0 ≡ i % (handles + 1)) →
    get_or (rounds handles n ++ numbers k) i 0 ≡ i % (handles + 1)
rounds_then handles n k i fits low before = elim (cases_lt i (n * (handles + 1))) [
  | inl below ↦ get_or_append_left (rounds handles n) (numbers k) 0 i (let e = length-rounds handles n in omega arith) ∙ before below
  | inr above ↦ get_or-append_right (rounds handles n) (numbers k) (n * (handles + 1)) i 0 (length-rounds handles n) above ∙ round_at (handles + 1) n k i fits above low
]

pub rounds_at : (handles n i : ℕ) → i < n * (handles + 1) → get_or (rounds handles n) i 0 ≡ i % (handles + 1)
rounds_at handles zero i low = absurd (let none : zero * (handles + 1) ≡ 0 = omega arith in omega arith)
rounds_at handles (suc n) i low =
    rounds_then handles n (handles + 1) i (omega arith) (omega arith) (rounds_at handles n i)

-- ---- the turns of a session

turn_given : (given : List ℕ) (handles place : ℕ) → place < length given → turn_at given handles place ≡ get_or given place 0
turn_given given handles place low = by_test (nat_lt place (length given)) (lt-ltb _ _ low)
  where
    by_test : (b : Bool) → b ≡ true → (if b then get_or given place 0 else (place - length given) % (handles + 1)) ≡ get_or given place 0
    by_test true e = refl
    by_test false e = absurd cc

turn_behind : (given : List ℕ) (handles place : ℕ) → length given ≤ place → turn_at given handles place ≡ (place - length given) % (handles + 1)
turn_behind given handles place high = by_test (nat_lt place (length given)) (le-ltb _ _ high)
  where
    by_test : (b : Bool) → b ≡ false → (if b then get_or given place 0 else (place - length given) % (handles + 1)) ≡ (place - length given) % (handles + 1)
    by_test true e = absurd cc
    by_test false e = refl

-- a front of the turns that were given
front_at : (given : List ℕ) (handles : ℕ) (all : List ℕ) (place : ℕ) → IsFrontOf all given → place < length all → get_or all place 0 ≡ turn_at given handles place
front_at given handles all place front low =
    sym (get_or_append_left all front.0 0 place low) ∙ ap (λ (x : List ℕ). get_or x place 0) front.1
    ∙ sym (turn_given given handles place (let parts = length-append all front.0 in let whole = ap length front.1 in omega arith))

-- all of them, and rounds behind them
behind_at : (given : List ℕ) (handles n last place : ℕ) → last ≤ handles → place < length given + (n * (handles + 1) + suc last) →
    get_or (given ++ (rounds handles n ++ numbers (suc last))) place 0 ≡ turn_at given handles place
behind_at given handles n last place within low = elim (cases_lt place (length given)) [
  | inl below ↦ get_or_append_left given (rounds handles n ++ numbers (suc last)) 0 place below ∙ sym (turn_given given handles place below)
  | inr above ↦
      get_or-append_right given (rounds handles n ++ numbers (suc last)) (length given) place 0 refl above
      ∙ rounds_then handles n (suc last) (place - length given) (omega arith) (omega arith) (rounds_at handles n (place - length given))
      ∙ sym (turn_behind given handles place above)
]

-- the last turn belongs to the last round
whole_is : (given : List ℕ) (handles n last : ℕ) (turns : List ℕ) → turns ≡ given ++ rounds handles n ++ numbers last →
    turns ++ last ∷ [] ≡ given ++ (rounds handles n ++ numbers (suc last))
whole_is given handles n last turns whole =
    ap (λ (x : List ℕ). x ++ last ∷ []) whole ∙ append_assoc (given ++ rounds handles n) (numbers last) (last ∷ []) ∙ append_assoc given (rounds handles n) (numbers (suc last))

-- each turn of a session stands where the turn list has it
pub in_order_at : (given : List ℕ) (handles : ℕ) (turns : List ℕ) (last place : ℕ) → InOrder given handles turns last →
    place < length (turns ++ last ∷ []) → get_or (turns ++ last ∷ []) place 0 ≡ turn_at given handles place
in_order_at given handles turns last place (inl front) low = front_at given handles (turns ++ last ∷ []) place front low
in_order_at given handles turns last place (inr r) low =
    let whole = whole_is given handles r.count last turns r.whole in
    let size = ap length whole in
    let parts = length-append given (rounds handles r.count ++ numbers (suc last)) in
    let more = length-append (rounds handles r.count) (numbers (suc last)) in
    let many = length-rounds handles r.count in
    let few = length-numbers (suc last) in
    ap (λ (x : List ℕ). get_or x place 0) whole ∙ behind_at given handles r.count last place r.within (omega arith)
