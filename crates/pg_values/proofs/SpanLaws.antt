-- Digits without a zero at either end are the fewest of their number.
use Rattle.std.proofs.Common.{◌≡◌, ◌≢◌, ◌⊎◌, inl, inr, ℕ, suc, ℤ, pos, negsuc, ◌<◌, ◌≤◌, ◌*◌, ◌+◌, ◌-◌, ◌^◌, List, [], ◌∷◌, length, ap, sym, ◌∙◌, arith}
use Rattle.std.specs.List.{AllByRecursion}
use Rattle.std.proofs.lemmas.Bool.{cases_lt}
use Rattle.std.proofs.lemmas.Nat.{pow-add}
use Rattle.std.proofs.Math.Nat.{one-le-pow, one-le-mul, pow-suc, pow-le-pow_right, mul-le-mul_right}
use Rattle.pg_values.specs.Numerics.{digits_value, top, shift, HasFirst, HasLast, AreDigitsOf}
use Rattle.pg_values.proofs.NumberLaws.{low_small, tens}
use Rattle.pg_values.proofs.DigitLaws.{IsBelow}
use Rattle.pg_values.proofs.GroupLaws.{cancel, value_raised}

-- the last digit isn't zero
record Ends (whole : ℕ) : Type 0 where
  front : ℕ
  last : ℕ
  some : last ≢ 0
  below : last < 10000
  sum : whole ≡ front * 10000 + last

ends : (x : ℕ) (ds : List ℕ) → AllByRecursion IsBelow (x ∷ ds) → HasLast (x ∷ ds) → Ends (digits_value (length ds) (x ∷ ds))
ends x [] (less, all) some = record { front = 0; last = x; some = some; below = less; sum = omega arith }
ends x (y ∷ ds) (less, all) some =
    let rest : Ends (digits_value (length ds) (y ∷ ds)) = ends y ds all some in
    let up : 10000 ^ suc (length ds) ≡ 10000 ^ length ds * 10000 = pow-suc 10000 (length ds) in
    let same : x * 10000 ^ suc (length ds) ≡ x * (10000 ^ length ds * 10000) = ap (λ (n : ℕ). x * n) up in
    let down : digits_value (suc (length ds) - 1) (y ∷ ds) ≡ digits_value (length ds) (y ∷ ds) = ap (λ (n : ℕ). digits_value n (y ∷ ds)) (omega arith) in
    record { front = x * 10000 ^ length ds + rest.front; last = rest.last; some = rest.some; below = rest.below; sum = omega (arith, same, down, rest.sum) }

-- so the number isn't a multiple of more
no_more : (front last value r s : ℕ) → last ≢ 0 → last < 10000 → (front * 10000 + last) * 10000 ^ r ≡ value * 10000 ^ s → r < s → ⊥
no_more front last value r s some below e less =
    let k : ℕ = s - (r + 1) in
    let split : s ≡ r + suc k = omega (arith, less) in
    let powers : 10000 ^ s ≡ 10000 ^ r * (10000 ^ k * 10000) = ap (λ (n : ℕ). 10000 ^ n) split ∙ pow-add 10000 r (suc k) ∙ ap (λ (n : ℕ). 10000 ^ r * n) (pow-suc 10000 k) in
    let more : value * 10000 ^ s ≡ value * (10000 ^ r * (10000 ^ k * 10000)) = ap (λ (n : ℕ). value * n) powers in
    let both : (front * 10000 + last) * 10000 ^ r ≡ value * 10000 ^ k * 10000 * 10000 ^ r = omega (arith, e, more) in
    let one : front * 10000 + last ≡ value * 10000 ^ k * 10000 = cancel (front * 10000 + last) (value * 10000 ^ k * 10000) (10000 ^ r) (one-le-pow r 10000 (omega arith)) both in
    omega (arith, some, below, one)

-- the first digit isn't zero, so the power is no higher
pub no_higher : (p q first low : ℕ) → first ≢ 0 → first * 10000 ^ p + low < 10000 ^ (q + 1) → p ≤ q
no_higher p q first low some less = pick (cases_lt q p)
  where
    pick : (q < p) ⊎ (p ≤ q) → p ≤ q
    pick (inl more) =
        let grows : 10000 ^ (q + 1) ≤ 10000 ^ p = pow-le-pow_right {n = 10000} (omega arith) {i = q + 1} {j = p} (omega (arith, more)) in
        let once : 1 * 10000 ^ p ≤ first * 10000 ^ p = mul-le-mul_right (10000 ^ p) (omega (arith, some)) in
        absurd (omega (arith, less, grows, once))
    pick (inr is) = is

some_value : (p first low : ℕ) → first ≢ 0 → first * 10000 ^ p + low ≡ 0 → ⊥
some_value p first low some e =
    let more : 1 ≤ first * 10000 ^ p = one-le-mul (omega (arith, some)) (one-le-pow p 10000 (omega arith)) in omega (arith, e, more)

fewest : (p q : ℕ) (ds es : List ℕ) → AllByRecursion IsBelow ds → AllByRecursion IsBelow es → HasFirst ds → HasLast ds → length ds ≤ p + 1 → length es ≤ q + 1
    → digits_value p ds ≡ digits_value q es → length ds ≤ length es
fewest p q [] es a b first last n m e = omega arith
fewest p q (x ∷ ds) [] a b first last n m e = absurd (some_value p x (digits_value (p - 1) ds) first e)
fewest p q (x ∷ ds) (y ∷ es) a b first last n m e =
    let end : Ends (digits_value (length ds) (x ∷ ds)) = ends x ds a last in
    let small : digits_value (q + 1 - 1) (y ∷ es) < 10000 ^ (q + 1) = low_small (q + 1) (y ∷ es) b m in
    let there : digits_value (q + 1 - 1) (y ∷ es) ≡ digits_value q (y ∷ es) = ap (λ (k : ℕ). digits_value k (y ∷ es)) (omega arith) in
    let high : p ≤ q = no_higher p q x (digits_value (p - 1) ds) first (omega (arith, e, small, there)) in
    let r : ℕ = p - length ds in
    let s : ℕ = q - length es in
    let down : p ≡ length ds + r = omega (arith, n) in
    let also : q ≡ length es + s = omega (arith, m) in
    let here : digits_value p (x ∷ ds) ≡ digits_value (length ds) (x ∷ ds) * 10000 ^ r = ap (λ (k : ℕ). digits_value k (x ∷ ds)) down ∙ value_raised r (length ds) (x ∷ ds) (omega arith) in
    let other : digits_value q (y ∷ es) ≡ digits_value (length es) (y ∷ es) * 10000 ^ s = ap (λ (k : ℕ). digits_value k (y ∷ es)) also ∙ value_raised s (length es) (y ∷ es) (omega arith) in
    let sums : (end.front * 10000 + end.last) * 10000 ^ r ≡ digits_value (length es) (y ∷ es) * 10000 ^ s =
    ap (λ (k : ℕ). k * 10000 ^ r) (sym end.sum) ∙ sym here ∙ e ∙ other in
    let none : r < s → ⊥ = no_more end.front end.last (digits_value (length es) (y ∷ es)) r s end.some end.below sums in
    pick high down also none (cases_lt r s)
  where
    pick : p ≤ q → p ≡ length ds + (p - length ds) → q ≡ length es + (q - length es) → (p - length ds < q - length es → ⊥)
        → (p - length ds < q - length es) ⊎ (q - length es ≤ p - length ds) → length (x ∷ ds) ≤ length (y ∷ es)
    pick high down also none (inl less) = absurd (none less)
    pick high down also none (inr less) = omega (arith, high, down, also, less)

pub room : (w : ℤ) (n : ℕ) → n ≤ top w n + 1
room (pos w) n = omega arith
room (negsuc w) n = omega arith

pub digits_fewest : (u scale : ℕ) (w x : ℤ) (ds es : List ℕ) → AllByRecursion IsBelow ds → AllByRecursion IsBelow es → HasFirst ds → HasLast ds
    → AreDigitsOf u scale w ds → AreDigitsOf u scale x es → length ds ≤ length es
digits_fewest u scale w x ds es a b first last e f =
    let p : ℕ = top w (length ds) in
    let q : ℕ = top x (length es) in
    let s : ℕ = shift w (length ds) in
    let t : ℕ = shift x (length es) in
    let here : digits_value (p + t) ds ≡ digits_value p ds * 10000 ^ t = value_raised t p ds (room w (length ds)) in
    let there : digits_value (q + s) es ≡ digits_value q es * 10000 ^ s = value_raised s q es (room x (length es)) in
    let more : digits_value p ds * 10 ^ scale * 10000 ^ t ≡ u * 10000 ^ s * 10000 ^ t = ap (λ (n : ℕ). n * 10000 ^ t) e in
    let also : digits_value q es * 10 ^ scale * 10000 ^ s ≡ u * 10000 ^ t * 10000 ^ s = ap (λ (n : ℕ). n * 10000 ^ s) f in
    let both : digits_value p ds * 10000 ^ t * 10 ^ scale ≡ digits_value q es * 10000 ^ s * 10 ^ scale = omega (arith, more, also) in
    let same : digits_value p ds * 10000 ^ t ≡ digits_value q es * 10000 ^ s = cancel (digits_value p ds * 10000 ^ t) (digits_value q es * 10000 ^ s) (10 ^ scale) (tens scale) both in
    fewest (p + t) (q + s) ds es a b first last (omega (arith, room w (length ds))) (omega (arith, room x (length es))) (here ∙ same ∙ sym there)
