-- Powers of ten, and the numbers of digits in base 10,000.
use Rattle.std.proofs.Common.{◌≡◌, ◌≢◌, ℕ, zero, suc, ◌<◌, ◌≤◌, ◌*◌, ◌+◌, ◌-◌, ◌^◌, ◌/◌, ◌%◌, List, [], ◌∷◌, length, ap, refl, sym, ◌∙◌, subst, arith}
use Rattle.std.specs.List.{AllByRecursion}
use Rattle.std.proofs.Math.Nat.{mul-div_cancel, mul-mod_left, le_of_mul-le-mul_right, mul-le-mul_right, pow-le-pow_right, one-le-pow, pow-suc, mod-add-div'}
use Rattle.std.proofs.lemmas.Nat.{pow-add, mul-add-lt, div-mul-add}
use Rattle.pg_values.specs.Numerics.{digits_value}

-- ---- powers

pub tens : (k : ℕ) → 1 ≤ 10 ^ k
tens k = one-le-pow k 10 (omega arith)

pub some_power : (n k : ℕ) → n ≡ 10 ^ k → 1 ≤ n
some_power n k e = subst (λ (m : ℕ). 1 ≤ m) (sym e) (tens k)

pub tens_grow : (j k : ℕ) → j ≤ k → 10 ^ j ≤ 10 ^ k
tens_grow j k less = pow-le-pow_right {n = 10} (omega arith) {i = j} {j = k} less

pub four_tens : (n : ℕ) → 10000 ^ n ≡ 10 ^ (4 * n)
four_tens zero = refl
four_tens (suc n) =
    let e : 4 * suc n ≡ 4 * n + 4 = omega arith in
    pow-suc 10000 n ∙ ap (λ (x : ℕ). x * 10000) (four_tens n) ∙ sym (pow-add 10 (4 * n) 4) ∙ ap (λ (x : ℕ). 10 ^ x) (sym e)

-- the quotient is known
pub same_quotient : (a b w r : ℕ) → r < w → a * w + r ≡ b * w → a ≡ b
same_quotient a b w r less e = sym (div-mul-add a w r less) ∙ ap (λ (x : ℕ). x / w) e ∙ mul-div_cancel b (omega (arith, less))

-- ---- one digit

pub raised : (t up k : ℕ) → t * 10 ^ (up + k) ≡ t * 10 ^ k * 10 ^ up
raised t up k =
    let e : 10 ^ (up + k) ≡ 10 ^ up * 10 ^ k = pow-add 10 up k in
    let f : t * 10 ^ (up + k) ≡ t * (10 ^ up * 10 ^ k) = ap (λ (x : ℕ). t * x) e in
    omega (arith, f)

-- it is a multiple of a power of ten
pub digit_is : (digit t low up k : ℕ) → low < 10 ^ up → digit * 10 ^ up + low ≡ t * 10 ^ (up + k) → digit ≡ t * 10 ^ k
digit_is digit t low up k less e = same_quotient digit (t * 10 ^ k) (10 ^ up) low less (e ∙ raised t up k)

pub no_multiple : (digit t k : ℕ) → digit < 65536 → digit ≢ 0 → 4 < k → digit ≡ t * 10 ^ k → ⊥
no_multiple digit zero k small some more e = some (omega (arith, e))
no_multiple digit (suc t) k small some more e =
    let grows : 10 ^ 5 ≤ 10 ^ k = tens_grow 5 k (omega arith) in
    let once : 1 * 10 ^ k ≤ suc t * 10 ^ k = mul-le-mul_right (10 ^ k) (omega arith) in
    omega (arith, e, small, grows, once)

pub no_remainder : (digit t k : ℕ) → digit % 10 ^ k ≢ 0 → digit ≡ t * 10 ^ k → ⊥
no_remainder digit t k some e = some (ap (λ (x : ℕ). x % 10 ^ k) e ∙ mul-mod_left t (10 ^ k))

pub quotient_is : (digit up k : ℕ) → digit % 10 ^ k ≡ 0 → digit * 10 ^ up ≡ digit / 10 ^ k * 10 ^ (up + k)
quotient_is digit up k e =
    let whole : digit % 10 ^ k + digit / 10 ^ k * 10 ^ k ≡ digit = mod-add-div' digit (10 ^ k) in
    let same : digit / 10 ^ k * 10 ^ k ≡ digit = omega (arith, whole, e) in
    ap (λ (x : ℕ). x * 10 ^ up) (sym same) ∙ sym (raised (digit / 10 ^ k) up k)

-- it is too large
pub at_most : (digit t low down k : ℕ) → digit * 10 ^ (down + k) + low ≡ t * 10 ^ down → digit * 10 ^ k ≤ t
at_most digit t low down k e =
    let same : digit * 10 ^ (down + k) ≡ digit * 10 ^ k * 10 ^ down = raised digit down k in
    le_of_mul-le-mul_right {m = digit * 10 ^ k} {n = t} {k = 10 ^ down} (omega (arith, e, same)) (omega (arith, tens down))

pub too_high : (digit t k : ℕ) → digit ≢ 0 → 38 < k → digit * 10 ^ k ≤ t → t < 10 ^ 38 → ⊥
too_high digit t k some more less small =
    let grows : 10 ^ 38 ≤ 10 ^ k = tens_grow 38 k (omega arith) in
    let once : 1 * 10 ^ k ≤ digit * 10 ^ k = mul-le-mul_right (10 ^ k) (omega (arith, some)) in
    omega (arith, grows, once, less, small)

pub joined : (k : ℕ) → k ≤ 38 → 10 ^ (38 - k) * 10 ^ k ≡ 10 ^ 38
joined k less = let e : 38 - k + k ≡ 38 = omega arith in sym (pow-add 10 (38 - k) k) ∙ ap (λ (x : ℕ). 10 ^ x) e

pub too_large : (digit t k : ℕ) → k ≤ 38 → 10 ^ (38 - k) ≤ digit → digit * 10 ^ k ≤ t → t < 10 ^ 38 → ⊥
too_large digit t k less more most small =
    let grows : 10 ^ (38 - k) * 10 ^ k ≤ digit * 10 ^ k = mul-le-mul_right (10 ^ k) more in
    omega (arith, joined k less, grows, most, small)

pub fits_below : (digit k : ℕ) → k ≤ 38 → digit < 10 ^ (38 - k) → digit * 10 ^ k < 10 ^ 38
fits_below digit k less small =
    let grows : suc digit * 10 ^ k ≤ 10 ^ (38 - k) * 10 ^ k = mul-le-mul_right (10 ^ k) small in
    omega (arith, joined k less, grows, tens k)

-- ---- the sum of the digits

-- what stands behind the first digit is less than one of it
pub low_small : (p : ℕ) (ds : List ℕ) → AllByRecursion (λ digit. digit < 10000) ds → length ds ≤ p → digits_value (p - 1) ds < 10000 ^ p
low_small p [] all less = one-le-pow p 10000 (omega arith)
low_small p (x ∷ xs) (small, all) less =
    let q : ℕ = p - 1 in
    let below : digits_value (q - 1) xs < 10000 ^ q = low_small q xs all (omega (arith, less)) in
    let here : x * 10000 ^ q + digits_value (q - 1) xs < 10000 ^ q * 10000 = mul-add-lt x (10000 ^ q) (digits_value (q - 1) xs) 10000 small below in
    let e : p ≡ suc q = omega (arith, less) in
    subst (λ (n : ℕ). x * 10000 ^ q + digits_value (q - 1) xs < n) (sym (ap (λ (n : ℕ). 10000 ^ n) e ∙ pow-suc 10000 q)) here

-- the first digit, in powers of ten
first_is : (d p scale : ℕ) → d * 10000 ^ p * 10 ^ scale ≡ d * 10 ^ (4 * p + scale)
first_is d p scale =
    let e : 10000 ^ p * 10 ^ scale ≡ 10 ^ (4 * p + scale) = ap (λ (x : ℕ). x * 10 ^ scale) (four_tens p) ∙ sym (pow-add 10 (4 * p) scale) in
    let f : d * (10000 ^ p * 10 ^ scale) ≡ d * 10 ^ (4 * p + scale) = ap (λ (x : ℕ). d * x) e in
    omega (arith, f)

low_scaled : (low p scale : ℕ) → low < 10000 ^ p → low * 10 ^ scale < 10 ^ (4 * p + scale)
low_scaled low p scale less =
    let e : 10000 ^ p * 10 ^ scale ≡ 10 ^ (4 * p + scale) = ap (λ (x : ℕ). x * 10 ^ scale) (four_tens p) ∙ sym (pow-add 10 (4 * p) scale) in
    let grows : suc low * 10 ^ scale ≤ 10000 ^ p * 10 ^ scale = mul-le-mul_right (10 ^ scale) less in
    omega (arith, e, grows, tens scale)

-- where one digit is no number, the whole isn't
pub total_none : (d p scale shift sum u low whole : ℕ) → sum * 10000 ^ shift + (d * 10000 ^ p + low) * 10 ^ scale ≡ whole → whole ≡ u * 10000 ^ shift
    → low < 10000 ^ p → u < 10 ^ 38
    → ((t rest : ℕ) → t < 10 ^ 38 → rest < 10 ^ (4 * p + scale) → d * 10 ^ (4 * p + scale) + rest ≡ t * 10 ^ (4 * shift) → ⊥) → ⊥
total_none d p scale shift sum u low whole e is less small none =
    let some : 1 ≤ 10000 ^ shift = one-le-pow shift 10000 (omega arith) in
    let under : sum ≤ u = le_of_mul-le-mul_right {m = sum} {n = u} {k = 10000 ^ shift} (omega (arith, e, is)) some in
    let t : ℕ = u - sum in
    let u_is : u ≡ sum + t = omega (arith, under) in
    let split : u * 10000 ^ shift ≡ (sum + t) * 10000 ^ shift = ap (λ (x : ℕ). x * 10000 ^ shift) u_is in
    let first = first_is d p scale in
    let raise : t * 10000 ^ shift ≡ t * 10 ^ (4 * shift) = ap (λ (x : ℕ). t * x) (four_tens shift) in
    none t (low * 10 ^ scale) (omega (arith, u_is, small)) (low_scaled low p scale less) (omega (arith, e, is, split, first, raise))

-- where it is one, it is added
pub total_more : (d p scale shift sum t low whole : ℕ) → sum * 10000 ^ shift + (d * 10000 ^ p + low) * 10 ^ scale ≡ whole
    → d * 10 ^ (4 * p + scale) ≡ t * 10 ^ (4 * shift) → (sum + t) * 10000 ^ shift + low * 10 ^ scale ≡ whole
total_more d p scale shift sum t low whole e is =
    let first = first_is d p scale in
    let raise : t * 10000 ^ shift ≡ t * 10 ^ (4 * shift) = ap (λ (x : ℕ). t * x) (four_tens shift) in
    omega (arith, e, is, first, raise)

-- and may be too large then
pub total_large : (shift sum u rest whole : ℕ) → sum * 10000 ^ shift + rest ≡ whole → whole ≡ u * 10000 ^ shift → u < 10 ^ 38 → 10 ^ 38 ≤ sum → ⊥
total_large shift sum u rest whole e is small large =
    let some : 1 ≤ 10000 ^ shift = one-le-pow shift 10000 (omega arith) in
    let under : sum ≤ u = le_of_mul-le-mul_right {m = sum} {n = u} {k = 10000 ^ shift} (omega (arith, e, is)) some in
    omega (arith, under, small, large)
