-- A numeric, sent.
use Rattle.std.proofs.Common.{◌≡◌, ◌≢◌, ◌⊎◌, inl, inr, ℕ, zero, suc, ℤ, pos, negsuc, int_lt, ◌+ℤ◌, ◌-ℤ◌, ◌≤ℤ◌, unsigned_abs, FitsSigned, ◌<◌, ◌≤◌, ◌*◌, ◌+◌, ◌-◌, ◌^◌, ◌/◌, ◌%◌, ◌==◌, ◌&&◌, Bool, true, false, if◌then◌else◌, Result, Ok, Err, List, [], ◌∷◌, ◌++◌, length, flat_map, Option, Some, None, ap, refl, sym, ◌∙◌, subst, arith, rules, w16}
use Rattle.std.specs.Bool.{nat_le, nat_lt}
use Rattle.std.specs.List.{AllByRecursion}
use Rattle.std.specs.Int.{to_be_bytes, cast_unsigned}
use Rattle.std.proofs.lemmas.Bool.{cases_lt, le-leb, leb-true, lt-ltb, ltb-true}
use Rattle.std.proofs.lemmas.Int.{ints}
use Rattle.std.proofs.Math.Nat.{mod-lt, mod-add-div', one-le-pow, pow-suc, mul-le-mul_right, div-lt_iff_lt-mul, add-mul-mod_self_left}
use Rattle.pg_types.specs.declared.fault.ValueFault.{ValueFault}
use Rattle.pg_types.specs.declared.fault.ValueFault.TheVariants as fault
use Rattle.pg_values.specs.declared.datum.Datum as d
use Rattle.pg_values.specs.declared.datum.Datum.{Datum}
use Rattle.pg_values.specs.Numbers.{i16_bytes}
use Rattle.pg_values.specs.Numerics.{digits_value, top, shift, HasFirst, HasLast, AreDigitsOf, IsNumericOf, IsNumeral, IsNumberOf, SpellsNumeric, plus, minus, not_a_number}
use Rattle.pg_values.specs.Groups.{IsWrittenNumber, IsSignOf, head_bytes}
use Rattle.pg_values.specs.Sending.{count_digits, digits_in, count_zeros, without_zeros, places_of, digits_send, sign_of, number_send, numeric_send}
use Rattle.pg_values.specs.Writing.{AreBytes, HasNone, WritesAs, WritesSent}
use Rattle.pg_values.proofs.GroupLaws.{digits_of, head_split, nan_bytes, zero_bytes, number_is, no_numeric}
use Rattle.pg_values.proofs.NumberLaws.{tens_grow}
use Rattle.pg_values.proofs.NumericOnly.{numeric_same}
use Rattle.pg_values.proofs.PlainLaws.{numeric_plain}
use Rattle.pg_values.proofs.SentCases.{both, and_both, same_nat, nat_same}
use Rattle.pg_values.proofs.SentValues.{SentSo, UnsentSo, some_if, none_if}

-- ---- so many digits of a number

powers : (c : ℕ) → 1 ≤ 10000 ^ c
powers c = one-le-pow c 10000 (omega arith)

one : 10000 ^ 0 ≡ 1
one = refl

digits_length : (c n : ℕ) → length (digits_in c n) ≡ c
digits_length zero n = refl
digits_length (suc c) n = ap suc (digits_length c (n % 10000 ^ c))

digit_below : (c n : ℕ) → n < 10000 ^ suc c → n / 10000 ^ c < 10000
digit_below c n less =
    let up : 10000 ^ suc c ≡ 10000 ^ c * 10000 = pow-suc 10000 c in
    (div-lt_iff_lt-mul {k = 10000 ^ c} {x = n} {y = 10000} (powers c)).1 (omega (arith, less, up))

digits_below : (c n : ℕ) → n < 10000 ^ c → AllByRecursion (λ digit. digit < 10000) (digits_in c n)
digits_below zero n less = tt
digits_below (suc c) n less = (digit_below c n less, digits_below c (n % 10000 ^ c) (mod-lt n (powers c)))

digits_sum : (c n : ℕ) → n < 10000 ^ suc c → digits_value c (digits_in (suc c) n) ≡ n
digits_sum zero n less =
    let whole : n % 10000 ^ 0 + n / 10000 ^ 0 * 10000 ^ 0 ≡ n = mod-add-div' n (10000 ^ 0) in
    let small : n % 10000 ^ 0 < 10000 ^ 0 = mod-lt n (powers 0) in
    omega (arith, whole, small, one)
digits_sum (suc b) n less =
    let unit : ℕ = 10000 ^ suc b in
    let whole : n % unit + n / unit * unit ≡ n = mod-add-div' n unit in
    let rest : digits_value b (digits_in (suc b) (n % unit)) ≡ n % unit = digits_sum b (n % unit) (mod-lt n (powers (suc b))) in
    let down : digits_value (suc b - 1) (digits_in (suc b) (n % unit)) ≡ digits_value b (digits_in (suc b) (n % unit)) = ap (λ (k : ℕ). digits_value k (digits_in (suc b) (n % unit))) (omega arith) in
    omega (arith, whole, rest, down)

has_first : (c n : ℕ) → 10000 ^ c ≤ n → HasFirst (digits_in (suc c) n)
has_first c n less e =
    let unit : ℕ = 10000 ^ c in
    let whole : n % unit + n / unit * unit ≡ n = mod-add-div' n unit in
    let small : n % unit < unit = mod-lt n (powers c) in
    let none : n / unit * unit ≡ 0 * unit = ap (λ (x : ℕ). x * unit) e in
    omega (arith, whole, small, none, less)

-- the last digit of what is left is that of the whole
last_left : (b n : ℕ) → n % 10000 ^ suc b % 10000 ≡ n % 10000
last_left b n =
    let unit : ℕ = 10000 ^ suc b in
    let q : ℕ = n / unit in
    let whole : n % unit + q * unit ≡ n = mod-add-div' n unit in
    let up : q * unit ≡ q * (10000 ^ b * 10000) = ap (λ (x : ℕ). q * x) (pow-suc 10000 b) in
    let same : n % unit + 10000 * (q * 10000 ^ b) ≡ n = omega (arith, whole, up) in
    sym (add-mul-mod_self_left (n % unit) 10000 (q * 10000 ^ b)) ∙ ap (λ (x : ℕ). x % 10000) same

has_last : (c n : ℕ) → n % 10000 ≢ 0 → HasLast (digits_in (suc c) n)
has_last zero n some = λ e.
    let whole : n % 10000 ^ 0 + n / 10000 ^ 0 * 10000 ^ 0 ≡ n = mod-add-div' n (10000 ^ 0) in
    let small : n % 10000 ^ 0 < 10000 ^ 0 = mod-lt n (powers 0) in
    let none : n ≡ 0 = omega (arith, whole, small, one, e) in
    some (ap (λ (x : ℕ). x % 10000) none)
has_last (suc b) n some = has_last b (n % 10000 ^ suc b) (λ e. some (sym (last_left b n) ∙ e))

-- ---- how many they are

up_one : (k : ℕ) → 10000 ^ (1 + k) ≡ 10000 ^ k * 10000
up_one k = let e : 1 + k ≡ suc k = omega arith in ap (λ (n : ℕ). 10000 ^ n) e ∙ pow-suc 10000 k

below_next : (most n : ℕ) → n < 10000 ^ suc most → n / 10000 < 10000 ^ most
below_next most n less = let up : 10000 ^ suc most ≡ 10000 ^ most * 10000 = pow-suc 10000 most in omega (arith, less, up)

not_same : (n k : ℕ) → (n == k) ≡ false → n ≢ k
not_same n k e same = absurd (cc (nat_same n k same, e))

count_small : (most n : ℕ) → n < 10000 ^ most → n < 10000 ^ count_digits most n
count_small zero n less = less
count_small (suc most) n less = go (n == 0) refl (count_small most (n / 10000) (below_next most n less))
  where
    go : (b : Bool) → (n == 0) ≡ b → n / 10000 < 10000 ^ count_digits most (n / 10000) → n < 10000 ^ (if b then 0 else 1 + count_digits most (n / 10000))
    go true e rest = let none : n ≡ 0 = same_nat n 0 e in omega (arith, none, one)
    go false e rest = omega (arith, rest, up_one (count_digits most (n / 10000)))

count_least : (most n c : ℕ) → count_digits most n ≡ suc c → 10000 ^ c ≤ n
count_least zero n c e = absurd (omega (arith, e))
count_least (suc most) n c e = go (n == 0) refl (λ j f. count_least most (n / 10000) j f) c e
  where
    go : (b : Bool) → (n == 0) ≡ b → ((j : ℕ) → count_digits most (n / 10000) ≡ suc j → 10000 ^ j ≤ n / 10000)
        → (k : ℕ) → (if b then 0 else 1 + count_digits most (n / 10000)) ≡ suc k → 10000 ^ k ≤ n
    go true is least k e = absurd (omega (arith, e))
    go false is least zero e = let some : n ≢ 0 = not_same n 0 is in omega (arith, some, one)
    go false is least (suc j) e =
        let rest : 10000 ^ j ≤ n / 10000 = least j (omega (arith, e)) in
        let up : 10000 ^ suc j ≡ 10000 ^ j * 10000 = pow-suc 10000 j in
        omega (arith, rest, up)

count_most : (most n : ℕ) → count_digits most n ≤ most
count_most zero n = omega arith
count_most (suc most) n = go (n == 0) (count_most most (n / 10000))
  where
    go : (b : Bool) → count_digits most (n / 10000) ≤ most → (if b then 0 else 1 + count_digits most (n / 10000)) ≤ suc most
    go true rest = omega arith
    go false rest = omega (arith, rest)

-- ---- the zeros at the end

zeros_sum : (most n : ℕ) → without_zeros most n * 10000 ^ count_zeros most n ≡ n
zeros_sum zero n = omega (arith, one)
zeros_sum (suc most) n = go (n % 10000 == 0) refl (zeros_sum most (n / 10000))
  where
    go : (b : Bool) → (n % 10000 == 0) ≡ b → without_zeros most (n / 10000) * 10000 ^ count_zeros most (n / 10000) ≡ n / 10000
        → (if b then without_zeros most (n / 10000) else n) * 10000 ^ (if b then 1 + count_zeros most (n / 10000) else 0) ≡ n
    go true e rest =
        let m : ℕ = without_zeros most (n / 10000) in
        let z : ℕ = count_zeros most (n / 10000) in
        let up : m * 10000 ^ (1 + z) ≡ m * (10000 ^ z * 10000) = ap (λ (x : ℕ). m * x) (up_one z) in
        let none : n % 10000 ≡ 0 = same_nat (n % 10000) 0 e in
        omega (arith, rest, up, none)
    go false e rest = omega (arith, one)

zeros_some : (most n : ℕ) → n ≢ 0 → n < 10000 ^ most → without_zeros most n % 10000 ≢ 0
zeros_some zero n some less = absurd (some (omega (arith, less, one)))
zeros_some (suc most) n some less = go (n % 10000 == 0) refl (λ rest. zeros_some most (n / 10000) rest (below_next most n less))
  where
    go : (b : Bool) → (n % 10000 == 0) ≡ b → (n / 10000 ≢ 0 → without_zeros most (n / 10000) % 10000 ≢ 0) → (if b then without_zeros most (n / 10000) else n) % 10000 ≢ 0
    go true e rest =
        let none : n % 10000 ≡ 0 = same_nat (n % 10000) 0 e in
        rest (λ z. some (omega (arith, none, z)))
    go false e rest = not_same (n % 10000) 0 e

zeros_less : (most n : ℕ) → without_zeros most n ≤ n
zeros_less zero n = omega arith
zeros_less (suc most) n = go (n % 10000 == 0) (zeros_less most (n / 10000))
  where
    go : (b : Bool) → without_zeros most (n / 10000) ≤ n / 10000 → (if b then without_zeros most (n / 10000) else n) ≤ n
    go true rest = omega (arith, rest)
    go false rest = omega arith

zeros_few : (most n : ℕ) → count_zeros most n ≤ most
zeros_few zero n = omega arith
zeros_few (suc most) n = go (n % 10000 == 0) (zeros_few most (n / 10000))
  where
    go : (b : Bool) → count_zeros most (n / 10000) ≤ most → (if b then 1 + count_zeros most (n / 10000) else 0) ≤ suc most
    go true rest = omega (arith, rest)
    go false rest = omega arith

-- ---- the written form

-- a number of at most 38 decimals, and at most three more, is below 10,000 to the power of 11
small_number : (number pad : ℕ) → number < 10 ^ 38 → pad ≤ 3 → number * 10 ^ pad < 10000 ^ 11
small_number number pad small less =
    let ten : 10 ^ pad ≤ 10 ^ 3 = tens_grow pad 3 less in
    let grows : number * 10 ^ pad ≤ 10 ^ 38 * 10 ^ pad = mul-le-mul_right (10 ^ pad) (omega (arith, small)) in
    omega (arith, ten, grows)

some_number : (number pad : ℕ) → number ≢ 0 → number * 10 ^ pad ≢ 0
some_number number pad some e =
    let ten : 1 ≤ 10 ^ pad = one-le-pow pad 10 (omega arith) in
    let grows : 1 * 10 ^ pad ≤ number * 10 ^ pad = mul-le-mul_right (10 ^ pad) (omega (arith, some)) in
    omega (arith, ten, grows, e)

record Counted (n : ℕ) : Type 0 where
  less : ℕ
  count_is : count_digits 11 (without_zeros 11 n) ≡ suc less
  small : without_zeros 11 n < 10000 ^ suc less
  large : 10000 ^ less ≤ without_zeros 11 n
  last : without_zeros 11 n % 10000 ≢ 0
  few : less ≤ 10

counted : (n : ℕ) → n ≢ 0 → n < 10000 ^ 11 → Counted n
counted n some less = go (count_digits 11 m) refl
  where
    m : ℕ
    m = without_zeros 11 n

    last : m % 10000 ≢ 0
    last = zeros_some 11 n some less

    below : m < 10000 ^ 11
    below = let under = zeros_less 11 n in omega (arith, under, less)

    go : (c : ℕ) → count_digits 11 m ≡ c → Counted n
    go zero e =
        let small : m < 10000 ^ count_digits 11 m = count_small 11 m below in
        let size : 10000 ^ count_digits 11 m ≡ 10000 ^ 0 = ap (λ (k : ℕ). 10000 ^ k) e in
        let none : m ≡ 0 = omega (arith, small, size, one) in
        absurd (last (ap (λ (x : ℕ). x % 10000) none))
    go (suc c) e = record {
      less = c;
      count_is = e;
      small = subst (λ (k : ℕ). m < 10000 ^ k) e (count_small 11 m below);
      large = count_least 11 m c e;
      last = last;
      few = let most = count_most 11 m in omega (arith, most, e);
    }

weight_is : (count c noughts places : ℕ) → count ≡ suc c → (pos (count + noughts) -ℤ pos (1 + places)) +ℤ pos places ≡ pos (c + noughts)
weight_is count c noughts places e = omega (arith, ints, e)

up_fits : (n : ℕ) → n ≤ 22 → FitsSigned w16 (pos n)
up_fits n less = record { sfits = omega (arith, ints, less) }

down_fits : (n : ℕ) → n ≤ 22 → FitsSigned w16 (negsuc n)
down_fits n less = record { sfits = omega (arith, ints, less) }

difference_fits : (m n : ℕ) → m ≤ 22 → n ≤ 22 → FitsSigned w16 (pos m -ℤ pos n)
difference_fits m n a b = go (cases_lt m n)
  where
    go : (m < n) ⊎ (n ≤ m) → FitsSigned w16 (pos m -ℤ pos n)
    go (inl less) =
        let e : negsuc (n - m - 1) ≡ pos m -ℤ pos n = omega (arith, ints, less) in
        subst (FitsSigned w16) e (down_fits (n - m - 1) (omega (arith, b)))
    go (inr less) =
        let e : pos (m - n) ≡ pos m -ℤ pos n = omega (arith, ints, less) in
        subst (FitsSigned w16) e (up_fits (m - n) (omega (arith, a)))

weight_fits : (count noughts places : ℕ) → count ≤ 11 → noughts ≤ 11 → places ≤ 10 → FitsSigned w16 (pos (count + noughts) -ℤ pos (1 + places))
weight_fits count noughts places a b c = difference_fits (count + noughts) (1 + places) (omega (arith, a, b)) (omega (arith, c))

digits_formed : (number sign scale : ℕ) → number ≢ 0 → number < 10 ^ 38 → scale ≤ 38 → sign < 2 ^ 16
    → IsWrittenNumber number sign scale (digits_send sign scale (number * 10 ^ (4 * places_of scale - scale)))
digits_formed number sign scale some small few signed =
    let pad : ℕ = 4 * places_of scale - scale in
    let whole : ℕ = number * 10 ^ pad in
    let pad_less : pad ≤ 3 = omega (arith, few) in
    let c : Counted whole = counted whole (some_number number pad some) (small_number number pad small pad_less) in
    let m : ℕ = without_zeros 11 whole in
    let count : ℕ = count_digits 11 m in
    let zeros : ℕ = count_zeros 11 whole in
    let ds : List ℕ = digits_in count m in
    let weight : ℤ = pos (count + zeros) -ℤ pos (1 + places_of scale) in
    let many : length ds ≡ count = digits_length count m in
    record {
      weight = weight;
      digits = ds;
      form = record {
        few = omega (arith, many, c.count_is, c.few);
        below = subst (λ (k : ℕ). AllByRecursion (λ digit. digit < 10000) (digits_in k m)) (sym c.count_is) (digits_below (suc c.less) m c.small);
        signed = signed;
        scaled = omega (arith, few);
        fits = weight_fits count zeros (places_of scale) (omega (arith, c.count_is, c.few)) (zeros_few 11 whole) (omega (arith, few));
        spelled = head_split count weight sign scale (flat_map (to_be_bytes w16) ds)
            ∙ ap (λ (n : ℕ). to_be_bytes w16 n ++ (i16_bytes weight ++ (to_be_bytes w16 sign ++ (to_be_bytes w16 scale ++ flat_map (to_be_bytes w16) ds)))) (sym many);
        first = λ p. subst (λ (k : ℕ). HasFirst (digits_in k m)) (sym c.count_is) (has_first c.less m c.large);
        last = λ p. subst (λ (k : ℕ). HasLast (digits_in k m)) (sym c.count_is) (has_last c.less m c.last);
      };
      digits_are = digits_of m number c.less zeros (places_of scale) scale pad weight ds (omega (arith, many, c.count_is))
          (subst (λ (k : ℕ). digits_value c.less (digits_in k m) ≡ m) (sym c.count_is) (digits_sum c.less m c.small))
          (weight_is count c.less zeros (places_of scale) c.count_is) (zeros_sum 11 whole) (omega (arith, few));
    }

not_below : (z : ℤ) → int_lt z (pos 0) ≡ false → pos 0 ≤ℤ z
not_below z e = search rules

below_zero : (z : ℤ) → int_lt z (pos 0) ≡ true → z ≤ℤ pos 0
below_zero z e = search rules

sign_is : (z : ℤ) → IsSignOf z (sign_of z) × (sign_of z < 2 ^ 16)
sign_is z = go (int_lt z (pos 0)) refl
  where
    go : (b : Bool) → int_lt z (pos 0) ≡ b → IsSignOf z (if b then minus else plus) × ((if b then minus else plus) < 2 ^ 16)
    go true e = (inr (refl, below_zero z e), omega arith)
    go false e = (inl (refl, not_below z e), omega arith)

number_formed : (z : ℤ) (scale : ℕ) → scale ≤ 38 → unsigned_abs z < 10 ^ 38 → SpellsNumeric true (d.Numeric z scale) (number_send z scale)
number_formed z scale few small = go (unsigned_abs z == 0) refl
  where
    go : (b : Bool) → (unsigned_abs z == 0) ≡ b → SpellsNumeric true (d.Numeric z scale)
        (if b then head_bytes 0 (pos 0) plus scale else digits_send (sign_of z) scale (unsigned_abs z * 10 ^ (4 * places_of scale - scale)))
    go true e = zero_bytes z scale (head_bytes 0 (pos 0) plus scale) (same_nat (unsigned_abs z) 0 e) few refl
    go false e =
        let some : unsigned_abs z ≢ 0 = not_same (unsigned_abs z) 0 e in
        let sign = sign_is z in
        number_is z (sign_of z) scale (digits_send (sign_of z) scale (unsigned_abs z * 10 ^ (4 * places_of scale - scale))) some sign.0 few small
        (digits_formed (unsigned_abs z) (sign_of z) scale some small few sign.1)

fit_numeric : (z : ℤ) (scale : ℕ) → (nat_le scale 38 && nat_lt (unsigned_abs z) (10 ^ 38)) ≡ true → (scale ≤ 38) × (unsigned_abs z < 10 ^ 38)
fit_numeric z scale e =
    let p = both (nat_le scale 38) (nat_lt (unsigned_abs z) (10 ^ 38)) e in
    (leb-true scale 38 p.0, ltb-true (unsigned_abs z) (10 ^ 38) p.1)

numeric_fit : (z : ℤ) (scale : ℕ) → scale ≤ 38 → unsigned_abs z < 10 ^ 38 → (nat_le scale 38 && nat_lt (unsigned_abs z) (10 ^ 38)) ≡ true
numeric_fit z scale few small = and_both (nat_le scale 38) (nat_lt (unsigned_abs z) (10 ^ 38)) (le-leb scale 38 few) (lt-ltb (unsigned_abs z) (10 ^ 38) small)

numeric_is : (z : ℤ) (scale : ℕ) (bytes : List ℕ) → numeric_send (d.Numeric z scale) ≡ Some bytes → SpellsNumeric true (d.Numeric z scale) bytes
numeric_is z scale bytes e =
    let p = some_if (nat_le scale 38 && nat_lt (unsigned_abs z) (10 ^ 38)) (number_send z scale) bytes e in
    let fit = fit_numeric z scale p.0 in
    subst (SpellsNumeric true (d.Numeric z scale)) p.1 (number_formed z scale fit.0 fit.1)

nan_is : (bytes : List ℕ) → numeric_send d.NotANumber ≡ Some bytes → SpellsNumeric true d.NotANumber bytes
nan_is bytes e = let own : head_bytes 0 (pos 0) not_a_number 0 ≡ bytes = cc e in nan_bytes bytes (sym own)

numeric_no : (z : ℤ) (scale : ℕ) → numeric_send (d.Numeric z scale) ≡ None → HasNone (SpellsNumeric false (d.Numeric z scale))
numeric_no z scale e =
    no_numeric z scale (λ few small. absurd (cc (numeric_fit z scale few small, none_if (nat_le scale 38 && nat_lt (unsigned_abs z) (10 ^ 38)) (number_send z scale) e)))

-- ---- each datum

pub numeric_formed : SentSo numeric_send (SpellsNumeric true)
numeric_formed d.Null bytes e = absurd (cc e)
numeric_formed (d.Bool b) bytes e = absurd (cc e)
numeric_formed (d.Int z) bytes e = absurd (cc e)
numeric_formed (d.Text t) bytes e = absurd (cc e)
numeric_formed (d.Bytes b) bytes e = absurd (cc e)
numeric_formed (d.Label t) bytes e = absurd (cc e)
numeric_formed d.NotANumber bytes e = nan_is bytes e
numeric_formed (d.Numeric z scale) bytes e = numeric_is z scale bytes e
numeric_formed (d.Date z) bytes e = absurd (cc e)
numeric_formed (d.Timestamp z) bytes e = absurd (cc e)
numeric_formed (d.Uuid b) bytes e = absurd (cc e)
numeric_formed (d.Array' dims shape row) bytes e = absurd (cc e)
numeric_formed (d.Range' empty lower upper shape row) bytes e = absurd (cc e)
numeric_formed (d.Composite' shape row) bytes e = absurd (cc e)

no_numeral : (v : Datum) → ((z : ℤ) (scale : ℕ) → v ≡ d.Numeric z scale → ⊥) → (v ≡ d.NotANumber → ⊥) → HasNone (SpellsNumeric false v)
no_numeral v number nan bytes are is = go is.is
  where
    go : IsNumeral is.sign is.scale is.weight is.digits v → ⊥
    go (inl n) = number n.unscaled is.scale n.same
    go (inr n) = nan n.same

pub numeric_unsent : UnsentSo numeric_send (SpellsNumeric false)
numeric_unsent d.Null e = no_numeral d.Null (λ y s same. absurd (cc same)) (λ same. absurd (cc same))
numeric_unsent (d.Bool b) e = no_numeral (d.Bool b) (λ y s same. absurd (cc same)) (λ same. absurd (cc same))
numeric_unsent (d.Int z) e = no_numeral (d.Int z) (λ y s same. absurd (cc same)) (λ same. absurd (cc same))
numeric_unsent (d.Text t) e = no_numeral (d.Text t) (λ y s same. absurd (cc same)) (λ same. absurd (cc same))
numeric_unsent (d.Bytes b) e = no_numeral (d.Bytes b) (λ y s same. absurd (cc same)) (λ same. absurd (cc same))
numeric_unsent (d.Label t) e = no_numeral (d.Label t) (λ y s same. absurd (cc same)) (λ same. absurd (cc same))
numeric_unsent d.NotANumber e = absurd (cc e)
numeric_unsent (d.Numeric z scale) e = numeric_no z scale e
numeric_unsent (d.Date z) e = no_numeral (d.Date z) (λ y s same. absurd (cc same)) (λ same. absurd (cc same))
numeric_unsent (d.Timestamp z) e = no_numeral (d.Timestamp z) (λ y s same. absurd (cc same)) (λ same. absurd (cc same))
numeric_unsent (d.Uuid b) e = no_numeral (d.Uuid b) (λ y s same. absurd (cc same)) (λ same. absurd (cc same))
numeric_unsent (d.Array' dims shape row) e = no_numeral (d.Array' dims shape row) (λ y s same. absurd (cc same)) (λ same. absurd (cc same))
numeric_unsent (d.Range' empty lower upper shape row) e = no_numeral (d.Range' empty lower upper shape row) (λ y s same. absurd (cc same)) (λ same. absurd (cc same))
numeric_unsent (d.Composite' shape row) e = no_numeral (d.Composite' shape row) (λ y s same. absurd (cc same)) (λ same. absurd (cc same))

-- ---- written so, it is sent

-- its bytes are the ones that are sent
number_sent : (v : Datum) (bytes : List ℕ) (is : SpellsNumeric true v bytes) → (sent : Option (List ℕ)) → numeric_send v ≡ sent → sent ≡ Some bytes
number_sent v bytes is (Some own) e = ap (λ (l : List ℕ). Some l) (numeric_same v own bytes (numeric_formed v own e) is)
number_sent v bytes is None e = absurd (go is.is)
  where
    go : IsNumeral is.sign is.scale is.weight is.digits v → ⊥
    go (inl n) =
        let told : numeric_send (d.Numeric n.unscaled is.scale) ≡ None = ap numeric_send (sym n.same) ∙ e in
        absurd (cc (numeric_fit n.unscaled is.scale n.few n.small, none_if (nat_le is.scale 38 && nat_lt (unsigned_abs n.unscaled) (10 ^ 38)) (number_send n.unscaled is.scale) told))
    go (inr n) = let told : numeric_send d.NotANumber ≡ None = ap numeric_send (sym n.same) ∙ e in absurd (cc told)

-- its bytes are bytes
both_bytes : (a b : List ℕ) → AreBytes a → AreBytes b → AreBytes (a ++ b)
both_bytes [] b x y = y
both_bytes (n ∷ a) b (less, x) y = (less, both_bytes a b x y)

half_bytes : (n : ℕ) → AreBytes (to_be_bytes w16 n)
half_bytes n = (omega arith, (omega arith, tt))

digits_bytes : (ds : List ℕ) → AreBytes (flat_map (to_be_bytes w16) ds)
digits_bytes [] = tt
digits_bytes (x ∷ ds) = both_bytes (to_be_bytes w16 x) (flat_map (to_be_bytes w16) ds) (half_bytes x) (digits_bytes ds)

form_bytes : (v : Datum) (bytes : List ℕ) → SpellsNumeric true v bytes → AreBytes bytes
form_bytes v bytes is =
    subst AreBytes (sym is.form.spelled)
    (both_bytes (to_be_bytes w16 (length is.digits)) signed (half_bytes (length is.digits))
    (both_bytes (i16_bytes is.weight) scaled (half_bytes (cast_unsigned w16 is.weight))
    (both_bytes (to_be_bytes w16 is.sign) (to_be_bytes w16 is.scale ++ tail) (half_bytes is.sign)
    (both_bytes (to_be_bytes w16 is.scale) tail (half_bytes is.scale) (digits_bytes is.digits)))))
  where
    tail : List ℕ
    tail = flat_map (to_be_bytes w16) is.digits

    scaled : List ℕ
    scaled = to_be_bytes w16 is.sign ++ (to_be_bytes w16 is.scale ++ tail)

    signed : List ℕ
    signed = i16_bytes is.weight ++ scaled

unsent_is : (v : Datum) (sent : Option (List ℕ)) → numeric_send v ≡ sent → HasNone (SpellsNumeric false v) → sent ≡ None
unsent_is v None e none = refl
unsent_is v (Some own) e none = let is = numeric_formed v own e in absurd (none own (form_bytes v own is) (numeric_plain v own is))

pub numeric_sent : (v : Datum) (old new : List ℕ) (r : Result (Unit {0}) ValueFault) → WritesAs (SpellsNumeric true v) (SpellsNumeric false v) old new r → WritesSent (numeric_send v) old new r
numeric_sent v old new (Ok x) wrote = (wrote.bytes, number_sent v wrote.bytes wrote.formed (numeric_send v) refl, wrote.behind)
numeric_sent v old new (Err fault.BadValue) wrote = (unsent_is v (numeric_send v) refl wrote.0, wrote.1)
numeric_sent v old new (Err fault.OutOfMemory) wrote = wrote
numeric_sent v old new (Err fault.WasNull) wrote = absurd wrote
numeric_sent v old new (Err (fault.WrongType wrong)) wrote = absurd wrote
