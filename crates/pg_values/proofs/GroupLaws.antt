-- A number in base 10,000, and the digits that are written of it.
use Rattle.std.proofs.Common.{◌≡◌, ◌≢◌, ◌⊎◌, inl, inr, ℕ, zero, suc, ℤ, pos, negsuc, ◌+ℤ◌, unsigned_abs, FitsSigned, ◌<◌, ◌≤◌, ◌*◌, ◌+◌, ◌-◌, ◌^◌, ◌/◌, ◌%◌, true, false, Result, Ok, Err, List, [], ◌∷◌, ◌++◌, length, flat_map, ap, refl, sym, ◌∙◌, subst, arith, append_assoc, length-append, w16}
use Rattle.std.specs.List.{AllByRecursion}
use Rattle.std.specs.Int.{to_be_bytes}
use Rattle.std.proofs.lemmas.Int.{ints}
use Rattle.std.proofs.lemmas.List.{append-nil, flat_map_more}
use Rattle.std.proofs.lemmas.Nat.{pow-add}
use Rattle.std.proofs.lemmas.Bool.{cases_lt}
use Rattle.std.proofs.Math.Nat.{mod-lt, div-lt_iff_lt-mul, mul-div_cancel, mod-add-div', one-le-pow, one-le-mul, pow-suc, mul-le-mul_right}
use Rattle.pg_values.specs.Numbers.{i16_bytes}
use Rattle.pg_values.specs.Numerics.{digits_value, top, shift, HasFirst, HasLast, AreDigitsOf, IsNumeral, SpellsNumeric}
use Rattle.pg_values.specs.Groups.{AreGroups, AreDigitsIn, IsWrittenNumber, IsSignOf, head_bytes}
use Rattle.pg_types.specs.declared.fault.ValueFault.{ValueFault}
use Rattle.pg_values.specs.declared.datum.Datum as d
use Rattle.pg_values.specs.declared.datum.Datum.{Datum}
use Rattle.pg_values.specs.Writing.{Fills, HasNone, Puts, WritesAs}
use Rattle.pg_values.proofs.WriteLaws.{appended, begun, first, lacked}
use Rattle.pg_values.proofs.NumberLaws.{tens, four_tens, low_small, tens_grow}
use Rattle.pg_values.proofs.DigitLaws.{below_more}

pub cancel : (m n q : ℕ) → 1 ≤ q → m * q ≡ n * q → m ≡ n
cancel m n q some e = sym (mul-div_cancel m some) ∙ ap (λ (x : ℕ). x / q) e ∙ mul-div_cancel n some

-- ---- groups

pub pad_is : (pad : ℕ) → pad ≤ 3 → 10 ^ (4 - pad) * 10 ^ pad ≡ 10000
pad_is pad less = let e : 4 - pad + pad ≡ 4 = omega arith in sym (pow-add 10 (4 - pad) pad) ∙ ap (λ (x : ℕ). 10 ^ x) e

pub first_groups : (number pad : ℕ) → pad ≤ 3 → (number / 10 ^ (4 - pad) * 10000 + number % 10 ^ (4 - pad) * 10 ^ pad) * 10000 ^ 0 ≡ number * 10 ^ pad
first_groups number pad less =
    let unit : ℕ = 10 ^ (4 - pad) in
    let whole : number % unit + number / unit * unit ≡ number = mod-add-div' number unit in
    let ten : unit * 10 ^ pad ≡ 10000 = pad_is pad less in
    let high : number / unit * (unit * 10 ^ pad) ≡ number / unit * 10000 = ap (λ (x : ℕ). number / unit * x) ten in
    let both : (number % unit + number / unit * unit) * 10 ^ pad ≡ number * 10 ^ pad = ap (λ (x : ℕ). x * 10 ^ pad) whole in
    omega (arith, high, both)

pub next_groups : (front zeros whole : ℕ) → (front * 10000 + 0) * 10000 ^ zeros ≡ whole → (front / 10000 * 10000 + front % 10000) * 10000 ^ (zeros + 1) ≡ whole
next_groups front zeros whole e =
    let split : front % 10000 + front / 10000 * 10000 ≡ front = mod-add-div' front 10000 in
    let up : zeros + 1 ≡ suc zeros = omega arith in
    let more : 10000 ^ (zeros + 1) ≡ 10000 ^ zeros * 10000 = ap (λ (n : ℕ). 10000 ^ n) up ∙ pow-suc 10000 zeros in
    let same : (front / 10000 * 10000 + front % 10000) * 10000 ^ (zeros + 1) ≡ front * (10000 ^ zeros * 10000) =
    ap (λ (x : ℕ). x * 10000 ^ (zeros + 1)) (omega (arith, split)) ∙ ap (λ (x : ℕ). front * x) more in
    omega (arith, same, e)

-- eleven zeros are too many
pub no_groups : (value number pad : ℕ) → number ≢ 0 → number < 10 ^ 38 → pad ≤ 3 → value * 10000 ^ 11 ≡ number * 10 ^ pad → ⊥
no_groups zero number pad some small less e =
    let ten = tens pad in
    let grows : 1 * 10 ^ pad ≤ number * 10 ^ pad = mul-le-mul_right (10 ^ pad) (omega (arith, some)) in
    omega (arith, e, ten, grows)
no_groups (suc value) number pad some small less e =
    let ten : 10 ^ pad ≤ 10 ^ 3 = tens_grow pad 3 less in
    let grows : number * 10 ^ pad ≤ 10 ^ 38 * 10 ^ pad = mul-le-mul_right (10 ^ pad) (omega (arith, small)) in
    omega (arith, e, ten, grows)

-- ---- the value of digits

pub value_more : (power : ℕ) (ds : List ℕ) (x : ℕ) → length ds ≤ power → digits_value power (ds ++ x ∷ []) ≡ digits_value power ds + x * 10000 ^ (power - length ds)
value_more power [] x less = let e : power - 0 ≡ power = omega arith in let f : x * 10000 ^ (power - 0) ≡ x * 10000 ^ power = ap (λ (n : ℕ). x * 10000 ^ n) e in omega (arith, f)
value_more power (y ∷ ds) x less =
    let rest = value_more (power - 1) ds x (omega (arith, less)) in
    let e : power - 1 - length ds ≡ power - suc (length ds) = omega arith in
    let f : x * 10000 ^ (power - 1 - length ds) ≡ x * 10000 ^ (power - suc (length ds)) = ap (λ (n : ℕ). x * 10000 ^ n) e in
    omega (arith, rest, f)

pub value_raised : (r power : ℕ) (ds : List ℕ) → length ds ≤ power + 1 → digits_value (power + r) ds ≡ digits_value power ds * 10000 ^ r
value_raised r power [] less = omega arith
value_raised r power (x ∷ []) less =
    let e : 10000 ^ (power + r) ≡ 10000 ^ power * 10000 ^ r = pow-add 10000 power r in
    let f : x * 10000 ^ (power + r) ≡ x * (10000 ^ power * 10000 ^ r) = ap (λ (n : ℕ). x * n) e in
    omega (arith, f)
value_raised r power (x ∷ y ∷ ds) less =
    let e : 10000 ^ (power + r) ≡ 10000 ^ power * 10000 ^ r = pow-add 10000 power r in
    let f : x * 10000 ^ (power + r) ≡ x * (10000 ^ power * 10000 ^ r) = ap (λ (n : ℕ). x * n) e in
    let low : digits_value (power - 1 + r) (y ∷ ds) ≡ digits_value (power - 1) (y ∷ ds) * 10000 ^ r = value_raised r (power - 1) (y ∷ ds) (omega (arith, less)) in
    let same : power + r - 1 ≡ power - 1 + r = omega (arith, less) in
    let moved : digits_value (power + r - 1) (y ∷ ds) ≡ digits_value (power - 1 + r) (y ∷ ds) = ap (λ (n : ℕ). digits_value n (y ∷ ds)) same in
    omega (arith, f, low, moved)

-- one more digit behind the digits of the front
pub whole_value : (front last len : ℕ) (ds : List ℕ) → length ds ≡ len → digits_value (len - 1) ds ≡ front → digits_value len (ds ++ last ∷ []) ≡ front * 10000 + last
whole_value front last zero [] e is = omega (arith, is)
whole_value front last zero (x ∷ ds) e is = absurd (omega (arith, e))
whole_value front last (suc len) ds e is =
    let more : digits_value (suc len) (ds ++ last ∷ []) ≡ digits_value (suc len) ds + last * 10000 ^ (suc len - length ds) = value_more (suc len) ds last (omega (arith, e)) in
    let none : suc len - length ds ≡ 0 = omega (arith, e) in
    let one : last * 10000 ^ (suc len - length ds) ≡ last * 1 = ap (λ (n : ℕ). last * 10000 ^ n) none in
    let raise : digits_value (len + 1) ds ≡ digits_value len ds * 10000 ^ 1 = value_raised 1 len ds (omega (arith, e)) in
    let same : digits_value (len + 1) ds ≡ digits_value (suc len) ds = ap (λ (n : ℕ). digits_value n ds) (omega arith) in
    let down : len ≡ suc len - 1 = omega arith in
    let front_is : digits_value len ds ≡ front = ap (λ (n : ℕ). digits_value n ds) down ∙ is in
    omega (arith, more, one, raise, same, front_is)

-- ---- both ends

pub has_last : (ds : List ℕ) (x : ℕ) → x ≢ 0 → HasLast (ds ++ x ∷ [])
has_last [] x some = some
has_last (y ∷ []) x some = some
has_last (y ∷ z ∷ ds) x some = has_last (z ∷ ds) x some

pub has_first : (ds : List ℕ) (x front len : ℕ) → x ≢ 0 → length ds ≡ len → AllByRecursion (λ digit. digit < 10000) ds → digits_value (len - 1) ds ≡ front
    → (0 < len → 10000 ^ (len - 1) ≤ front) → HasFirst (ds ++ x ∷ [])
has_first [] x front len some e below is least = some
has_first (zero ∷ ds) x front len some e (small, below) is least =
    let low : digits_value (len - 1 - 1) ds < 10000 ^ (len - 1) = low_small (len - 1) ds below (omega (arith, e)) in
    let more : 10000 ^ (len - 1) ≤ front = least (omega (arith, e)) in
    absurd (omega (arith, low, more, is))
has_first (suc y ∷ ds) x front len some e below is least = λ z. omega (arith, z)

-- ---- the weight

pub weighed : (len zeros places : ℕ) (w : ℤ) → w +ℤ pos places ≡ pos (len + zeros) → (top w (len + 1) ≡ len + (zeros - places)) × (shift w (len + 1) ≡ places - zeros)
weighed len zeros places (pos n) e = (omega (arith, ints, e), omega (arith, ints, e))
weighed len zeros places (negsuc n) e = (omega (arith, ints, e), omega (arith, ints, e))

-- the digits are those of the number divided by ten to the power of scale
scaled : (value number zeros places scale pad : ℕ) → value * 10000 ^ zeros ≡ number * 10 ^ pad → scale + pad ≡ 4 * places
    → value * 10000 ^ (zeros - places) * 10 ^ scale ≡ number * 10000 ^ (places - zeros)
scaled value number zeros places scale pad e four = pick (cases_lt zeros places)
  where
    powers : 10000 ^ places ≡ 10 ^ scale * 10 ^ pad
    powers = four_tens places ∙ ap (λ (n : ℕ). 10 ^ n) (sym four) ∙ pow-add 10 scale pad

    below : zeros < places → value * 10000 ^ (zeros - places) * 10 ^ scale ≡ number * 10000 ^ (places - zeros)
    below less =
        let none : zeros - places ≡ 0 = omega (arith, less) in
        let one : value * 10000 ^ (zeros - places) * 10 ^ scale ≡ value * 1 * 10 ^ scale = ap (λ (n : ℕ). value * 10000 ^ n * 10 ^ scale) none in
        let split : places ≡ places - zeros + zeros = omega (arith, less) in
        let parts : 10000 ^ places ≡ 10000 ^ (places - zeros) * 10000 ^ zeros = ap (λ (n : ℕ). 10000 ^ n) split ∙ pow-add 10000 (places - zeros) zeros in
        let more : value * 10000 ^ zeros * 10 ^ scale ≡ number * 10 ^ pad * 10 ^ scale = ap (λ (n : ℕ). n * 10 ^ scale) e in
        let also : number * (10 ^ scale * 10 ^ pad) ≡ number * (10000 ^ (places - zeros) * 10000 ^ zeros) = ap (λ (n : ℕ). number * n) (sym powers ∙ parts) in
        let both : value * 10 ^ scale * 10000 ^ zeros ≡ number * 10000 ^ (places - zeros) * 10000 ^ zeros = omega (arith, more, also) in
        let done : value * 10 ^ scale ≡ number * 10000 ^ (places - zeros) =
        cancel (value * 10 ^ scale) (number * 10000 ^ (places - zeros)) (10000 ^ zeros) (one-le-pow zeros 10000 (omega arith)) both in
        omega (arith, one, done)

    above : places ≤ zeros → value * 10000 ^ (zeros - places) * 10 ^ scale ≡ number * 10000 ^ (places - zeros)
    above less =
        let none : places - zeros ≡ 0 = omega (arith, less) in
        let one : number * 10000 ^ (places - zeros) ≡ number * 1 = ap (λ (n : ℕ). number * 10000 ^ n) none in
        let split : zeros ≡ places + (zeros - places) = omega (arith, less) in
        let parts : 10000 ^ zeros ≡ 10000 ^ places * 10000 ^ (zeros - places) = ap (λ (n : ℕ). 10000 ^ n) split ∙ pow-add 10000 places (zeros - places) in
        let more : value * 10000 ^ zeros ≡ value * (10 ^ scale * 10 ^ pad * 10000 ^ (zeros - places)) =
        ap (λ (n : ℕ). value * n) (parts ∙ ap (λ (n : ℕ). n * 10000 ^ (zeros - places)) powers) in
        let both : value * 10000 ^ (zeros - places) * 10 ^ scale * 10 ^ pad ≡ number * 10 ^ pad = omega (arith, e, more) in
        let done : value * 10000 ^ (zeros - places) * 10 ^ scale ≡ number =
        cancel (value * 10000 ^ (zeros - places) * 10 ^ scale) number (10 ^ pad) (tens pad) both in
        omega (arith, one, done)

    pick : (zeros < places) ⊎ (places ≤ zeros) → value * 10000 ^ (zeros - places) * 10 ^ scale ≡ number * 10000 ^ (places - zeros)
    pick (inl less) = below less
    pick (inr less) = above less

pub digits_of : (value number len zeros places scale pad : ℕ) (w : ℤ) (digits : List ℕ) → length digits ≡ len + 1 → digits_value len digits ≡ value
    → w +ℤ pos places ≡ pos (len + zeros) → value * 10000 ^ zeros ≡ number * 10 ^ pad → scale + pad ≡ 4 * places → AreDigitsOf number scale w digits
digits_of value number len zeros places scale pad w digits count is weight e four =
    let ends = weighed len zeros places w weight in
    let top_is : top w (length digits) ≡ len + (zeros - places) = ap (λ (n : ℕ). top w n) count ∙ ends.0 in
    let shift_is : shift w (length digits) ≡ places - zeros = ap (λ (n : ℕ). shift w n) count ∙ ends.1 in
    let raise : digits_value (len + (zeros - places)) digits ≡ digits_value len digits * 10000 ^ (zeros - places) = value_raised (zeros - places) len digits (omega (arith, count)) in
    ap (λ (n : ℕ). digits_value n digits * 10 ^ scale) top_is
    ∙ ap (λ (n : ℕ). n * 10 ^ scale) (raise ∙ ap (λ (n : ℕ). n * 10000 ^ (zeros - places)) is)
    ∙ scaled value number zeros places scale pad e four
    ∙ ap (λ (n : ℕ). number * 10000 ^ n) (sym shift_is)

-- ---- digits so far

pub record DigitsSoFar (number len place : ℕ) (old new : List ℕ) (rest : ℕ) : Type 0 where
  pub digits : List ℕ
  pub below : AllByRecursion (λ digit. digit < 10000) digits
  pub count_is : length digits ≡ place
  pub sum : digits_value (len - 1) digits + rest ≡ number
  pub small : rest < 10000 ^ (len - place)
  pub behind : new ≡ old ++ flat_map (to_be_bytes w16) digits

pub no_digits : (number len : ℕ) (old : List ℕ) → number < 10000 ^ len → DigitsSoFar number len 0 old old number
no_digits number len old less = let e : len ≡ len - 0 = omega arith in record { digits = []; below = tt; count_is = refl; sum = omega arith; small = subst (λ (n : ℕ). number < 10000 ^ n) e less; behind = sym (append-nil old) }

pub unit_is : (len place : ℕ) → 10 ^ (4 * (len - 1 - place)) ≡ 10000 ^ (len - 1 - place)
unit_is len place = sym (four_tens (len - 1 - place))

pub digit_small : (len place rest unit : ℕ) → place < len → rest < 10000 ^ (len - place) → unit ≡ 10000 ^ (len - 1 - place) → (1 ≤ unit) × (rest / unit < 10000) × (rest % unit < unit)
digit_small len place rest unit less small is =
    let some : 1 ≤ unit = subst (λ (n : ℕ). 1 ≤ n) (sym is) (one-le-pow (len - 1 - place) 10000 (omega arith)) in
    let next : len - place ≡ suc (len - 1 - place) = omega (arith, less) in
    let size : 10000 ^ (len - place) ≡ 10000 * unit = ap (λ (n : ℕ). 10000 ^ n) next ∙ pow-suc 10000 (len - 1 - place) ∙ omega (arith, is) in
    (some, (div-lt_iff_lt-mul {k = unit} {x = rest} {y = 10000} some).1 (omega (arith, small, size)), mod-lt rest some)

pub digit_more : (number len place : ℕ) (old mid new : List ℕ) (rest unit : ℕ) → place < len → unit ≡ 10000 ^ (len - 1 - place) → DigitsSoFar number len place old mid rest
    → new ≡ mid ++ to_be_bytes w16 (rest / unit) → DigitsSoFar number len (place + 1) old new (rest % unit)
digit_more number len place old mid new rest unit less is far e =
    let sizes = digit_small len place rest unit less far.small is in
    let x : ℕ = rest / unit in
    let more : digits_value (len - 1) (far.digits ++ x ∷ []) ≡ digits_value (len - 1) far.digits + x * 10000 ^ (len - 1 - length far.digits) =
    value_more (len - 1) far.digits x (omega (arith, less, far.count_is)) in
    let same : x * 10000 ^ (len - 1 - length far.digits) ≡ x * unit = ap (λ (n : ℕ). x * 10000 ^ (len - 1 - n)) far.count_is ∙ ap (λ (n : ℕ). x * n) (sym is) in
    let whole : rest % unit + x * unit ≡ rest = mod-add-div' rest unit in
    let next : len - (place + 1) ≡ len - 1 - place = omega arith in
    record {
      digits = far.digits ++ x ∷ [];
      below = below_more far.digits x far.below sizes.1;
      count_is = length-append far.digits (x ∷ []) ∙ ap (λ (n : ℕ). n + 1) far.count_is;
      sum = omega (arith, more, same, whole, far.sum);
      small = subst (λ (n : ℕ). rest % unit < n) (is ∙ ap (λ (n : ℕ). 10000 ^ n) (sym next)) sizes.2;
      behind = e ∙ ap (λ (l : List ℕ). l ++ to_be_bytes w16 x) far.behind ∙ append_assoc old (flat_map (to_be_bytes w16) far.digits) (to_be_bytes w16 x)
          ∙ ap (λ (l : List ℕ). old ++ l) (flat_map_more (to_be_bytes w16) [] far.digits x);
    }

pub all_digits : (number len place : ℕ) (old new : List ℕ) (rest : ℕ) → len ≤ place → DigitsSoFar number len place old new rest → place ≤ len
    → (bytes : List ℕ) × AreDigitsIn number len bytes × (new ≡ old ++ bytes)
all_digits number len place old new rest less far most =
    let none : len - place ≡ 0 = omega (arith, less) in
    let size : 10000 ^ (len - place) ≡ 1 = ap (λ (n : ℕ). 10000 ^ n) none in (
      flat_map (to_be_bytes w16) far.digits,
      record {
        digits = far.digits;
        are = record { below = far.below; spelled = refl };
        count_is = omega (arith, far.count_is, less, most);
        sum = omega (arith, far.sum, far.small, size);
      },
      far.behind,
    )

-- ---- the whole

pub head_split : (len : ℕ) (weight : ℤ) (sign scale : ℕ) (rest : List ℕ)
    → head_bytes len weight sign scale ++ rest ≡ to_be_bytes w16 len ++ (i16_bytes weight ++ (to_be_bytes w16 sign ++ (to_be_bytes w16 scale ++ rest)))
head_split len weight sign scale rest = refl

pub number_bytes : (number sign scale pad places front last zeros len : ℕ) (weight : ℤ) (b1 b2 : List ℕ)
    → b1 ≡ head_bytes (len + 1) weight sign scale → AreGroups (number * 10 ^ pad) front last zeros → AreDigitsIn front len b2 → (0 < len → 10000 ^ (len - 1) ≤ front) → len ≤ 10
    → weight +ℤ pos places ≡ pos (len + zeros) → FitsSigned w16 weight → scale + pad ≡ 4 * places → sign < 2 ^ 16 → scale < 2 ^ 16
    → IsWrittenNumber number sign scale (b1 ++ (b2 ++ to_be_bytes w16 last))
number_bytes number sign scale pad places front last zeros len weight b1 b2 head groups in_ least few weight_is fits four signed scale_fits =
    let ds : List ℕ = in_.digits ++ last ∷ [] in
    let count : length ds ≡ len + 1 = length-append in_.digits (last ∷ []) ∙ ap (λ (n : ℕ). n + 1) in_.count_is in
    let tail : b2 ++ to_be_bytes w16 last ≡ flat_map (to_be_bytes w16) ds =
    ap (λ (l : List ℕ). l ++ to_be_bytes w16 last) in_.are.spelled ∙ flat_map_more (to_be_bytes w16) [] in_.digits last in
    let value : digits_value len ds ≡ front * 10000 + last = whole_value front last len in_.digits in_.count_is in_.sum in
    record {
      weight = weight;
      digits = ds;
      form = record {
        few = omega (arith, count, few);
        below = below_more in_.digits last in_.are.below groups.below;
        signed = signed;
        scaled = scale_fits;
        fits = fits;
        spelled = ap (λ (l : List ℕ). l ++ (b2 ++ to_be_bytes w16 last)) head ∙ ap (λ (l : List ℕ). head_bytes (len + 1) weight sign scale ++ l) tail
            ∙ head_split (len + 1) weight sign scale (flat_map (to_be_bytes w16) ds)
            ∙ ap (λ (n : ℕ). to_be_bytes w16 n ++ (i16_bytes weight ++ (to_be_bytes w16 sign ++ (to_be_bytes w16 scale ++ flat_map (to_be_bytes w16) ds)))) (sym count);
        first = λ p. has_first in_.digits last front len groups.some in_.count_is in_.are.below in_.sum least;
        last = λ p. has_last in_.digits last groups.some;
      };
      digits_are = digits_of (front * 10000 + last) number len zeros places scale pad weight ds count value weight_is groups.sum four;
    }

-- ---- values

pub fills_as : (F W S : List ℕ → Type 0) (old new : List ℕ) (r : Result (Unit {0}) ValueFault) → ((bytes : List ℕ) → F bytes → W bytes) → Fills F old new r → WritesAs W S old new r
fills_as F W S old new (Ok x) as_ filled = record { bytes = filled.bytes; formed = as_ filled.bytes filled.formed; behind = filled.behind }
fills_as F W S old new (Err f) as_ filled = lacked W S old new f filled.0 filled.1

pub fills_end : {A : Type 0} (F : List ℕ → Type 0) (front last old mid new : List ℕ) (r : Result A ValueFault) → mid ≡ old ++ front → F (front ++ last) → Puts last mid new r → Fills F old new r
fills_end F front last old mid new (Ok x) e is put = record { bytes = front ++ last; formed = is; behind = appended old mid new front last e put }
fills_end F front last old mid new (Err f) e is put = (put.0, record { more = front; behind = put.1 ∙ e })

pub fills_behind : {A : Type 0} (F G : List ℕ → Type 0) (front old mid new : List ℕ) (r : Result A ValueFault) → mid ≡ old ++ front → ((bytes : List ℕ) → F bytes → G (front ++ bytes))
    → Fills F mid new r → Fills G old new r
fills_behind F G front old mid new (Ok x) e as_ filled =
    record { bytes = front ++ filled.bytes; formed = as_ filled.bytes filled.formed; behind = appended old mid new front filled.bytes e filled.behind }
fills_behind F G front old mid new (Err f) e as_ filled = (filled.0, begun (first front e) filled.1)

pub nan_bytes : (bytes : List ℕ) → bytes ≡ head_bytes 0 (pos 0) 49152 0 → SpellsNumeric true d.NotANumber bytes
nan_bytes bytes e = record {
  sign = 49152;
  scale = 0;
  weight = pos 0;
  digits = [];
  form = record {
    few = omega arith;
    below = tt;
    signed = omega arith;
    scaled = omega arith;
    fits = record { sfits = omega (arith, ints) };
    spelled = e;
    first = λ p. tt;
    last = λ p. tt;
  };
  is = inr (record { same = refl; sign_is = refl });
  bare = λ p. record { zero = λ e. (refl, λ same. omega (arith, same)); nan = λ e. (refl, refl) };
}

pub zero_bytes : (z : ℤ) (scale : ℕ) (bytes : List ℕ) → unsigned_abs z ≡ 0 → scale ≤ 38 → bytes ≡ head_bytes 0 (pos 0) 0 scale → SpellsNumeric true (d.Numeric z scale) bytes
zero_bytes z scale bytes none few e = record {
  sign = 0;
  scale = scale;
  weight = pos 0;
  digits = [];
  form = record {
    few = omega arith;
    below = tt;
    signed = omega arith;
    scaled = omega (arith, few);
    fits = record { sfits = omega (arith, ints) };
    spelled = e;
    first = λ p. tt;
    last = λ p. tt;
  };
  is = inl (record {
    unscaled = z;
    same = refl;
    signs = inl (refl, omega (arith, ints, none));
    number = let zero_is : unsigned_abs z * 10000 ^ shift (pos 0) 0 ≡ 0 * 10000 ^ shift (pos 0) 0 = ap (λ (n : ℕ). n * 10000 ^ shift (pos 0) 0) none in omega (arith, zero_is);
    few = few;
    small = omega (arith, none);
  });
  bare = λ p. record { zero = λ e. (refl, λ same. omega (arith, same)); nan = λ same. absurd (omega (arith, same)) };
}

-- a number that isn't zero has digits
no_digit : (number scale : ℕ) (weight : ℤ) (digits : List ℕ) → number ≢ 0 → AreDigitsOf number scale weight digits → digits ≡ [] → ⊥
no_digit number scale weight [] some are none =
    let more : 1 ≤ number * 10000 ^ shift weight 0 = one-le-mul (omega (arith, some)) (one-le-pow (shift weight 0) 10000 (omega arith)) in
    let whole : 0 * 10 ^ scale ≡ number * 10000 ^ shift weight 0 = are in
    omega (arith, more, whole)
no_digit number scale weight (x ∷ digits) some are none = absurd (cc none)

signed_number : (z : ℤ) (sign : ℕ) → IsSignOf z sign → sign ≡ 49152 → ⊥
signed_number z sign (inl a) e = omega (arith, a.0, e)
signed_number z sign (inr a) e = omega (arith, a.0, e)

pub number_is : (z : ℤ) (sign scale : ℕ) (bytes : List ℕ) → unsigned_abs z ≢ 0 → IsSignOf z sign → scale ≤ 38 → unsigned_abs z < 10 ^ 38 → IsWrittenNumber (unsigned_abs z) sign scale bytes
    → SpellsNumeric true (d.Numeric z scale) bytes
number_is z sign scale bytes some signs few small is = record {
  sign = sign;
  scale = scale;
  weight = is.weight;
  digits = is.digits;
  form = is.form;
  is = inl (record { unscaled = z; same = refl; signs = signs; number = is.digits_are; few = few; small = small });
  bare = λ p. record {
    zero = λ none. absurd (no_digit (unsigned_abs z) scale is.weight is.digits some is.digits_are none);
    nan = λ same. absurd (signed_number z sign signs same);
  };
}

pub no_numeric : (z : ℤ) (scale : ℕ) → (scale ≤ 38 → unsigned_abs z < 10 ^ 38 → ⊥) → HasNone (SpellsNumeric false (d.Numeric z scale))
no_numeric z scale large bytes are is = go is.is
  where
    go : IsNumeral is.sign is.scale is.weight is.digits (d.Numeric z scale) → ⊥
    go (inl n) =
        let same : d.Numeric z scale ≡ d.Numeric n.unscaled is.scale = n.same in
        let number : z ≡ n.unscaled = cc same in
        let scale_is : scale ≡ is.scale = cc same in
        let size : unsigned_abs z ≡ unsigned_abs n.unscaled = ap unsigned_abs number in
        large (omega (arith, scale_is, n.few)) (omega (arith, size, n.small))
    go (inr n) = absurd (cc n.same)
