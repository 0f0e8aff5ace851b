-- The written form of a numeric is the only one.
use Rattle.std.proofs.Common.{◌≡◌, ◌≢◌, ◌⊎◌, inl, inr, ℕ, zero, suc, ℤ, pos, negsuc, ◌≤ℤ◌, unsigned_abs, ◌<◌, ◌≤◌, ◌*◌, ◌+◌, ◌-◌, ◌^◌, ◌/◌, true, List, [], ◌∷◌, ◌++◌, length, flat_map, ap, refl, sym, ◌∙◌, subst, arith, w16}
use Rattle.std.specs.List.{AllByRecursion}
use Rattle.std.specs.Int.{to_be_bytes}
use Rattle.std.proofs.lemmas.Int.{ints}
use Rattle.std.proofs.lemmas.Nat.{div-mul-add}
use Rattle.std.proofs.Math.Nat.{one-le-pow, one-le-mul}
use Rattle.pg_values.specs.declared.datum.Datum as d
use Rattle.pg_values.specs.declared.datum.Datum.{Datum}
use Rattle.pg_values.specs.Numbers.{i16_bytes}
use Rattle.pg_values.specs.Numerics.{digits_value, top, shift, HasFirst, HasLast, AreDigitsOf, IsNumericOf, IsNumeral, IsNumberOf, IsNotANumber, SpellsNumeric, plus, minus}
use Rattle.pg_values.proofs.DigitLaws.{IsBelow}
use Rattle.pg_values.proofs.GroupLaws.{cancel, value_raised}
use Rattle.pg_values.proofs.NumberLaws.{low_small, tens}
use Rattle.pg_values.proofs.SpanLaws.{digits_fewest, no_higher, room}

-- ---- digits

-- digits of one power and one value are the same
same_first : (x y unit s t : ℕ) → s < unit → t < unit → x * unit + s ≡ y * unit + t → x ≡ y
same_first x y unit s t less also e = sym (div-mul-add x unit s less) ∙ ap (λ (n : ℕ). n / unit) e ∙ div-mul-add y unit t also

same_digits : (p : ℕ) (ds es : List ℕ) → AllByRecursion IsBelow ds → AllByRecursion IsBelow es → length ds ≡ length es → length ds ≤ p + 1 → digits_value p ds ≡ digits_value p es → ds ≡ es
same_digits p [] [] a b l n e = refl
same_digits p [] (y ∷ es) a b l n e = absurd (omega (arith, l))
same_digits p (x ∷ ds) [] a b l n e = absurd (omega (arith, l))
same_digits p (x ∷ ds) (y ∷ es) (xb, a) (yb, b) l n e =
    let low : digits_value (p - 1) ds < 10000 ^ p = low_small p ds a (omega (arith, n)) in
    let also : digits_value (p - 1) es < 10000 ^ p = low_small p es b (omega (arith, l, n)) in
    let first : x ≡ y = same_first x y (10000 ^ p) (digits_value (p - 1) ds) (digits_value (p - 1) es) low also e in
    let same : x * 10000 ^ p ≡ y * 10000 ^ p = ap (λ (k : ℕ). k * 10000 ^ p) first in
    let rest : ds ≡ es = same_digits (p - 1) ds es a b (omega (arith, l)) (omega (arith, n)) (omega (arith, e, same)) in
    ap (λ (k : ℕ). k ∷ ds) first ∙ ap (λ (xs : List ℕ). y ∷ xs) rest

-- ---- forms of one number

-- what is known of a form
record Form (u scale sign : ℕ) (w : ℤ) (ds : List ℕ) : Type 0 where
  below : AllByRecursion IsBelow ds
  first : HasFirst ds
  last : HasLast ds
  are : AreDigitsOf u scale w ds
  zero : ds ≡ [] → (w ≡ pos 0) × (sign ≢ minus)

-- both raised, they are of one value
raised : (u scale : ℕ) (w x : ℤ) (ds es : List ℕ) → AreDigitsOf u scale w ds → AreDigitsOf u scale x es
    → digits_value (top w (length ds) + shift x (length es)) ds ≡ digits_value (top x (length es) + shift w (length ds)) es
raised u scale w x ds es e f =
    let p : ℕ = top w (length ds) in
    let q : ℕ = top x (length es) in
    let s : ℕ = shift w (length ds) in
    let t : ℕ = shift x (length es) in
    let here : digits_value (p + t) ds ≡ digits_value p ds * 10000 ^ t = value_raised t p ds (room w (length ds)) in
    let there : digits_value (q + s) es ≡ digits_value q es * 10000 ^ s = value_raised s q es (room x (length es)) in
    let more : digits_value p ds * 10 ^ scale * 10000 ^ t ≡ u * 10000 ^ s * 10000 ^ t = ap (λ (n : ℕ). n * 10000 ^ t) e in
    let also : digits_value q es * 10 ^ scale * 10000 ^ s ≡ u * 10000 ^ t * 10000 ^ s = ap (λ (n : ℕ). n * 10000 ^ s) f in
    let both : digits_value p ds * 10000 ^ t * 10 ^ scale ≡ digits_value q es * 10000 ^ s * 10 ^ scale = omega (arith, more, also) in
    let same : digits_value p ds * 10000 ^ t ≡ digits_value q es * 10000 ^ s = cancel (digits_value p ds * 10000 ^ t) (digits_value q es * 10000 ^ s) (10 ^ scale) (tens scale) both in
    here ∙ same ∙ sym there

-- of two that aren't empty the first has no higher power
lower : (p q : ℕ) (ds es : List ℕ) → AllByRecursion IsBelow es → HasFirst ds → 1 ≤ length ds → length es ≤ q + 1 → digits_value p ds ≡ digits_value q es → p ≤ q
lower p q [] es b first some m e = absurd (omega (arith, some))
lower p q (x ∷ ds) es b first some m e =
    let small : digits_value (q + 1 - 1) es < 10000 ^ (q + 1) = low_small (q + 1) es b m in
    let there : digits_value (q + 1 - 1) es ≡ digits_value q es = ap (λ (k : ℕ). digits_value k es) (omega arith) in
    no_higher p q x (digits_value (p - 1) ds) first (omega (arith, e, small, there))

-- the weight is told by the powers
weight_same : (n : ℕ) (w x : ℤ) → 1 ≤ n → top w n + shift x n ≡ top x n + shift w n → w ≡ x
weight_same n (pos a) (pos b) some e = omega (arith, ints, some, e)
weight_same n (pos a) (negsuc b) some e = absurd (omega (arith, ints, some, e))
weight_same n (negsuc a) (pos b) some e = absurd (omega (arith, ints, some, e))
weight_same n (negsuc a) (negsuc b) some e = omega (arith, ints, some, e)

empty_is : (ds : List ℕ) → length ds ≡ 0 → ds ≡ []
empty_is [] e = refl
empty_is (x ∷ ds) e = absurd (omega (arith, e))

forms_same : (u scale s t : ℕ) (w x : ℤ) (ds es : List ℕ) → Form u scale s w ds → Form u scale t x es → (ds ≡ es) × (w ≡ x)
forms_same u scale s t w x ds es a b = go (length ds) refl
  where
    count : length ds ≡ length es
    count =
        let less = digits_fewest u scale w x ds es a.below b.below a.first a.last a.are b.are in
        let also = digits_fewest u scale x w es ds b.below a.below b.first b.last b.are a.are in
        omega (arith, less, also)

    go : (n : ℕ) → length ds ≡ n → (ds ≡ es) × (w ≡ x)
    go zero e =
        let none : ds ≡ [] = empty_is ds e in
        let also : es ≡ [] = empty_is es (sym count ∙ e) in
        (none ∙ sym also, (a.zero none).0 ∙ sym (b.zero also).0)
    go (suc n) e =
        let p : ℕ = top w (length ds) + shift x (length es) in
        let q : ℕ = top x (length es) + shift w (length ds) in
        let value : digits_value p ds ≡ digits_value q es = raised u scale w x ds es a.are b.are in
        let n_room : length ds ≤ p + 1 = let r = room w (length ds) in omega (arith, r) in
        let m_room : length es ≤ q + 1 = let r = room x (length es) in omega (arith, r) in
        let less : p ≤ q = lower p q ds es b.below a.first (omega (arith, e)) m_room value in
        let also : q ≤ p = lower q p es ds a.below b.first (omega (arith, e, count)) n_room (sym value) in
        let power : p ≡ q = omega (arith, less, also) in
        let here : digits_value p ds ≡ digits_value p es = value ∙ ap (λ (k : ℕ). digits_value k es) (sym power) in
        let weights : top w (length ds) + shift x (length ds) ≡ top x (length ds) + shift w (length ds) =
        ap (λ (k : ℕ). top w (length ds) + shift x k) count ∙ power ∙ ap (λ (k : ℕ). top x k + shift w (length ds)) (sym count) in
        (same_digits p ds es a.below b.below count n_room here, weight_same (length ds) w x (omega (arith, e)) weights)

-- ---- the sign

-- zero has no digits
no_digits : (u scale : ℕ) (w : ℤ) (ds : List ℕ) → u ≡ 0 → HasFirst ds → AreDigitsOf u scale w ds → ds ≡ []
no_digits u scale w [] none first are = refl
no_digits u scale w (x ∷ ds) none first are =
    let p : ℕ = top w (length (x ∷ ds)) in
    let s : ℕ = shift w (length (x ∷ ds)) in
    let nothing : u * 10000 ^ s ≡ 0 * 10000 ^ s = ap (λ (n : ℕ). n * 10000 ^ s) none in
    let some : 1 ≤ x * 10000 ^ p = one-le-mul (omega (arith, first)) (one-le-pow p 10000 (omega arith)) in
    let value : 1 ≤ digits_value p (x ∷ ds) = omega (arith, some) in
    let scaled : 1 ≤ digits_value p (x ∷ ds) * 10 ^ scale = one-le-mul value (tens scale) in
    absurd (omega (arith, scaled, are, nothing))

abbrev IsSigned : ℤ → ℕ → Type 0
IsSigned z sign = (sign ≡ plus) × (pos 0 ≤ℤ z) ⊎ (sign ≡ minus) × (z ≤ℤ pos 0)

signs_same : (z : ℤ) (s t : ℕ) → IsSigned z s → IsSigned z t → (unsigned_abs z ≡ 0 → s ≢ minus) → (unsigned_abs z ≡ 0 → t ≢ minus) → s ≡ t
signs_same z s t (inl a) (inl b) p q = a.0 ∙ sym b.0
signs_same z s t (inl a) (inr b) p q = absurd (q (omega (arith, ints, a.1, b.1)) b.0)
signs_same z s t (inr a) (inl b) p q = absurd (p (omega (arith, ints, a.1, b.1)) a.0)
signs_same z s t (inr a) (inr b) p q = a.0 ∙ sym b.0

-- ---- the bytes

abbrev written : (sign scale : ℕ) → ℤ → List ℕ → List ℕ
written sign scale w ds = to_be_bytes w16 (length ds) ++ (i16_bytes w ++ (to_be_bytes w16 sign ++ (to_be_bytes w16 scale ++ flat_map (to_be_bytes w16) ds)))

written_same : (s t c e : ℕ) (w x : ℤ) (ds es : List ℕ) → s ≡ t → c ≡ e → w ≡ x → ds ≡ es → written s c w ds ≡ written t e x es
written_same s t c e w x ds es p q r l =
    ap (λ (n : ℕ). written n c w ds) p ∙ ap (λ (n : ℕ). written t n w ds) q ∙ ap (λ (z : ℤ). written t e z ds) r ∙ ap (λ (xs : List ℕ). written t e x xs) l

numbers_same : (v : Datum) (a b : List ℕ) (p : SpellsNumeric true v a) (q : SpellsNumeric true v b) → IsNumberOf p.sign p.scale p.weight p.digits v → IsNumberOf q.sign q.scale q.weight q.digits v → a ≡ b
numbers_same v a b p q m n =
    let same : d.Numeric m.unscaled p.scale ≡ d.Numeric n.unscaled q.scale = sym m.same ∙ n.same in
    let number : n.unscaled ≡ m.unscaled = sym (cc same) in
    let scales : q.scale ≡ p.scale = sym (cc same) in
    let u : ℕ = unsigned_abs m.unscaled in
    let are : AreDigitsOf u p.scale q.weight q.digits =
    subst (λ (z : ℤ). AreDigitsOf (unsigned_abs z) p.scale q.weight q.digits) number (subst (λ (c : ℕ). AreDigitsOf (unsigned_abs n.unscaled) c q.weight q.digits) scales n.number) in
    let signed : IsSigned m.unscaled q.sign = subst (λ (z : ℤ). IsSigned z q.sign) number n.signs in
    let one : Form u p.scale p.sign p.weight p.digits = record { below = p.form.below; first = p.form.first refl; last = p.form.last refl; are = m.number; zero = (p.bare refl).zero } in
    let other : Form u p.scale q.sign q.weight q.digits = record { below = q.form.below; first = q.form.first refl; last = q.form.last refl; are = are; zero = (q.bare refl).zero } in
    let forms = forms_same u p.scale p.sign q.sign p.weight q.weight p.digits q.digits one other in
    let sign : p.sign ≡ q.sign = signs_same m.unscaled p.sign q.sign m.signs signed
    (λ none. (one.zero (no_digits u p.scale p.weight p.digits none one.first one.are)).1)
    (λ none. (other.zero (no_digits u p.scale q.weight q.digits none other.first other.are)).1) in
    p.form.spelled ∙ written_same p.sign q.sign p.scale q.scale p.weight q.weight p.digits q.digits sign (sym scales) forms.1 forms.0 ∙ sym q.form.spelled

nans_same : (v : Datum) (a b : List ℕ) (p : SpellsNumeric true v a) (q : SpellsNumeric true v b) → IsNotANumber p.sign v → IsNotANumber q.sign v → a ≡ b
nans_same v a b p q m n =
    let one = (p.bare refl).nan m.sign_is in
    let other = (q.bare refl).nan n.sign_is in
    let weights : p.weight ≡ q.weight = ((p.bare refl).zero one.0).0 ∙ sym ((q.bare refl).zero other.0).0 in
    p.form.spelled ∙ written_same p.sign q.sign p.scale q.scale p.weight q.weight p.digits q.digits (m.sign_is ∙ sym n.sign_is) (one.1 ∙ sym other.1) weights (one.0 ∙ sym other.0) ∙ sym q.form.spelled

pub numeric_same : (v : Datum) (a b : List ℕ) → SpellsNumeric true v a → SpellsNumeric true v b → a ≡ b
numeric_same v a b p q = go p.is q.is
  where
    go : IsNumeral p.sign p.scale p.weight p.digits v → IsNumeral q.sign q.scale q.weight q.digits v → a ≡ b
    go (inl m) (inl n) = numbers_same v a b p q m n
    go (inr m) (inr n) = nans_same v a b p q m n
    go (inl m) (inr n) = let same : d.Numeric m.unscaled p.scale ≡ d.NotANumber = sym m.same ∙ n.same in absurd (cc same)
    go (inr m) (inl n) = let same : d.NotANumber ≡ d.Numeric n.unscaled q.scale = sym m.same ∙ n.same in absurd (cc same)
