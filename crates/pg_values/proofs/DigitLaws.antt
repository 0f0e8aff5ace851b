-- The digits of a numeric, and its form.
use Rattle.std.proofs.Common.{◌≡◌, ℕ, suc, ℤ, ◌<◌, ◌^◌, List, [], ◌∷◌, ◌++◌, length, flat_map, false, ap, refl, sym, ◌∙◌, subst, arith, append_assoc, FitsSigned, w16}
use Rattle.std.specs.Int.{to_be_bytes}
use Rattle.std.specs.List.{AllByRecursion}
use Rattle.std.proofs.lemmas.List.{flat_map_more}
use Rattle.pg_values.specs.declared.datum.Datum.{Datum}
use Rattle.pg_values.specs.Numbers.{i16_bytes}
use Rattle.pg_values.specs.Numerics.{AreDigits, IsNumericOf, IsNumeral}
use Rattle.pg_values.proofs.ByteLaws.{half_same, half_rest, short_same, short_rest}

abbrev pub IsBelow : ℕ → Type 0
IsBelow digit = digit < 10000

-- ---- digits

pub record HasFront (n : ℕ) (behind : List ℕ) : Type 0 where
  pub below : n < 10000
  pub digits : List ℕ
  pub are : AreDigits digits behind

pub digits_front : (es : List ℕ) (n : ℕ) (rest behind : List ℕ) → n < 2 ^ 16 → rest ≡ to_be_bytes w16 n ++ behind → AreDigits es rest → HasFront n behind
digits_front [] n rest behind fits e are =
    let l : length rest ≡ suc (suc (length behind)) = ap length e in
    let m : length rest ≡ 0 = ap length are.spelled in
    absurd (omega (arith, l, m))
digits_front (x ∷ xs) n rest behind fits e are =
    let both : to_be_bytes w16 n ++ behind ≡ to_be_bytes w16 x ++ flat_map (to_be_bytes w16) xs = sym e ∙ are.spelled in
    let same : n ≡ x = half_same n x behind (flat_map (to_be_bytes w16) xs) fits (omega (arith, are.below.0)) both in
    record {
      below = omega (arith, same, are.below.0);
      digits = xs;
      are = record { below = are.below.1; spelled = half_rest n x behind (flat_map (to_be_bytes w16) xs) both };
    }

pub digits_end : (es rest : List ℕ) → length rest < 2 → AreDigits es rest → rest ≡ []
digits_end [] rest less are = are.spelled
digits_end (x ∷ xs) rest less are =
    let l : length rest ≡ suc (suc (length (flat_map (to_be_bytes w16) xs))) = ap length are.spelled in
    absurd (omega (arith, l, less))

pub below_more : (ds : List ℕ) (d : ℕ) → AllByRecursion IsBelow ds → d < 10000 → AllByRecursion IsBelow (ds ++ d ∷ [])
below_more [] d all is = (is, tt)
below_more (e ∷ ds) d (first, all) is = (first, below_more ds d all is)

pub spelled_more : (ds : List ℕ) (d : ℕ) (bytes rest behind : List ℕ) → bytes ≡ flat_map (to_be_bytes w16) ds ++ rest → rest ≡ to_be_bytes w16 d ++ behind
    → bytes ≡ flat_map (to_be_bytes w16) (ds ++ d ∷ []) ++ behind
spelled_more ds d bytes rest behind e is =
    e ∙ ap (λ (l : List ℕ). flat_map (to_be_bytes w16) ds ++ l) is ∙ sym (append_assoc (flat_map (to_be_bytes w16) ds) (to_be_bytes w16 d) behind)
    ∙ ap (λ (l : List ℕ). l ++ behind) (flat_map_more (to_be_bytes w16) [] ds d)

pub digits_same : (ds es bytes : List ℕ) → AreDigits ds bytes → AreDigits es bytes → ds ≡ es
digits_same [] [] bytes a b = refl
digits_same [] (e ∷ es) bytes a b = absurd cc
digits_same (d ∷ ds) [] bytes a b = absurd cc
digits_same (d ∷ ds) (e ∷ es) bytes a b =
    let both : to_be_bytes w16 d ++ flat_map (to_be_bytes w16) ds ≡ to_be_bytes w16 e ++ flat_map (to_be_bytes w16) es = sym a.spelled ∙ b.spelled in
    let first : d ≡ e = half_same d e _ _ (omega (arith, a.below.0)) (omega (arith, b.below.0)) both in
    let rest : List ℕ = flat_map (to_be_bytes w16) es in
    let others : ds ≡ es = digits_same ds es rest (record { below = a.below.1; spelled = sym (half_rest d e _ _ both) }) (record { below = b.below.1; spelled = refl }) in
    ap (λ (x : ℕ). x ∷ ds) first ∙ ap (λ (xs : List ℕ). e ∷ xs) others

-- ---- forms

-- what was read of a form
pub record ReadForm (count : ℕ) (weight : ℤ) (sign scale : ℕ) (raw first second third rest : List ℕ) : Type 0 where
  pub count_fits : count < 2 ^ 16
  pub weight_fits : FitsSigned w16 weight
  pub sign_fits : sign < 2 ^ 16
  pub scale_fits : scale < 2 ^ 16
  pub count_is : raw ≡ to_be_bytes w16 count ++ first
  pub weight_is : first ≡ i16_bytes weight ++ second
  pub sign_is : second ≡ to_be_bytes w16 sign ++ third
  pub scale_is : third ≡ to_be_bytes w16 scale ++ rest

-- what it says of any form that is spelled
pub record ToldForm (count : ℕ) (weight : ℤ) (sign scale : ℕ) (rest : List ℕ) (s c : ℕ) (w : ℤ) (digits : List ℕ) : Type 0 where
  pub count_is : length digits ≡ count
  pub weight_is : w ≡ weight
  pub sign_is : s ≡ sign
  pub scale_is : c ≡ scale
  pub are : AreDigits digits rest

pub told_form : (count : ℕ) (weight : ℤ) (sign scale : ℕ) (raw first second third rest : List ℕ) → ReadForm count weight sign scale raw first second third rest
    → (s c : ℕ) (w : ℤ) (digits : List ℕ) → IsNumericOf false s c w digits raw → ToldForm count weight sign scale rest s c w digits
told_form count weight sign scale raw first second third rest so s c w digits is =
    let tail : List ℕ = flat_map (to_be_bytes w16) digits in
    let one : to_be_bytes w16 (length digits) ++ (i16_bytes w ++ (to_be_bytes w16 s ++ (to_be_bytes w16 c ++ tail))) ≡ to_be_bytes w16 count ++ first = sym is.spelled ∙ so.count_is in
    let two : i16_bytes w ++ (to_be_bytes w16 s ++ (to_be_bytes w16 c ++ tail)) ≡ i16_bytes weight ++ second = half_rest (length digits) count _ _ one ∙ so.weight_is in
    let three : to_be_bytes w16 s ++ (to_be_bytes w16 c ++ tail) ≡ to_be_bytes w16 sign ++ third = short_rest w weight _ _ two ∙ so.sign_is in
    let four : to_be_bytes w16 c ++ tail ≡ to_be_bytes w16 scale ++ rest = half_rest s sign _ _ three ∙ so.scale_is in
    record {
      count_is = half_same (length digits) count _ _ (omega (arith, is.few)) so.count_fits one;
      weight_is = short_same w weight _ _ is.fits so.weight_fits two;
      sign_is = half_same s sign _ _ is.signed so.sign_fits three;
      scale_is = half_same c scale _ _ is.scaled so.scale_fits four;
      are = record { below = is.below; spelled = sym (half_rest c scale _ _ four) };
    }

-- a form that is spelled is read so
pub read_of : (s c : ℕ) (w : ℤ) (digits raw : List ℕ) → IsNumericOf false s c w digits raw
    → ReadForm (length digits) w s c raw (i16_bytes w ++ (to_be_bytes w16 s ++ (to_be_bytes w16 c ++ flat_map (to_be_bytes w16) digits)))
    (to_be_bytes w16 s ++ (to_be_bytes w16 c ++ flat_map (to_be_bytes w16) digits)) (to_be_bytes w16 c ++ flat_map (to_be_bytes w16) digits) (flat_map (to_be_bytes w16) digits)
read_of s c w digits raw is = record {
  count_fits = omega (arith, is.few);
  weight_fits = is.fits;
  sign_fits = is.signed;
  scale_fits = is.scaled;
  count_is = is.spelled;
  weight_is = refl;
  sign_is = refl;
  scale_is = refl;
}

-- bytes have one form
pub numeral_same : (s t c e : ℕ) (w x : ℤ) (ds es raw : List ℕ) (v : Datum) → IsNumericOf false s c w ds raw → IsNumericOf false t e x es raw → IsNumeral t e x es v → IsNumeral s c w ds v
numeral_same s t c e w x ds es raw v a b is =
    let told = told_form (length ds) w s c raw _ _ _ _ (read_of s c w ds raw a) t e x es b in
    let same : es ≡ ds = digits_same es ds (flat_map (to_be_bytes w16) ds) told.are (record { below = a.below; spelled = refl }) in
    subst (λ (n : ℕ). IsNumeral n c w ds v) told.sign_is (subst (λ (n : ℕ). IsNumeral t n w ds v) told.scale_is (subst (λ (z : ℤ). IsNumeral t e z ds v) told.weight_is
    (subst (λ (l : List ℕ). IsNumeral t e x l v) same is)))
