-- Digits are read one by one.
use Rattle.std.proofs.Common.{◌≡◌, ◌<◌, ◌≤◌, ◌+◌, ◌*◌, ◌==◌, ◌&&◌, ℕ, zero, suc, Bool, true, false, cond, List, [], ◌∷◌, length, get_or, drop, Option, Some, None, refl, sym, ap, ◌∙◌, arith, nat_lt, nat_le}
use Rattle.std.specs.List.{list_all}
use Rattle.std.specs.Char.{digit_value}
use Rattle.std.specs.Str.Parse.{digits_value_after}
use Rattle.std.proofs.lemmas.Bool.{eqb-false, cond-true}
use Rattle.std.proofs.lemmas.List.{drop_more}
use Rattle.std.proofs.Math.Nat.{mul-le-mul_left}
use Rattle.pg_config.specs.Numbers.{numeral_of}
use Rattle.pg_config.specs.Reading.{next_value}

-- the number with these digits behind it, if none makes it too large
abbrev pub extended : (radix most : ℕ) → ℕ → List ℕ → Option ℕ
extended radix most value [] = Some value
extended radix most value (c ∷ digits) = elim (next_value radix most value c) [ None ↦ None | Some longer ↦ extended radix most longer digits ]

abbrev reached : (radix most : ℕ) → ℕ → List ℕ → Option ℕ
reached radix most value digits =
    cond (list_all (λ c. nat_lt (digit_value c) radix) digits && nat_le (digits_value_after radix value digits) most) (Some (digits_value_after radix value digits)) None

grows : (radix value d : ℕ) → 1 ≤ radix → value ≤ value * radix + d
grows radix value d h = let times = mul-le-mul_left value h in omega (arith, times)

no_less : (radix value : ℕ) (digits : List ℕ) → 1 ≤ radix → value ≤ digits_value_after radix value digits
no_less radix value [] h = omega arith
no_less radix value (c ∷ digits) h =
    let first = grows radix value (digit_value c) h in
    let others = no_less radix (value * radix + digit_value c) digits h in
    omega (arith, first, others)

both_under : (a b : Bool) {A : Type 0} → (x y : A) → cond (a && b) x y ≡ cond a (cond b x y) y
both_under true b x y = refl
both_under false b x y = refl

same_both : (b : Bool) {A : Type 0} → (x : A) → cond b x x ≡ x
same_both true x = refl
same_both false x = refl

not-leb : (n m : ℕ) → nat_le n m ≡ false → m < n
not-leb n m e = grind arith

le-leb : (n m : ℕ) → n ≤ m → nat_le n m ≡ true
le-leb n m h = grind arith

not_under : (n m : ℕ) → m < n → nat_le n m ≡ false
not_under n m h = grind arith

-- digits are all read, or the number doesn't fit
pub extended_is : (radix most value : ℕ) (digits : List ℕ) → 1 ≤ radix → value ≤ most → extended radix most value digits ≡ reached radix most value digits
extended_is radix most value [] one fits = sym (cond-true (nat_le value most) _ _ (le-leb value most fits))
extended_is radix most value (c ∷ digits) one fits =
    let longer = value * radix + digit_value c in
    elim (nat_lt (digit_value c) radix) as (λ t. (elim (cond (t && nat_le longer most) (Some longer) None) as (λ o. Option ℕ) [ None ↦ None | Some n ↦ extended radix most n digits ])
    ≡ cond ((t && list_all (λ d. nat_lt (digit_value d) radix) digits) && nat_le (digits_value_after radix longer digits) most) (Some (digits_value_after radix longer digits)) None) [
      | false ↦ refl
      | true ↦
          let by_fit : (t : Bool) → nat_le longer most ≡ t →
          (elim (cond t (Some longer) None) as (λ o. Option ℕ) [ None ↦ None | Some n ↦ extended radix most n digits ]) ≡ reached radix most longer digits =
          λ t. elim t as (λ t. nat_le longer most ≡ t → (elim (cond t (Some longer) None) as (λ o. Option ℕ) [ None ↦ None | Some n ↦ extended radix most n digits ]) ≡ reached radix most longer digits) [
            | true ↦ λ e. extended_is radix most longer digits one (grind (arith, e))
            | false ↦ λ e. let large = not-leb longer most e in let more = no_less radix longer digits one in
                let over : most < digits_value_after radix longer digits = omega (arith, large, more) in
                sym (ap (λ b. cond (list_all (λ d. nat_lt (digit_value d) radix) digits && b) (Some (digits_value_after radix longer digits)) None) (not_under _ _ over)
                ∙ both_under (list_all (λ d. nat_lt (digit_value d) radix) digits) false _ _ ∙ same_both (list_all (λ d. nat_lt (digit_value d) radix) digits) None)
          ] in
          by_fit (nat_le longer most) refl
    ]

abbrev after_one : (radix most : ℕ) → List ℕ → Option ℕ → Option ℕ
after_one radix most digits o = elim o [ None ↦ None | Some longer ↦ extended radix most longer digits ]

-- all digits were read
pub numeral_is : (radix most : ℕ) (digits : List ℕ) → 1 ≤ radix → 0 < length digits → extended radix most 0 digits ≡ numeral_of radix most digits
numeral_is radix most [] one some = absurd (omega arith)
numeral_is radix most (c ∷ digits) one some = extended_is radix most 0 (c ∷ digits) one (omega arith)

-- a digit that can't stand there
pub refused_at : (radix most value digit : ℕ) (at : ℕ) (digits : List ℕ) → at < length digits → get_or digits at 0 ≡ digit →
    next_value radix most value digit ≡ None → extended radix most value (drop at digits) ≡ None
refused_at radix most value digit at digits fits here none =
    ap (extended radix most value) (drop_more digits at 0 fits)
    ∙ ap (after_one radix most (drop (at + 1) digits)) (ap (next_value radix most value) here ∙ none)

drop_end : (at : ℕ) (digits : List ℕ) → length digits ≤ at → drop at digits ≡ []
drop_end zero [] h = refl
drop_end (suc at) [] h = refl
drop_end zero (c ∷ digits) h = absurd (omega arith)
drop_end (suc at) (c ∷ digits) h = drop_end at digits (omega arith)

-- no digit is left
pub read_to_end : (radix most value : ℕ) (at : ℕ) (digits : List ℕ) → length digits ≤ at → Some value ≡ extended radix most value (drop at digits)
read_to_end radix most value at digits end = sym (ap (extended radix most value) (drop_end at digits end))

pub not_empty : (n : ℕ) → (n == 0) ≡ false → 0 < n
not_empty n e = let differs = eqb-false n 0 e in omega (arith, differs)
