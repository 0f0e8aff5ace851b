-- The first name that passes a test.
use Rattle.std.proofs.Common.{◌≡◌, ℕ, ◌<◌, Bool, true, false, cond, nat_lt, List, [], length, get_or, Option, Some, None, refl, ap, ◌∙◌, arith, Decides}
use Rattle.std.specs.List.{position, position_or_len}
use Rattle.std.specs.Option.{option_or}
use Rattle.std.specs.Str.{bytes_eq, str_eq_ignore_ascii_case, str_to_ascii_lowercase}
use Rattle.std.proofs.lemmas.Bool.{lt-ltb, ltb-true}
use Rattle.std.proofs.lemmas.List.Sums.{position_or_len_is}
use Rattle.std.proofs.lemmas.Slice.Eq.{bytes_eq-Decides}
use Rattle.pg_rows.specs.Lookups.{HasNone, IsFirst, IsNamed, IsNamedInAnyCase}
use Rattle.pg_rows.specs.Places.{place_by_name}

-- a test that isn't true is false
not-true : (b : Bool) → (b ≡ true → ⊥) → b ≡ false
not-true true h = absurd (h refl)
not-true false h = refl

-- the test tells whether it holds of a name
abbrev Tells : (List ℕ → Bool) → (List ℕ → Type 0) → Type 0
Tells p P = (n : List ℕ) → Decides (p n) (P n)

first-place : (p : List ℕ → Bool) (P : List ℕ → Type 0) (names : List (List ℕ)) (place : ℕ) → Tells p P → IsFirst P names place → position p names ≡ Some place
first-place p P names place tells first =
    let at : position_or_len p names ≡ place = position_or_len_is p names place [] (omega (arith, first.there)) (λ k h. not-true _ (λ e. first.before k h ((tells (get_or names k [])).0 e))) (λ h. (tells (get_or names place [])).1 first.holds) in
    ap (λ n. cond (nat_lt n (length names)) (Some n) None) at
    ∙ ap (λ (b : Bool). cond b (Some place) None) (lt-ltb place (length names) first.there)

no-place : (p : List ℕ → Bool) (P : List ℕ → Type 0) (names : List (List ℕ)) → Tells p P → HasNone P names → position p names ≡ None
no-place p P names tells none =
    let at : position_or_len p names ≡ length names = position_or_len_is p names (length names) [] (omega arith) (λ k h. not-true _ (λ e. none k h ((tells (get_or names k [])).0 e))) (λ h. absurd (omega arith)) in
    ap (λ n. cond (nat_lt n (length names)) (Some n) None) at
    ∙ ap (λ (b : Bool). cond b (Some (length names)) None) (not-true (nat_lt (length names) (length names)) (λ e. let h : length names < length names = ltb-true _ _ e in absurd (omega arith)))

exactly-told : (name : List ℕ) → Tells (λ n. bytes_eq n name) (IsNamed name)
exactly-told name n = bytes_eq-Decides n name

any-case-told : (name : List ℕ) → Tells (λ n. str_eq_ignore_ascii_case n name) (IsNamedInAnyCase name)
any-case-told name n = bytes_eq-Decides (str_to_ascii_lowercase n) (str_to_ascii_lowercase name)

abbrev either : List ℕ → List (List ℕ) → Option ℕ → Option ℕ
either name names exact = option_or exact (position (λ n. str_eq_ignore_ascii_case n name) names)

pub named-exactly : (name : List ℕ) (names : List (List ℕ)) (place : ℕ) → IsFirst (IsNamed name) names place → place_by_name name names ≡ Some place
named-exactly name names place first = ap (either name names) (first-place (λ n. bytes_eq n name) (IsNamed name) names place (exactly-told name) first)

pub named-in-any-case : (name : List ℕ) (names : List (List ℕ)) (place : ℕ) → HasNone (IsNamed name) names → IsFirst (IsNamedInAnyCase name) names place → place_by_name name names ≡ Some place
named-in-any-case name names place none first =
    ap (either name names) (no-place (λ n. bytes_eq n name) (IsNamed name) names (exactly-told name) none)
    ∙ first-place (λ n. str_eq_ignore_ascii_case n name) (IsNamedInAnyCase name) names place (any-case-told name) first

pub named-by-none : (name : List ℕ) (names : List (List ℕ)) → HasNone (IsNamed name) names → HasNone (IsNamedInAnyCase name) names → place_by_name name names ≡ None
named-by-none name names none no-other =
    ap (either name names) (no-place (λ n. bytes_eq n name) (IsNamed name) names (exactly-told name) none)
    ∙ no-place (λ n. str_eq_ignore_ascii_case n name) (IsNamedInAnyCase name) names (any-case-told name) no-other
