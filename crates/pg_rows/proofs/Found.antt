-- The place of a column.
use Rattle.std.proofs.Common.{◌≡◌, ℕ, ◌+◌, ◌<◌, Bool, true, false, cond, not, nat_lt, List, [], ◌∷◌, length, map, Option, Some, None, refl, ap, subst, arith}
use Rattle.std.specs.List.{position, prefix_len}
use Rattle.std.specs.Option.{option_or}
use Rattle.std.specs.Str.{bytes_eq, str_eq_ignore_ascii_case}
use Rattle.std.proofs.lemmas.Bool.Decides.{nat_tests}
use Rattle.std.proofs.lemmas.List.{length-map}
use Rattle.std.proofs.lemmas.List.Quantifiers.{position-Some}
use Rattle.pg_rows.specs.declared.row_index.RowIndex.{RowIndex}
use Rattle.pg_rows.specs.declared.row_index.RowIndex.TheVariants.{At, Name}
use Rattle.pg_rows.specs.Places.{place_of}

prefix-map : {A : Type 0} (p : List ℕ → Bool) (f : A → List ℕ) (xs : List A) → prefix_len p (map f xs) ≡ prefix_len (λ x. p (f x)) xs
prefix-map p f [] = refl
prefix-map p f (x ∷ xs) = ap (λ n. cond (p (f x)) (1 + n) 0) (prefix-map p f xs)

-- a name is looked for among the names of columns
pub position-map : {A : Type 0} (p : List ℕ → Bool) (f : A → List ℕ) (xs : List A) → position p (map f xs) ≡ position (λ x. p (f x)) xs
position-map p f xs =
    let places = prefix-map (λ n. not (p n)) f xs in
    let lengths = length-map xs f in
    λ i. cond (nat_lt (places i) (lengths i)) (Some (places i)) None

position-within : (p : List ℕ → Bool) (names : List (List ℕ)) (place : ℕ) → position p names ≡ Some place → place < length names
position-within p names place found = (position-Some p names place [] found).0

either-within : (a b : Option ℕ) (n place : ℕ) → ((k : ℕ) → a ≡ Some k → k < n) → ((k : ℕ) → b ≡ Some k → k < n) → option_or a b ≡ Some place → place < n
either-within None b n place first second found = second place found
either-within (Some k) b n place first second found = first place found

by-test : (b : Bool) (place n at : ℕ) → nat_lt place n ≡ b → cond b (Some place) None ≡ Some at → at < n
by-test true place n at test found = let same : place ≡ at = cc in grind (arith, nat_tests)
by-test false place n at test found = absurd cc

-- a column that is meant is there
pub place-within : (index : RowIndex) (names : List (List ℕ)) (place : ℕ) → place_of index names ≡ Some place → place < length names
place-within (At at) names place found = by-test (nat_lt at (length names)) at (length names) place refl found
place-within (Name name) names place found =
    either-within (position (λ n. bytes_eq n name.now) names) (position (λ n. str_eq_ignore_ascii_case n name.now) names) (length names) place
    (position-within _ names) (position-within _ names) found

-- so is a column whose name is among theirs
pub column-within : {A : Type 0} (name : A → List ℕ) (index : RowIndex) (columns : List A) (place : ℕ) → place_of index (map name columns) ≡ Some place → place < length columns
column-within name index columns place found =
    let within : place < length (map name columns) = place-within index (map name columns) place found in
    subst (λ n. place < n) (length-map columns name) within
