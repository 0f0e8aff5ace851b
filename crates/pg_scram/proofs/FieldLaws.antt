-- What commas cut apart.
use Rattle.std.proofs.Common.{◌≡◌, ℕ, ◌+◌, ◌-◌, ◌<◌, ◌≤◌, ◌==◌, nat_lt, if◌then◌else◌, List, [], ◌∷◌, length, take, drop, Bool, true, false, Option, Some, None, refl, arith}
use Rattle.std.proofs.lemmas.Bool.{ltb-true, ltb-false}
use Rattle.std.proofs.lemmas.List.{take_rest}
use Rattle.std.proofs.lemmas.List.Splits.{slice_split_none, slice_split_first, length-slice_split}
use Rattle.std.proofs.lemmas.List.Sums.{fails_before_first}
use Rattle.std.specs.List.{position, position_or_len}
use Rattle.std.specs.Str.{byte}
use Rattle.pg_scram.specs.Challenge.{fields_of, three_of}

abbrev is_comma : ℕ → Bool
is_comma c = c == byte ","

some-none : (i : ℕ) → Some i ≡ None → ⊥
some-none i e = cc e

unchosen : (i n : ℕ) (b : Bool) → nat_lt i n ≡ b → ◌≡◌ {A = Option ℕ} (if b then Some i else None) None → n ≤ i
unchosen i n true e f = absurd (some-none i f)
unchosen i n false e f = ltb-false i n e

-- a text without a comma is one field
pub one_field : (text : List ℕ) → position (λ c. c == byte ",") text ≡ None → fields_of text ≡ text ∷ []
one_field text e =
    let past : length text ≤ position_or_len is_comma text = unchosen (position_or_len is_comma text) (length text) (nat_lt (position_or_len is_comma text) (length text)) refl e in
    slice_split_none is_comma text (λ k d l. fails_before_first is_comma text k d (omega arith))

chosen : (i n k : ℕ) (b : Bool) → nat_lt i n ≡ b → (if b then Some i else None) ≡ Some k → (i ≡ k) × (i < n)
chosen i n k true e f = (cc f, ltb-true i n e)
chosen i n k false e f = absurd cc

-- the first comma ends the first field
pub first_field : (text : List ℕ) (at : ℕ) → position (λ c. c == byte ",") text ≡ Some at
    → fields_of text ≡ take at text ∷ fields_of (take (length text - (at + 1)) (drop (at + 1) text))
first_field text at e =
    let both = chosen (position_or_len is_comma text) (length text) at (nat_lt (position_or_len is_comma text) (length text)) refl e in
    rw (take_rest text (at + 1), ← both.0) (slice_split_first is_comma text 0 both.1)

past : (a b c : List ℕ) (more : List (List ℕ)) (n : ℕ) → length more ≡ n + 1 → three_of (a ∷ b ∷ c ∷ more) ≡ None
past a b c [] n e = absurd (omega arith)
past a b c (d ∷ more) n e = refl

-- four fields or more aren't three
pub not_three : (a b c : List ℕ) (text : List ℕ) → three_of (a ∷ b ∷ c ∷ fields_of text) ≡ None
not_three a b c text = past a b c (fields_of text) _ (length-slice_split is_comma text)
