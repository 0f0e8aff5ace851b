-- The names of the built-in types: each is told from what stands behind it, and names one of them.
use Rattle.std.proofs.Common.{◌≡◌, ℕ, suc, Bool, true, false, List, [], ◌∷◌, length, get_or, Option, Some, None, arith, cond, eqb, refl, sym, subst, ap, ◌∙◌}
use lib.Pointwise.{pointwise}
use Rattle.std.specs.Prelude.{find, not, option_map, ◌==◌}
use Rattle.std.specs.List.{AllByRecursion, list_all}
use Rattle.std.proofs.lemmas.Bool.{eqb-true}
use Rattle.pg_types.specs.BuiltIns.{BuiltIn, built_ins, row_of}
use Rattle.pg_text.specs.SessionText.{IsTypeName}
use Rattle.pg_text.specs.Words.{NoSpace}
use Rattle.pg_text.proofs.WordLaws.{Ends, ends_at_space, no_space_from}

-- what is found is one of them, and passes the test
found : {A : Type 0} (P : A → Type 0) (p : A → Bool) (xs : List A) → AllByRecursion P xs → (x : A) → find p xs ≡ Some x → P x × (p x ≡ true)
found P p [] all x is = cc is
found {A} P p (y ∷ ys) all x is = by (p y) refl (found P p ys all.1 x) is
  where
    by : (b : Bool) → p y ≡ b → (find p ys ≡ Some x → P x × (p x ≡ true)) → cond b (Some y) (find p ys) ≡ Some x → P x × (p x ≡ true)
    by true passes later e = let same : y ≡ x = cc in (subst P same all.0, subst (λ (z : A). p z ≡ true) same passes)
    by false fails later e = later e

-- the row with a name
named : (name : List ℕ) (r : Option BuiltIn) → option_map (λ row. row.name) r ≡ Some name → (row : BuiltIn) × (r ≡ Some row) × (row.name ≡ name)
named name None e = cc e
named name (Some row) e = (row, refl, cc)

-- each row whose oid is looked for has this, so has the row of a type's name
pub of_name : (P : BuiltIn → Type 0) → AllByRecursion P built_ins → (oid : ℕ) (name : List ℕ) → IsTypeName oid name → (row : BuiltIn) × P row × (row.oid ≡ oid) × (row.name ≡ name)
of_name P all oid name is =
    let row = named name (row_of oid) is in
    let has = found P (λ r. r.oid == oid) built_ins all row.0 row.1 in
    (row.0, has.0, eqb-true _ _ has.1, row.2)

-- the oid of a row, or another number
oid_or : Option BuiltIn → ℕ
oid_or None = 0
oid_or (Some row) = row.oid

-- the oid of the row with this name
oid_at : List ℕ → ℕ
oid_at name = oid_or (find (λ r. pointwise eqb r.name name) built_ins)

-- a row's name has no space, and no other row has it
abbrev IsTold : BuiltIn → Type 0
IsTold r = (list_all (λ b. not (b == 32)) r.name ≡ true) × (oid_at r.name ≡ r.oid)

all_told : AllByRecursion IsTold built_ins
unfolding oid_at oid_or
all_told = ((refl, refl), ((refl, refl), ((refl, refl), ((refl, refl), ((refl, refl), ((refl, refl), ((refl, refl), ((refl, refl), ((refl, refl), ((refl, refl), ((refl, refl), ((refl, refl), ((refl, refl), ((refl, refl), ((refl, refl), ((refl, refl), ((refl, refl), ((refl, refl), ((refl, refl), ((refl, refl), ((refl, refl), tt)))))))))))))))))))))

pub type_name_no_space : (oid : ℕ) (name : List ℕ) → IsTypeName oid name → NoSpace name
type_name_no_space oid name is =
    let row = of_name IsTold all_told oid name is in
    subst NoSpace row.3 (no_space_from row.0.name row.1.0)

pub one_type : (x y : ℕ) (name : List ℕ) → IsTypeName x name → IsTypeName y name → x ≡ y
one_type x y name p q =
    let row = of_name IsTold all_told x name p in
    let other = of_name IsTold all_told y name q in
    sym row.2 ∙ sym row.1.1 ∙ ap oid_at (row.3 ∙ sym other.3) ∙ other.1.1 ∙ other.2

pub type_name_ends : Ends IsTypeName
type_name_ends = ends_at_space IsTypeName type_name_no_space one_type

-- ---- names that are read byte by byte

-- bytes by their places are those of this word
abbrev pub Reads : (ℕ → ℕ) → List ℕ → Type 0
Reads at [] = Unit {0}
Reads at (b ∷ word) = (at 0 ≡ b) × Reads (λ k. at (suc k)) word

pub read_word : (word name : List ℕ) → length name ≡ length word → Reads (λ k. get_or name k 0) word → Some word ≡ Some name
read_word word name long reads = ap (λ (w : List ℕ). Some w) (same word name long reads)
  where
    same : (word name : List ℕ) → length name ≡ length word → Reads (λ k. get_or name k 0) word → word ≡ name
    same [] [] long reads = refl
    same [] (c ∷ name) long reads = absurd (omega (arith, long))
    same (b ∷ word) [] long reads = absurd (omega (arith, long))
    same (b ∷ word) (c ∷ name) long reads = let rest = same word name (omega (arith, long)) reads.1 in λ i. sym reads.0 i ∷ rest i
