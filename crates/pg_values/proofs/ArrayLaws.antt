-- Dimensions and fronts of arrays.
use Rattle.std.proofs.Common.{◌≡◌, ℕ, zero, suc, ℤ, ◌<◌, ◌≤◌, ◌*◌, ◌+◌, ◌-◌, ◌^◌, List, [], ◌∷◌, ◌++◌, length, get_or, flat_map, unsigned_abs, ap, refl, sym, ◌∙◌, subst, arith, append_assoc, w32}
use Rattle.std.specs.Int.{to_be_bytes}
use Rattle.std.specs.List.{AllByRecursion}
use Rattle.std.proofs.lemmas.List.{flat_map_more}
use Rattle.std.proofs.lemmas.Int.{ints}
use Rattle.std.proofs.Math.Nat.{one-le-mul, mul-le-mul_left}
use Rattle.pg_values.specs.declared.datum.Dim.{Dim}
use Rattle.pg_values.specs.Numbers.{i32_bytes}
use Rattle.pg_values.specs.Spelling.{IsDim, dim_bytes, AreDims, product, count_of, array_front, IsFront, StandsInFront}
use Rattle.pg_values.proofs.ByteLaws.{int_same, int_rest, word_same, word_rest, same_rest}

-- ---- how many items

-- each dimension has an item
pub product_some : (dims : List Dim) → AllByRecursion IsDim dims → 1 ≤ product dims
product_some [] all = omega arith
product_some (dim ∷ dims) (is, all) =
    let a : 1 ≤ unsigned_abs dim.len = omega (arith, ints, is.long) in
    let b : 1 ≤ product dims = product_some dims all in
    one-le-mul a b

-- the product so far is already too large
pub too_many : (most count : ℕ) (dim : Dim) (dims all : List Dim) → count * product (dim ∷ dims) ≡ product all → AllByRecursion IsDim (dim ∷ dims)
    → most < count * unsigned_abs dim.len → most < product all
too_many most count dim dims all e (is, others) more =
    let some : 1 ≤ product dims = product_some dims others in
    let grows : count * unsigned_abs dim.len * 1 ≤ count * unsigned_abs dim.len * product dims = mul-le-mul_left (count * unsigned_abs dim.len) some in
    omega (arith, e, more, grows)

pub some_count : (dims : List Dim) (most : ℕ) → 0 < length dims → most < product dims → most < count_of dims
some_count [] most some more = absurd (omega (arith, some))
some_count (d ∷ ds) most some more = more

-- ---- dimensions one after another

pub dim_same : (d e : Dim) (r s : List ℕ) → IsDim d → IsDim e → dim_bytes d ++ r ≡ dim_bytes e ++ s → d ≡ e
dim_same d e r s a b both =
    let split : i32_bytes d.len ++ (i32_bytes d.lower ++ r) ≡ i32_bytes e.len ++ (i32_bytes e.lower ++ s) =
    sym (append_assoc (i32_bytes d.len) (i32_bytes d.lower) r) ∙ both ∙ append_assoc (i32_bytes e.len) (i32_bytes e.lower) s in
    let len : d.len ≡ e.len = int_same d.len e.len (i32_bytes d.lower ++ r) (i32_bytes e.lower ++ s) a.len b.len split in
    let lower : d.lower ≡ e.lower = int_same d.lower e.lower r s a.lower b.lower (int_rest d.len e.len (i32_bytes d.lower ++ r) (i32_bytes e.lower ++ s) split) in
    let first : d ≡ record { len = e.len; lower = d.lower } = ap (λ (z : ℤ). let x : Dim = record { len = z; lower = d.lower } in x) len in
    let second : record { len = e.len; lower = d.lower } ≡ e = ap (λ (z : ℤ). let x : Dim = record { len = e.len; lower = z } in x) lower in
    first ∙ second

pub dim_rest : (d e : Dim) (r s : List ℕ) → dim_bytes d ++ r ≡ dim_bytes e ++ s → r ≡ s
dim_rest d e r s both = same_rest 8 (dim_bytes d) (dim_bytes e) r s refl refl both

-- the first of some dimensions
pub record HasNext (n : ℕ) (bytes : List ℕ) : Type 0 where
  pub dim : Dim
  pub dims : List Dim
  pub behind : List ℕ
  pub is : IsDim dim
  pub spelled : bytes ≡ dim_bytes dim ++ behind
  pub others : AreDims n dims behind

pub next_dim : (n : ℕ) (ds : List Dim) (bytes : List ℕ) → AreDims (suc n) ds bytes → HasNext n bytes
next_dim n [] bytes are = absurd (omega (arith, are.count_is))
next_dim n (d ∷ ds) bytes are = record {
  dim = d;
  dims = ds;
  behind = flat_map dim_bytes ds ++ are.rest;
  is = are.are.0;
  spelled = are.spelled ∙ append_assoc (dim_bytes d) (flat_map dim_bytes ds) are.rest;
  others = record { rest = are.rest; count_is = omega (arith, are.count_is); are = are.are.1; spelled = refl };
}

-- the first is no other than the one that stands there
pub behind_dim : (n : ℕ) (ds : List Dim) (bytes behind : List ℕ) (d : Dim) → AreDims (suc n) ds bytes → bytes ≡ dim_bytes d ++ behind → (es : List Dim) × AreDims n es behind
behind_dim n ds bytes behind d are e =
    let next = next_dim n ds bytes are in
    (next.dims, subst (λ (l : List ℕ). AreDims n next.dims l) (dim_rest next.dim d next.behind behind (sym next.spelled ∙ e)) next.others)

pub none_behind : (n : ℕ) (ds : List Dim) (bytes : List ℕ) → AreDims (suc n) ds bytes → ((dim : Dim) (rest : List ℕ) → IsDim dim → bytes ≡ dim_bytes dim ++ rest → ⊥) → ⊥
none_behind n ds bytes are none = let next = next_dim n ds bytes are in none next.dim next.behind next.is next.spelled

-- the same where so many are left
pub none_at : (n i : ℕ) (ds : List Dim) (bytes : List ℕ) → i < n → AreDims (n - i) ds bytes → ((dim : Dim) (rest : List ℕ) → IsDim dim → bytes ≡ dim_bytes dim ++ rest → ⊥) → ⊥
none_at n i ds bytes less are none =
    let e : n - i ≡ suc (n - (i + 1)) = omega arith in
    none_behind (n - (i + 1)) ds bytes (subst (λ (m : ℕ). AreDims m ds bytes) e are) none

pub behind_at : (n i : ℕ) (ds : List Dim) (bytes behind : List ℕ) (d : Dim) → i < n → AreDims (n - i) ds bytes → bytes ≡ dim_bytes d ++ behind
    → (es : List Dim) × AreDims (n - (i + 1)) es behind
behind_at n i ds bytes behind d less are e =
    let same : n - i ≡ suc (n - (i + 1)) = omega arith in
    behind_dim (n - (i + 1)) ds bytes behind d (subst (λ (m : ℕ). AreDims m ds bytes) same are) e

-- each of them
pub all_at : (ds : List Dim) (i : ℕ) (d : Dim) → i < length ds → AllByRecursion IsDim ds → IsDim (get_or ds i d)
all_at [] i d less all = absurd (omega (arith, less))
all_at (e ∷ ds) zero d less (first, all) = first
all_at (e ∷ ds) (suc i) d less (first, all) = all_at ds i d (omega (arith, less)) all

-- one more
pub all_more : (ds : List Dim) (d : Dim) → AllByRecursion IsDim ds → IsDim d → AllByRecursion IsDim (ds ++ d ∷ [])
all_more [] d all is = (is, tt)
all_more (e ∷ ds) d (first, all) is = (first, all_more ds d all is)

pub spelled_more : (ds : List Dim) (d : Dim) (bytes rest behind : List ℕ) → bytes ≡ flat_map dim_bytes ds ++ rest → rest ≡ dim_bytes d ++ behind → bytes ≡ flat_map dim_bytes (ds ++ d ∷ []) ++ behind
spelled_more ds d bytes rest behind e is =
    e ∙ ap (λ (l : List ℕ). flat_map dim_bytes ds ++ l) is ∙ sym (append_assoc (flat_map dim_bytes ds) (dim_bytes d) behind)
    ∙ ap (λ (l : List ℕ). l ++ behind) (flat_map_more dim_bytes [] ds d)

-- the dimensions in front are the only ones
pub dims_same : (ds es : List Dim) (r s : List ℕ) → length ds ≡ length es → AllByRecursion IsDim ds → AllByRecursion IsDim es
    → flat_map dim_bytes ds ++ r ≡ flat_map dim_bytes es ++ s → (ds ≡ es) × (r ≡ s)
dims_same [] [] r s l a b both = (refl, both)
dims_same [] (e ∷ es) r s l a b both = absurd (omega (arith, l))
dims_same (d ∷ ds) [] r s l a b both = absurd (omega (arith, l))
dims_same (d ∷ ds) (e ∷ es) r s l (ad, a) (be, b) both =
    let split : dim_bytes d ++ (flat_map dim_bytes ds ++ r) ≡ dim_bytes e ++ (flat_map dim_bytes es ++ s) =
    sym (append_assoc (dim_bytes d) (flat_map dim_bytes ds) r) ∙ both ∙ append_assoc (dim_bytes e) (flat_map dim_bytes es) s in
    let first : d ≡ e = dim_same d e (flat_map dim_bytes ds ++ r) (flat_map dim_bytes es ++ s) ad be split in
    let others : (ds ≡ es) × (r ≡ s) = dims_same ds es r s (omega (arith, l)) a b (dim_rest d e (flat_map dim_bytes ds ++ r) (flat_map dim_bytes es ++ s) split) in
    (ap (λ (x : Dim). x ∷ ds) first ∙ ap (λ (xs : List Dim). e ∷ xs) others.0, others.1)

-- ---- fronts

-- the words of a front, one behind another
pub front_split : (flag element : ℕ) (dims : List Dim) (rest : List ℕ)
    → array_front flag element dims ++ rest ≡ to_be_bytes w32 (length dims) ++ (to_be_bytes w32 flag ++ (to_be_bytes w32 element ++ (flat_map dim_bytes dims ++ rest)))
front_split flag element dims rest = simp append_assoc

-- how long it is
pub dims_length : (dims : List Dim) → length (flat_map dim_bytes dims) ≡ 8 * length dims
dims_length [] = refl
dims_length (d ∷ ds) = let rest = dims_length ds in omega (arith, rest)

pub front_length : (flag element : ℕ) (dims : List Dim) → length (array_front flag element dims) ≡ 12 + 8 * length dims
front_length flag element dims = let rest = dims_length dims in omega (arith, rest)

pub front_only : (element flag also : ℕ) (ds es : List Dim) (r s : List ℕ) → IsFront flag ds → IsFront also es
    → array_front flag element ds ++ r ≡ array_front also element es ++ s → (flag ≡ also) × (ds ≡ es) × (r ≡ s)
front_only element flag also ds es r s a b both =
    let tail : ℕ → List Dim → List ℕ → List ℕ = λ n dims rest. to_be_bytes w32 n ++ (to_be_bytes w32 element ++ (flat_map dim_bytes dims ++ rest)) in
    let split : to_be_bytes w32 (length ds) ++ (to_be_bytes w32 flag ++ (to_be_bytes w32 element ++ (flat_map dim_bytes ds ++ r)))
    ≡ to_be_bytes w32 (length es) ++ (to_be_bytes w32 also ++ (to_be_bytes w32 element ++ (flat_map dim_bytes es ++ s))) =
    sym (front_split flag element ds r) ∙ both ∙ front_split also element es s in
    let lengths : length ds ≡ length es = word_same (length ds) (length es) _ _ (omega (arith, a.few)) (omega (arith, b.few)) split in
    let second : to_be_bytes w32 flag ++ (to_be_bytes w32 element ++ (flat_map dim_bytes ds ++ r)) ≡ to_be_bytes w32 also ++ (to_be_bytes w32 element ++ (flat_map dim_bytes es ++ s)) =
    word_rest (length ds) (length es) _ _ split in
    let flags : flag ≡ also = word_same flag also _ _ (omega (arith, a.flags)) (omega (arith, b.flags)) second in
    let third : to_be_bytes w32 element ++ (flat_map dim_bytes ds ++ r) ≡ to_be_bytes w32 element ++ (flat_map dim_bytes es ++ s) = word_rest flag also _ _ second in
    let others = dims_same ds es r s lengths a.are b.are (word_rest element element _ _ third) in
    (flags, others.0, others.1)

-- what is read of a front says of any front that stands there
pub record ReadSoFar (element len flag oid : ℕ) (raw first second rest : List ℕ) : Type 0 where
  pub len_is : raw ≡ to_be_bytes w32 len ++ first
  pub flag_is : first ≡ to_be_bytes w32 flag ++ second
  pub oid_is : second ≡ to_be_bytes w32 oid ++ rest
  pub len_fits : len < 2 ^ 32
  pub flag_fits : flag < 2 ^ 32
  pub oid_fits : oid < 2 ^ 32
  pub element_fits : element < 2 ^ 32

pub record Told (element len flag oid : ℕ) (dims : List Dim) (rest : List ℕ) : Type 0 where
  pub few : len ≤ 6
  pub flags : flag ≤ 1
  pub element_is : oid ≡ element
  pub dims_are : AreDims len dims rest

pub told : (element len flag oid : ℕ) (raw first second rest : List ℕ) → ReadSoFar element len flag oid raw first second rest
    → (dims : List Dim) → StandsInFront element dims raw → Told element len flag oid dims rest
told element len flag oid raw first second rest so dims is =
    let behind : List ℕ = flat_map dim_bytes dims ++ is.rest in
    let split : to_be_bytes w32 len ++ first ≡ to_be_bytes w32 (length dims) ++ (to_be_bytes w32 is.flag ++ (to_be_bytes w32 element ++ behind)) =
    sym so.len_is ∙ is.spelled ∙ front_split is.flag element dims is.rest in
    let lens : len ≡ length dims = word_same len (length dims) _ _ so.len_fits (omega (arith, is.front.few)) split in
    let second_is : to_be_bytes w32 flag ++ second ≡ to_be_bytes w32 is.flag ++ (to_be_bytes w32 element ++ behind) =
    sym so.flag_is ∙ word_rest len (length dims) _ _ split in
    let flags : flag ≡ is.flag = word_same flag is.flag _ _ so.flag_fits (omega (arith, is.front.flags)) second_is in
    let third_is : to_be_bytes w32 oid ++ rest ≡ to_be_bytes w32 element ++ behind = sym so.oid_is ∙ word_rest flag is.flag _ _ second_is in
    record {
      few = omega (arith, lens, is.front.few);
      flags = omega (arith, flags, is.front.flags);
      element_is = word_same oid element _ _ so.oid_fits so.element_fits third_is;
      dims_are = record { rest = is.rest; count_is = sym lens; are = is.front.are; spelled = word_rest oid element _ _ third_is };
    }

-- these dimensions, and no others
pub same_dims : (n : ℕ) (ds es : List Dim) (bytes : List ℕ) → AreDims n ds bytes → AreDims n es bytes → ds ≡ es
same_dims n ds es bytes a b = (dims_same ds es a.rest b.rest (a.count_is ∙ sym b.count_is) a.are b.are (sym a.spelled ∙ b.spelled)).0
