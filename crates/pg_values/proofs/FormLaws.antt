-- Arrays, ranges and composites, written.
use Rattle.std.proofs.Common.{◌≡◌, ◌≢◌, ◌↔◌, ℕ, ◌<◌, ◌≤◌, ◌+◌, ◌^◌, Bool, true, false, List, [], ◌∷◌, ◌++◌, length, Contains, ap, refl, sym, ◌∙◌, subst, arith, w32}
use Rattle.std.specs.Int.{to_be_bytes}
use Rattle.pg_values.specs.declared.datum.Dim.{Dim}
use Rattle.pg_values.specs.declared.datum.Bound.{Bound}
use Rattle.pg_values.specs.declared.datum.Datum as d
use Rattle.pg_values.specs.declared.datum.Datum.{Datum}
use Rattle.pg_values.specs.Parts.{SpellItems}
use Rattle.pg_values.specs.Spelling.{IsArray, IsFront, IsRange, IsComposite, array_front, count_of, has_flag, lower_by, upper_by, range_flags, values_of}
use Rattle.pg_values.specs.Writing.{HasNone}
use Rattle.pg_values.proofs.Insides.{same_items, same_bounds, same_values}
use Rattle.pg_values.proofs.WriteLaws.{rest_bytes, moved}

-- ---- arrays

pub array_formed : (element : ℕ) (S : Datum → List ℕ → Type 0) (dims : List Dim) (items : List Datum) (flag : ℕ) → IsFront 0 dims → length items ≡ count_of dims → flag ≤ 1
    → ((flag ≡ 1) ↔ Contains items d.Null) → (rest : List ℕ) → SpellItems true S items rest → IsArray true element S (d.Array dims items) (array_front flag element dims ++ rest)
array_formed element S dims items flag front count small null rest are = record {
  dims = dims;
  items = items;
  flag = flag;
  rest = rest;
  same = refl;
  front = record { flags = small; few = front.few; are = front.are; small = front.small };
  are = record { count_is = count; are = are };
  spelled = refl;
  flagged = λ p. null;
}

pub array_none : (element : ℕ) (S : Datum → List ℕ → Type 0) (dims : List Dim) (items : List Datum) → HasNone (SpellItems true S items) → HasNone (IsArray false element S (d.Array dims items))
array_none element S dims items none bytes are is =
    let same : d.Array dims items ≡ d.Array is.dims is.items = is.same in
    let items_are : is.items ≡ items = sym (same_items dims is.dims items is.items same) in
    none is.rest (rest_bytes (array_front is.flag element is.dims) is.rest (moved is.spelled are)) (subst (λ (vs : List Datum). SpellItems true S vs is.rest) items_are is.are.are)

pub array_unfit : (element : ℕ) (S : Datum → List ℕ → Type 0) (dims : List Dim) (items : List Datum) → (IsFront 0 dims × (length items ≡ count_of dims) → ⊥)
    → HasNone (IsArray false element S (d.Array dims items))
array_unfit element S dims items unfit bytes are is =
    let same : d.Array dims items ≡ d.Array is.dims is.items = is.same in
    let items_are : is.items ≡ items = sym (same_items dims is.dims items is.items same) in
    let dims_are : is.dims ≡ dims = cc same in
    let front : IsFront is.flag dims = subst (λ (ds : List Dim). IsFront is.flag ds) dims_are is.front in
    unfit (
      record { flags = omega arith; few = front.few; are = front.are; small = front.small },
      ap (λ (vs : List Datum). length vs) (sym items_are) ∙ is.are.count_is ∙ ap count_of dims_are,
    )

pub no_array : (element : ℕ) (S : Datum → List ℕ → Type 0) (v : Datum) → ((dims : List Dim) (items : List Datum) → v ≡ d.Array dims items → ⊥) → HasNone (IsArray false element S v)
no_array element S v other bytes are is = other is.dims is.items is.same

-- ---- ranges

-- the bounds of a range are told by its flags
pub record FlagsFit (flags : ℕ) (empty : Bool) (lower upper : Bound) : Type 0 where
  pub below : flags < 32
  pub flags_are : flags ≡ range_flags empty lower upper
  pub empty_is : has_flag 1 flags ≡ empty
  pub lower_is : lower_by flags ≡ lower
  pub upper_is : upper_by flags ≡ upper

pub range_formed : (S : Datum → List ℕ → Type 0) (flags : ℕ) (empty : Bool) (lower upper : Bound) (bounds : List Datum) → FlagsFit flags empty lower upper
    → length bounds ≡ values_of lower + values_of upper → (rest : List ℕ) → SpellItems false S bounds rest → IsRange true S (d.Range empty lower upper bounds) (flags ∷ [] ++ rest)
range_formed S flags empty lower upper bounds fit count rest are = record {
  flags = flags;
  bounds = bounds;
  rest = rest;
  same = ap (λ (b : Bool). d.Range b lower upper bounds) (sym fit.empty_is) ∙ ap (λ (b : Bound). d.Range (has_flag 1 flags) b upper bounds) (sym fit.lower_is)
      ∙ ap (λ (b : Bound). d.Range (has_flag 1 flags) (lower_by flags) b bounds) (sym fit.upper_is);
  below = fit.below;
  are = record {
    count_is = count ∙ ap (λ (b : Bound). values_of b + values_of upper) (sym fit.lower_is) ∙ ap (λ (b : Bound). values_of (lower_by flags) + values_of b) (sym fit.upper_is);
    are = are;
  };
  spelled = refl;
  flagged = λ p. fit.flags_are ∙ ap (λ (b : Bool). range_flags b lower upper) (sym fit.empty_is) ∙ ap (λ (b : Bound). range_flags (has_flag 1 flags) b upper) (sym fit.lower_is)
      ∙ ap (λ (b : Bound). range_flags (has_flag 1 flags) (lower_by flags) b) (sym fit.upper_is);
}

pub range_none : (S : Datum → List ℕ → Type 0) (empty : Bool) (lower upper : Bound) (bounds : List Datum) → HasNone (SpellItems false S bounds)
    → HasNone (IsRange false S (d.Range empty lower upper bounds))
range_none S empty lower upper bounds none bytes are is =
    let same : d.Range empty lower upper bounds ≡ d.Range (has_flag 1 is.flags) (lower_by is.flags) (upper_by is.flags) is.bounds = is.same in
    let bounds_are : is.bounds ≡ bounds = sym (same_bounds empty (has_flag 1 is.flags) lower upper (lower_by is.flags) (upper_by is.flags) bounds is.bounds same) in
    none is.rest (rest_bytes (is.flags ∷ []) is.rest (moved is.spelled are)) (subst (λ (vs : List Datum). SpellItems false S vs is.rest) bounds_are is.are.are)

pub range_unfit : (S : Datum → List ℕ → Type 0) (empty : Bool) (lower upper : Bound) (bounds : List Datum)
    → ((flags : ℕ) → empty ≡ has_flag 1 flags → lower ≡ lower_by flags → upper ≡ upper_by flags → ⊥) → HasNone (IsRange false S (d.Range empty lower upper bounds))
range_unfit S empty lower upper bounds unfit bytes are is =
    let same : d.Range empty lower upper bounds ≡ d.Range (has_flag 1 is.flags) (lower_by is.flags) (upper_by is.flags) is.bounds = is.same in
    unfit is.flags (cc same) (cc same) (cc same)

pub range_uncounted : (S : Datum → List ℕ → Type 0) (empty : Bool) (lower upper : Bound) (bounds : List Datum) → length bounds ≢ values_of lower + values_of upper
    → HasNone (IsRange false S (d.Range empty lower upper bounds))
range_uncounted S empty lower upper bounds other bytes are is =
    let same : d.Range empty lower upper bounds ≡ d.Range (has_flag 1 is.flags) (lower_by is.flags) (upper_by is.flags) is.bounds = is.same in
    let bounds_are : bounds ≡ is.bounds = same_bounds empty (has_flag 1 is.flags) lower upper (lower_by is.flags) (upper_by is.flags) bounds is.bounds same in
    let lower_is : lower_by is.flags ≡ lower = cc same in
    let upper_is : upper_by is.flags ≡ upper = cc same in
    other (ap (λ (vs : List Datum). length vs) bounds_are ∙ is.are.count_is ∙ ap (λ (b : Bound). values_of b + values_of (upper_by is.flags)) lower_is
    ∙ ap (λ (b : Bound). values_of lower + values_of b) upper_is)

pub no_range : (S : Datum → List ℕ → Type 0) (v : Datum) → ((empty : Bool) (lower upper : Bound) (bounds : List Datum) → v ≡ d.Range empty lower upper bounds → ⊥) → HasNone (IsRange false S v)
no_range S v other bytes are is = other (has_flag 1 is.flags) (lower_by is.flags) (upper_by is.flags) is.bounds is.same

-- ---- composites

pub composite_formed : (n : ℕ) (F : List Datum → List ℕ → Type 0) (values : List Datum) → n < 2 ^ 31 → (rest : List ℕ) → F values rest → IsComposite n F (d.Composite values) (to_be_bytes w32 n ++ rest)
composite_formed n F values few rest are = record { fields = values; rest = rest; same = refl; few = few; fields_are = are; spelled = refl }

pub composite_none : (n : ℕ) (F : List Datum → List ℕ → Type 0) (values : List Datum) → HasNone (F values) → HasNone (IsComposite n F (d.Composite values))
composite_none n F values none bytes are is =
    let same : d.Composite values ≡ d.Composite is.fields = is.same in
    let values_are : is.fields ≡ values = sym (same_values values is.fields same) in
    none is.rest (rest_bytes (to_be_bytes w32 n) is.rest (moved is.spelled are)) (subst (λ (vs : List Datum). F vs is.rest) values_are is.fields_are)

pub composite_many : (n : ℕ) (F : List Datum → List ℕ → Type 0) (v : Datum) → 2 ^ 31 ≤ n → HasNone (IsComposite n F v)
composite_many n F v many bytes are is = let few : n < 2 ^ 31 = is.few in omega (arith, few, many)

pub no_composite : (n : ℕ) (F : List Datum → List ℕ → Type 0) (v : Datum) → ((values : List Datum) → v ≡ d.Composite values → ⊥) → HasNone (IsComposite n F v)
no_composite n F v other bytes are is = other is.fields is.same
