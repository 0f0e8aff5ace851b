-- The tests by which bytes are sent, and what is inside of a value with parts.
use denote.Hole.Carrier.{hidden}
use mathlib.Core.Former.{arity, this}
use Rattle.std.proofs.Common.{◌≡◌, ◌≢◌, ◌↔◌, ◌⊎◌, inl, inr, ℕ, zero, suc, ℤ, pos, int_lt, ◌<◌, ◌≤◌, ◌≤ℤ◌, ◌+◌, ◌^◌, Bool, true, false, not, ◌&&◌, ◌||◌, ◌==◌, List, [], ◌∷◌, ◌++◌, length, get_or, Contains, bytes_eq, if◌then◌else◌, Option, Some, None, ap, refl, sym, ◌∙◌, subst, arith, rules, FitsSigned, w32}
use Rattle.std.specs.List.{list_any, list_all}
use Rattle.std.specs.Bool.{nat_le, nat_lt}
use Rattle.std.specs.List.{AllByRecursion}
use Rattle.std.proofs.lemmas.Bool.{le-leb, leb-true}
use Rattle.std.proofs.lemmas.Slice.Eq.{bytes_eq-Decides}
use Rattle.pg_types.specs.formers.list.List.{the_former}
use Rattle.pg_types.specs.AnyValues.{fits}
use Rattle.pg_values.specs.declared.datum.Dim.{Dim}
use Rattle.pg_values.specs.declared.datum.Bound.{Bound}
use Rattle.pg_values.specs.declared.datum.Bound.TheVariants.{Infinite, Inclusive, Exclusive}
use Rattle.pg_values.specs.declared.datum.Datum as d
use Rattle.pg_values.specs.declared.datum.Datum.{Datum}
use Rattle.pg_values.specs.Sending.{datums, array_in, range_in, composite_in, is_null, may_be_dim, may_be_array, null_flag, may_be_range}
use Rattle.pg_values.specs.Spelling.{IsDim, IsFront, bound_by, count_of, has_flag, lower_by, upper_by, range_flags, values_of}
use Rattle.pg_values.proofs.FormLaws.{FlagsFit}

-- ---- tests

pub both : (a b : Bool) → (a && b) ≡ true → (a ≡ true) × (b ≡ true)
both true b e = (refl, e)
both false b e = absurd (cc e)

pub and_both : (a b : Bool) → a ≡ true → b ≡ true → (a && b) ≡ true
and_both true b p q = q
and_both false b p q = absurd (cc p)

or_right : (a b : Bool) → b ≡ true → (a || b) ≡ true
or_right true b e = refl
or_right false b e = e

-- a test that isn't passed fails
pub fails : (b : Bool) → (b ≡ true → ⊥) → b ≡ false
fails true never = absurd (never refl)
fails false never = refl

pub any_from : {X : Type 0} (test : X → Bool) (x : X) → test x ≡ true → (xs : List X) → Contains xs x → list_any test xs ≡ true
any_from test x is [] (k, less, e) = absurd (omega (arith, less))
any_from test x is (y ∷ ys) (zero, less, e) = ap (λ (b : Bool). b || list_any test ys) (ap test e ∙ is)
any_from test x is (y ∷ ys) (suc k, less, e) = or_right (test y) (list_any test ys) (any_from test x is ys (k, omega (arith, less), e))

pub any_to : {X : Type 0} (test : X → Bool) (x : X) → ((y : X) → test y ≡ true → y ≡ x) → (xs : List X) → list_any test xs ≡ true → Contains xs x
any_to test x only [] e = absurd (cc e)
any_to {X} test x only (y ∷ ys) e = go (test y) refl (λ f. any_to test x only ys f) e
  where
    go : (b : Bool) → test y ≡ b → (list_any test ys ≡ true → Contains ys x) → (b || list_any test ys) ≡ true → Contains (y ∷ ys) x
    go true is rest e = (0, omega arith, only y is)
    go false is rest e = let c = rest e in (suc c.0, omega (arith, c.1), c.2)

-- ---- null

pub null_is : (v : Datum) → is_null v ≡ true → v ≡ d.Null
null_is d.Null e = refl
null_is (d.Bool b) e = absurd (cc e)
null_is (d.Int z) e = absurd (cc e)
null_is (d.Text t) e = absurd (cc e)
null_is (d.Bytes b) e = absurd (cc e)
null_is (d.Label t) e = absurd (cc e)
null_is d.NotANumber e = absurd (cc e)
null_is (d.Numeric z scale) e = absurd (cc e)
null_is (d.Date z) e = absurd (cc e)
null_is (d.Timestamp z) e = absurd (cc e)
null_is (d.Uuid b) e = absurd (cc e)
null_is (d.Array' dims shape row) e = absurd (cc e)
null_is (d.Range' empty lower upper shape row) e = absurd (cc e)
null_is (d.Composite' shape row) e = absurd (cc e)

pub null_isnt : (v : Datum) → v ≢ d.Null → is_null v ≡ false
null_isnt v some = fails (is_null v) (λ e. some (null_is v e))

pub some_is : (v : Datum) → is_null v ≡ false → v ≢ d.Null
some_is v e is = absurd (cc (sym e ∙ ap is_null is))

abbrev flag_by : Bool → ℕ
flag_by b = if b then 1 else 0

pub flag_is : (items : List Datum) (flag : ℕ) → flag ≤ 1 → (flag ≡ 1) ↔ Contains items d.Null → flag ≡ null_flag items
flag_is items flag small null = go (list_any is_null items) refl
  where
    go : (b : Bool) → list_any is_null items ≡ b → flag ≡ null_flag items
    go true e = null.1 (any_to is_null d.Null null_is items e) ∙ sym (ap flag_by e)
    go false e =
        let other : flag ≡ 1 → ⊥ = λ one. absurd (cc (sym e ∙ any_from is_null d.Null refl items (null.0 one))) in
        let none : flag ≡ 0 = zero_of flag small other in
        none ∙ sym (ap flag_by e)
      where
        zero_of : (n : ℕ) → n ≤ 1 → (n ≡ 1 → ⊥) → n ≡ 0
        zero_of zero small other = refl
        zero_of (suc zero) small other = absurd (other refl)
        zero_of (suc (suc n)) small other = absurd (omega (arith, small))

pub flag_small : (items : List Datum) → null_flag items ≤ 1
flag_small items = go (list_any is_null items)
  where
    go : (b : Bool) → (let n : ℕ = if b then 1 else 0 in n) ≤ 1
    go true = omega arith
    go false = omega arith

pub flag_null : (items : List Datum) → (null_flag items ≡ 1) ↔ Contains items d.Null
flag_null items = (λ e. any_to is_null d.Null null_is items (one (list_any is_null items) e), λ has. ap flag_by (any_from is_null d.Null refl items has))
  where
    one : (b : Bool) → ◌≡◌ {A = ℕ} (if b then 1 else 0) 1 → b ≡ true
    one true e = refl
    one false e = absurd (omega (arith, e))

-- ---- labels

pub same_bytes : (a b : List ℕ) → bytes_eq a b ≡ true → a ≡ b
same_bytes a b e = (bytes_eq-Decides a b).0 e

pub label_known : (labels : List (List ℕ)) (label : List ℕ) → Contains labels label → list_any (λ l. bytes_eq l label) labels ≡ true
label_known labels label has = any_from (λ l. bytes_eq l label) label ((bytes_eq-Decides label label).1 refl) labels has

pub label_in : (labels : List (List ℕ)) (label : List ℕ) → list_any (λ l. bytes_eq l label) labels ≡ true → Contains labels label
label_in labels label e = any_to (λ l. bytes_eq l label) label (λ l is. same_bytes l label is) labels e

-- ---- arrays

long_of : (z : ℤ) → not (int_lt z (pos 1)) ≡ true → pos 1 ≤ℤ z
long_of z e = search rules

of_long : (z : ℤ) → pos 1 ≤ℤ z → not (int_lt z (pos 1)) ≡ true
of_long z e = search rules

fits_of : (z : ℤ) → fits w32 z ≡ true → FitsSigned w32 z
fits_of z f = search rules

of_fits : (z : ℤ) → FitsSigned w32 z → fits w32 z ≡ true
of_fits z f = search rules

dim_of : (dim : Dim) → may_be_dim dim ≡ true → IsDim dim
dim_of dim e =
    let p = both (not (int_lt dim.len (pos 1))) (fits w32 dim.len && fits w32 dim.lower) e in
    let q = both (fits w32 dim.len) (fits w32 dim.lower) p.1 in
    record { long = long_of dim.len p.0; len = fits_of dim.len q.0; lower = fits_of dim.lower q.1 }

of_dim : (dim : Dim) → IsDim dim → may_be_dim dim ≡ true
of_dim dim is =
    and_both (not (int_lt dim.len (pos 1))) (fits w32 dim.len && fits w32 dim.lower) (of_long dim.len is.long)
    (and_both (fits w32 dim.len) (fits w32 dim.lower) (of_fits dim.len is.len) (of_fits dim.lower is.lower))

dims_of : (dims : List Dim) → list_all may_be_dim dims ≡ true → AllByRecursion IsDim dims
dims_of [] e = tt
dims_of (dim ∷ dims) e = let p = both (may_be_dim dim) (list_all may_be_dim dims) e in (dim_of dim p.0, dims_of dims p.1)

of_dims : (dims : List Dim) → AllByRecursion IsDim dims → list_all may_be_dim dims ≡ true
of_dims [] all = refl
of_dims (dim ∷ dims) (is, all) = and_both (may_be_dim dim) (list_all may_be_dim dims) (of_dim dim is) (of_dims dims all)

pub same_nat : (n k : ℕ) → (n == k) ≡ true → n ≡ k
same_nat n k e = search rules

pub nat_same : (n k : ℕ) → n ≡ k → (n == k) ≡ true
nat_same n k e = search rules

pub array_fit : (dims : List Dim) (n : ℕ) → may_be_array dims n ≡ true → IsFront 0 dims × (n ≡ count_of dims)
array_fit dims n e =
    let p = both (nat_le (length dims) 6) (list_all may_be_dim dims && (nat_le (count_of dims) 16777216 && n == count_of dims)) e in
    let q = both (list_all may_be_dim dims) (nat_le (count_of dims) 16777216 && n == count_of dims) p.1 in
    let r = both (nat_le (count_of dims) 16777216) (n == count_of dims) q.1 in (
      record { flags = omega arith; few = leb-true (length dims) 6 p.0; are = dims_of dims q.0; small = leb-true (count_of dims) 16777216 r.0 },
      same_nat n (count_of dims) r.1,
    )

pub fit_array : (dims : List Dim) (n : ℕ) → IsFront 0 dims × (n ≡ count_of dims) → may_be_array dims n ≡ true
fit_array dims n (front, count) =
    and_both (nat_le (length dims) 6) (list_all may_be_dim dims && (nat_le (count_of dims) 16777216 && n == count_of dims)) (le-leb (length dims) 6 front.few)
    (and_both (list_all may_be_dim dims) (nat_le (count_of dims) 16777216 && n == count_of dims) (of_dims dims front.are)
    (and_both (nat_le (count_of dims) 16777216) (n == count_of dims) (le-leb (count_of dims) 16777216 front.small) (nat_same n (count_of dims) count)))

-- ---- ranges

pub range_fit : (empty : Bool) (lower upper : Bound) → may_be_range empty lower upper ≡ true → FlagsFit (range_flags empty lower upper) empty lower upper
range_fit true Infinite Infinite e = record { below = omega arith; flags_are = refl; empty_is = refl; lower_is = refl; upper_is = refl }
range_fit true Infinite Inclusive e = absurd (cc e)
range_fit true Infinite Exclusive e = absurd (cc e)
range_fit true Inclusive upper e = absurd (cc e)
range_fit true Exclusive upper e = absurd (cc e)
range_fit false Infinite Infinite e = record { below = omega arith; flags_are = refl; empty_is = refl; lower_is = refl; upper_is = refl }
range_fit false Infinite Inclusive e = record { below = omega arith; flags_are = refl; empty_is = refl; lower_is = refl; upper_is = refl }
range_fit false Infinite Exclusive e = record { below = omega arith; flags_are = refl; empty_is = refl; lower_is = refl; upper_is = refl }
range_fit false Inclusive Infinite e = record { below = omega arith; flags_are = refl; empty_is = refl; lower_is = refl; upper_is = refl }
range_fit false Inclusive Inclusive e = record { below = omega arith; flags_are = refl; empty_is = refl; lower_is = refl; upper_is = refl }
range_fit false Inclusive Exclusive e = record { below = omega arith; flags_are = refl; empty_is = refl; lower_is = refl; upper_is = refl }
range_fit false Exclusive Infinite e = record { below = omega arith; flags_are = refl; empty_is = refl; lower_is = refl; upper_is = refl }
range_fit false Exclusive Inclusive e = record { below = omega arith; flags_are = refl; empty_is = refl; lower_is = refl; upper_is = refl }
range_fit false Exclusive Exclusive e = record { below = omega arith; flags_are = refl; empty_is = refl; lower_is = refl; upper_is = refl }

-- flags say only ranges that may be
pub fit_range : (flags : ℕ) (empty : Bool) (lower upper : Bound) → empty ≡ has_flag 1 flags → lower ≡ lower_by flags → upper ≡ upper_by flags → may_be_range empty lower upper ≡ true
fit_range flags false lower upper e l u = refl
fit_range flags true lower upper e l u =
    let low : lower ≡ Infinite = l ∙ ap (λ (b : Bool). bound_by b (has_flag 8 flags) (has_flag 2 flags)) (sym e) in
    let high : upper ≡ Infinite = u ∙ ap (λ (b : Bool). bound_by b (has_flag 16 flags) (has_flag 4 flags)) (sym e) in
    ap (λ (b : Bound). may_be_range true b upper) low ∙ ap (λ (b : Bound). may_be_range true Infinite b) high

-- ---- what is inside

all_in : (vs : List Datum) → datums (d.TheBlock.hidden-the_row-Datum-0 vs) ≡ vs
unfolding Rattle.pg_values.specs.declared.datum.Datum.TheBlock.shape-the_row-Datum-0 Rattle.pg_values.specs.declared.datum.Datum.TheBlock.hidden-the_row-Datum-0 hidden
all_in [] = refl
all_in (v ∷ vs) = ap (λ (l : List Datum). v ∷ l) (all_in vs)

-- a shape, and a row of that shape
abbrev Rows : Type 0
Rows = (shape : List (Unit {0})) × d.Row_of-Datum (arity (the_former (this {0})) shape)

abbrev longer : Datum → Rows → Rows
longer v rows = (tt ∷ rows.0, d.more_of-Datum v rows.1)

rows_back : (shape : List (Unit {0})) (row : d.Row_of-Datum (arity (the_former (this {0})) shape)) →
    let r : Rows = (d.TheBlock.shape-the_row-Datum-0 (datums row), d.TheBlock.hidden-the_row-Datum-0 (datums row)) in let s : Rows = (shape, row) in r ≡ s
unfolding Rattle.pg_values.specs.declared.datum.Datum.TheBlock.shape-the_row-Datum-0 Rattle.pg_values.specs.declared.datum.Datum.TheBlock.hidden-the_row-Datum-0 hidden
rows_back [] d.end_of-Datum = refl
rows_back (tt ∷ shape) (d.more_of-Datum v row) = ap (longer v) (rows_back shape row)

array_back : (dims : List Dim) (shape : List (Unit {0})) (row : d.Row_of-Datum (arity (the_former (this {0})) shape)) → d.Array dims (datums row) ≡ d.Array' dims shape row
array_back dims shape row = ap (λ (r : Rows). d.Array' dims r.0 r.1) (rows_back shape row)

range_back : (empty : Bool) (lower upper : Bound) (shape : List (Unit {0})) (row : d.Row_of-Datum (arity (the_former (this {0})) shape)) →
    d.Range empty lower upper (datums row) ≡ d.Range' empty lower upper shape row
range_back empty lower upper shape row = ap (λ (r : Rows). d.Range' empty lower upper r.0 r.1) (rows_back shape row)

composite_back : (shape : List (Unit {0})) (row : d.Row_of-Datum (arity (the_former (this {0})) shape)) → d.Composite (datums row) ≡ d.Composite' shape row
composite_back shape row = ap (λ (r : Rows). d.Composite' r.0 r.1) (rows_back shape row)

pub in_array : (dims : List Dim) (items : List Datum) → array_in (d.Array dims items) ≡ Some (dims, items)
in_array dims items = ap (λ (l : List Datum). Some (dims, l)) (all_in items)

pub in_range : (empty : Bool) (lower upper : Bound) (bounds : List Datum) → range_in (d.Range empty lower upper bounds) ≡ Some (empty, lower, upper, bounds)
in_range empty lower upper bounds = ap (λ (l : List Datum). Some (empty, lower, upper, l)) (all_in bounds)

pub in_composite : (values : List Datum) → composite_in (d.Composite values) ≡ Some values
in_composite values = ap (λ (l : List Datum). Some l) (all_in values)

-- what is inside of a value, or that it is of another kind
abbrev pub ArrayIs : Datum → Option (List Dim × List Datum) → Type 0
ArrayIs v None = (dims : List Dim) (items : List Datum) → v ≡ d.Array dims items → ⊥
ArrayIs v (Some a) = v ≡ d.Array a.0 a.1

abbrev pub RangeIs : Datum → Option (Bool × Bound × Bound × List Datum) → Type 0
RangeIs v None = (empty : Bool) (lower upper : Bound) (bounds : List Datum) → v ≡ d.Range empty lower upper bounds → ⊥
RangeIs v (Some r) = v ≡ d.Range r.0 r.1 r.2 r.3

abbrev pub CompositeIs : Datum → Option (List Datum) → Type 0
CompositeIs v None = (values : List Datum) → v ≡ d.Composite values → ⊥
CompositeIs v (Some values) = v ≡ d.Composite values

none_some : {X : Type 0} (x : X) → None ≡ Some x → ⊥
none_some x e = cc e

pub inside_array : (v : Datum) → ArrayIs v (array_in v)
inside_array d.Null = λ ds items e. none_some (ds, items) (ap array_in e ∙ in_array ds items)
inside_array (d.Bool b) = λ ds items e. none_some (ds, items) (ap array_in e ∙ in_array ds items)
inside_array (d.Int z) = λ ds items e. none_some (ds, items) (ap array_in e ∙ in_array ds items)
inside_array (d.Text t) = λ ds items e. none_some (ds, items) (ap array_in e ∙ in_array ds items)
inside_array (d.Bytes b) = λ ds items e. none_some (ds, items) (ap array_in e ∙ in_array ds items)
inside_array (d.Label t) = λ ds items e. none_some (ds, items) (ap array_in e ∙ in_array ds items)
inside_array d.NotANumber = λ ds items e. none_some (ds, items) (ap array_in e ∙ in_array ds items)
inside_array (d.Numeric z scale) = λ ds items e. none_some (ds, items) (ap array_in e ∙ in_array ds items)
inside_array (d.Date z) = λ ds items e. none_some (ds, items) (ap array_in e ∙ in_array ds items)
inside_array (d.Timestamp z) = λ ds items e. none_some (ds, items) (ap array_in e ∙ in_array ds items)
inside_array (d.Uuid b) = λ ds items e. none_some (ds, items) (ap array_in e ∙ in_array ds items)
inside_array (d.Array' dims shape row) = sym (array_back dims shape row)
inside_array (d.Range' empty lower upper shape row) = λ ds items e. none_some (ds, items) (ap array_in e ∙ in_array ds items)
inside_array (d.Composite' shape row) = λ ds items e. none_some (ds, items) (ap array_in e ∙ in_array ds items)

pub inside_range : (v : Datum) → RangeIs v (range_in v)
inside_range d.Null = λ em lo up bounds e. none_some (em, lo, up, bounds) (ap range_in e ∙ in_range em lo up bounds)
inside_range (d.Bool b) = λ em lo up bounds e. none_some (em, lo, up, bounds) (ap range_in e ∙ in_range em lo up bounds)
inside_range (d.Int z) = λ em lo up bounds e. none_some (em, lo, up, bounds) (ap range_in e ∙ in_range em lo up bounds)
inside_range (d.Text t) = λ em lo up bounds e. none_some (em, lo, up, bounds) (ap range_in e ∙ in_range em lo up bounds)
inside_range (d.Bytes b) = λ em lo up bounds e. none_some (em, lo, up, bounds) (ap range_in e ∙ in_range em lo up bounds)
inside_range (d.Label t) = λ em lo up bounds e. none_some (em, lo, up, bounds) (ap range_in e ∙ in_range em lo up bounds)
inside_range d.NotANumber = λ em lo up bounds e. none_some (em, lo, up, bounds) (ap range_in e ∙ in_range em lo up bounds)
inside_range (d.Numeric z scale) = λ em lo up bounds e. none_some (em, lo, up, bounds) (ap range_in e ∙ in_range em lo up bounds)
inside_range (d.Date z) = λ em lo up bounds e. none_some (em, lo, up, bounds) (ap range_in e ∙ in_range em lo up bounds)
inside_range (d.Timestamp z) = λ em lo up bounds e. none_some (em, lo, up, bounds) (ap range_in e ∙ in_range em lo up bounds)
inside_range (d.Uuid b) = λ em lo up bounds e. none_some (em, lo, up, bounds) (ap range_in e ∙ in_range em lo up bounds)
inside_range (d.Array' dims shape row) = λ em lo up bounds e. none_some (em, lo, up, bounds) (ap range_in e ∙ in_range em lo up bounds)
inside_range (d.Range' empty lower upper shape row) = sym (range_back empty lower upper shape row)
inside_range (d.Composite' shape row) = λ em lo up bounds e. none_some (em, lo, up, bounds) (ap range_in e ∙ in_range em lo up bounds)

pub inside_composite : (v : Datum) → CompositeIs v (composite_in v)
inside_composite d.Null = λ values e. none_some values (ap composite_in e ∙ in_composite values)
inside_composite (d.Bool b) = λ values e. none_some values (ap composite_in e ∙ in_composite values)
inside_composite (d.Int z) = λ values e. none_some values (ap composite_in e ∙ in_composite values)
inside_composite (d.Text t) = λ values e. none_some values (ap composite_in e ∙ in_composite values)
inside_composite (d.Bytes b) = λ values e. none_some values (ap composite_in e ∙ in_composite values)
inside_composite (d.Label t) = λ values e. none_some values (ap composite_in e ∙ in_composite values)
inside_composite d.NotANumber = λ values e. none_some values (ap composite_in e ∙ in_composite values)
inside_composite (d.Numeric z scale) = λ values e. none_some values (ap composite_in e ∙ in_composite values)
inside_composite (d.Date z) = λ values e. none_some values (ap composite_in e ∙ in_composite values)
inside_composite (d.Timestamp z) = λ values e. none_some values (ap composite_in e ∙ in_composite values)
inside_composite (d.Uuid b) = λ values e. none_some values (ap composite_in e ∙ in_composite values)
inside_composite (d.Array' dims shape row) = λ values e. none_some values (ap composite_in e ∙ in_composite values)
inside_composite (d.Range' empty lower upper shape row) = λ values e. none_some values (ap composite_in e ∙ in_composite values)
inside_composite (d.Composite' shape row) = sym (composite_back shape row)
