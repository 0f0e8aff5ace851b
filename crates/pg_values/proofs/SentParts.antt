-- Values with parts, sent.
use Rattle.std.proofs.Common.{◌≡◌, ◌≢◌, inl, inr, ℕ, suc, ◌<◌, ◌≤◌, ◌+◌, ◌-◌, ◌^◌, ◌==◌, ◌&&◌, Bool, true, false, if◌then◌else◌, List, [], ◌∷◌, ◌++◌, length, take, drop, get_or, Option, Some, None, Result, Ok, Err, MatchResult, ap, refl, sym, ◌∙◌, subst, arith, w32}
use Rattle.std.specs.Bool.{nat_lt}
use Rattle.std.specs.Fmt.{◌++?◌}
use Rattle.std.specs.Int.{to_be_bytes}
use Rattle.std.proofs.lemmas.Bool.{le-ltb, lt-ltb, ltb-true}
use Rattle.std.proofs.lemmas.List.{drop_all}
use Rattle.pg_types.specs.declared.fault.ValueFault.{ValueFault}
use Rattle.pg_types.specs.declared.fault.ValueFault.TheVariants as fault
use Rattle.pg_types.specs.declared.pg_type.Field.{Field}
use Rattle.pg_types.specs.declared.pg_type.Kind as k
use Rattle.pg_types.proofs.KindLaws.{row_of}
use Rattle.pg_values.specs.declared.datum.Dim.{Dim}
use Rattle.pg_values.specs.declared.datum.Bound.{Bound}
use Rattle.pg_values.specs.declared.datum.Datum as d
use Rattle.pg_values.specs.declared.datum.Datum.{Datum}
use Rattle.pg_values.specs.Parts.{part_bytes}
use Rattle.pg_values.specs.Sending.{is_null, kind_send, fields_send, part_send, value_or_null_send, items_send, array_in, array_of, array_send, may_be_array, null_flag, range_in, range_of, range_send, may_be_range, composite_in, record_of, record_send}
use Rattle.pg_values.specs.Spelling.{IsFront, array_front, count_of, count_fields, has_flag, lower_by, upper_by, range_flags, values_of}
use Rattle.pg_values.specs.Writing.{Begins, Puts, WritesSent}
use Rattle.pg_values.proofs.ItemLaws.{at_field, count_is}
use Rattle.pg_values.proofs.PartWritten.{SetsLen}
use Rattle.pg_values.proofs.SendLaws.{in_front, sent_none, sent_put}
use Rattle.pg_values.proofs.SentCases.{and_both, both, nat_same, same_nat, fails, fit_array, array_fit, fit_range, range_fit, in_array, in_range, in_composite, inside_array, inside_range, inside_composite, ArrayIs, RangeIs, CompositeIs, null_isnt}
use Rattle.pg_values.proofs.WriteLaws.{at_item, begun, first, nothing, part_is, part_size}

-- ---- parts

abbrev Send : Type 0
Send = Datum → Option (List ℕ)

-- a value that isn't null is sent as a part of its bytes
pub part_some : (nullable : Bool) (send : Send) (v : Datum) → v ≢ d.Null → value_or_null_send nullable send v ≡ part_send (send v)
part_some nullable send v some = ap (λ (b : Bool). if b then (if nullable then Some (part_bytes None) else None) else part_send (send v)) (null_isnt v some)

pub part_null : (nullable : Bool) (send : Send) (v : Datum) → v ≡ d.Null → value_or_null_send nullable send v ≡ (if nullable then Some (part_bytes None) else None)
part_null nullable send v is = ap (λ (b : Bool). if b then (if nullable then Some (part_bytes None) else None) else part_send (send v)) (ap is_null is)

pub null_sent : (nullable : Bool) (send : Send) (v : Datum) (old new : List ℕ) (r : Result (Unit {0}) ValueFault) → v ≡ d.Null
    → (nullable ≡ true → Puts (part_bytes None) old new r) → (nullable ≡ false → (r ≡ Err fault.BadValue) × (new ≡ old))
    → WritesSent (value_or_null_send nullable send v) old new r
null_sent true send v old new r is put refused = subst (λ (o : Option (List ℕ)). WritesSent o old new r) (sym (part_null true send v is)) (sent_put (part_bytes None) old new r (put refl))
null_sent false send v old new r is put refused =
    let told = refused refl in
    subst (λ (q : Result (Unit {0}) ValueFault). WritesSent (value_or_null_send false send v) old new q) (sym told.0) (part_null false send v is, nothing told.1)

part_fits : (bytes : List ℕ) → length bytes < 2 ^ 31 → part_send (Some bytes) ≡ Some (part_bytes (Some bytes))
part_fits bytes less = ap (λ (b : Bool). if b then Some (part_bytes (Some bytes)) else None) (lt-ltb (length bytes) (2 ^ 31) less)

part_long : (bytes : List ℕ) → 2 ^ 31 ≤ length bytes → part_send (Some bytes) ≡ None
part_long bytes long = ap (λ (b : Bool). if b then Some (part_bytes (Some bytes)) else None) (le-ltb (length bytes) (2 ^ 31) long)

-- the length was set in front of the bytes, or they are too many
pub part_sent : (nullable : Bool) (send : Send) (v : Datum) (old bytes mid out new : List ℕ) (r : Result (Unit {0}) ValueFault) → v ≢ d.Null → send v ≡ Some bytes
    → mid ≡ old ++ (0 ∷ 0 ∷ 0 ∷ 0 ∷ []) → out ≡ mid ++ bytes → SetsLen (length old) out new r → WritesSent (value_or_null_send nullable send v) old new r
part_sent nullable send v old bytes mid out new r some is e f set =
    subst (λ (o : Option (List ℕ)). WritesSent o old new r) (sym (part_some nullable send v some ∙ ap part_send is)) (go r set)
  where
    size : length out - (length old + 4) ≡ length bytes
    size = part_size old bytes mid out e f

    go : (q : Result (Unit {0}) ValueFault) → SetsLen (length old) out new q → WritesSent (part_send (Some bytes)) old new q
    go (Ok x) set =
        let made = part_is old bytes new mid out e f set.1 in
        (part_bytes (Some bytes), part_fits bytes (omega (arith, size, set.0)), made.0)
    go (Err g) set =
        sent_none (part_send (Some bytes)) old new g set.0 (part_long bytes (omega (arith, size, set.1)))
        (begun (first (0 ∷ 0 ∷ 0 ∷ 0 ∷ []) e) (begun (first bytes f) (nothing set.2)))

-- where there are no bytes there is no part
pub part_none : (nullable : Bool) (send : Send) (v : Datum) → v ≢ d.Null → send v ≡ None → value_or_null_send nullable send v ≡ None
part_none nullable send v some none = part_some nullable send v some ∙ ap part_send none

-- ---- items

pub items_at : (nullable : Bool) (send : Send) (vs : List Datum) (i : ℕ) (v : Datum) → i < length vs → v ≡ get_or vs i v
    → items_send nullable send (drop i vs) ≡ value_or_null_send nullable send v ++? items_send nullable send (drop (i + 1) vs)
items_at nullable send vs i v less is = ap (items_send nullable send) (at_item vs i v less is)

pub items_over : (nullable : Bool) (send : Send) (vs : List Datum) (i : ℕ) → length vs ≤ i → items_send nullable send (drop i vs) ≡ Some []
items_over nullable send vs i less = ap (items_send nullable send) (drop_all i vs less)

-- ---- arrays

pub array_none : (element : ℕ) (send : Send) (v : Datum) → ((dims : List Dim) (items : List Datum) → v ≡ d.Array dims items → ⊥) → array_send element send v ≡ None
array_none element send v other = go (array_in v) (inside_array v)
  where
    go : (o : Option (List Dim × List Datum)) → ArrayIs v o → ◌≡◌ {A = Option (List ℕ)} (elim o [ None ↦ None | Some a ↦ array_of element send a.0 a.1 ]) None
    go None is = refl
    go (Some a) is = absurd (other a.0 a.1 is)

pub array_at : (element : ℕ) (send : Send) (v : Datum) (dims : List Dim) (items : List Datum) → v ≡ d.Array dims items → array_send element send v ≡ array_of element send dims items
array_at element send v dims items is =
    ap (λ (o : Option (List Dim × List Datum)). elim o [ None ↦ None | Some a ↦ array_of element send a.0 a.1 ]) (ap array_in is ∙ in_array dims items)

pub array_unfit : (element : ℕ) (send : Send) (v : Datum) (dims : List Dim) (items : List Datum) → v ≡ d.Array dims items → (IsFront 0 dims × (length items ≡ count_of dims) → ⊥)
    → array_send element send v ≡ None
array_unfit element send v dims items is unfit =
    array_at element send v dims items is
    ∙ ap (λ (b : Bool). if b then Some (array_front (null_flag items) element dims) ++? items_send true send items else None)
    (fails (may_be_array dims (length items)) (λ e. unfit (array_fit dims (length items) e)))

pub array_fits : (element : ℕ) (send : Send) (v : Datum) (dims : List Dim) (items : List Datum) → v ≡ d.Array dims items → IsFront 0 dims × (length items ≡ count_of dims)
    → array_send element send v ≡ Some (array_front (null_flag items) element dims) ++? items_send true send items
array_fits element send v dims items is fit =
    array_at element send v dims items is
    ∙ ap (λ (b : Bool). if b then Some (array_front (null_flag items) element dims) ++? items_send true send items else None) (fit_array dims (length items) fit)

-- ---- ranges

pub range_none : (send : Send) (v : Datum) → ((empty : Bool) (lower upper : Bound) (bounds : List Datum) → v ≡ d.Range empty lower upper bounds → ⊥) → range_send send v ≡ None
range_none send v other = go (range_in v) (inside_range v)
  where
    go : (o : Option (Bool × Bound × Bound × List Datum)) → RangeIs v o → ◌≡◌ {A = Option (List ℕ)} (elim o [ None ↦ None | Some r ↦ range_of send r.0 r.1 r.2 r.3 ]) None
    go None is = refl
    go (Some r) is = absurd (other r.0 r.1 r.2 r.3 is)

pub range_at : (send : Send) (v : Datum) (empty : Bool) (lower upper : Bound) (bounds : List Datum) → v ≡ d.Range empty lower upper bounds
    → range_send send v ≡ range_of send empty lower upper bounds
range_at send v empty lower upper bounds is =
    ap (λ (o : Option (Bool × Bound × Bound × List Datum)). elim o [ None ↦ None | Some r ↦ range_of send r.0 r.1 r.2 r.3 ]) (ap range_in is ∙ in_range empty lower upper bounds)

abbrev range_if : Send → (empty : Bool) → (lower upper : Bound) → List Datum → Bool → Option (List ℕ)
range_if send empty lower upper bounds b = if b then Some (range_flags empty lower upper ∷ []) ++? items_send false send bounds else None

-- no flags say it
pub range_unfit : (send : Send) (v : Datum) (empty : Bool) (lower upper : Bound) (bounds : List Datum) → v ≡ d.Range empty lower upper bounds
    → ((flags : ℕ) → empty ≡ has_flag 1 flags → lower ≡ lower_by flags → upper ≡ upper_by flags → ⊥) → range_send send v ≡ None
range_unfit send v empty lower upper bounds is unfit =
    range_at send v empty lower upper bounds is
    ∙ ap (λ (b : Bool). range_if send empty lower upper bounds (b && (length bounds == values_of lower + values_of upper)))
    (fails (may_be_range empty lower upper) (λ e. let fit = range_fit empty lower upper e in
    unfit (range_flags empty lower upper) (sym fit.empty_is) (sym fit.lower_is) (sym fit.upper_is)))

-- another number of values
pub range_uncounted : (send : Send) (v : Datum) (empty : Bool) (lower upper : Bound) (bounds : List Datum) → v ≡ d.Range empty lower upper bounds
    → length bounds ≢ values_of lower + values_of upper → range_send send v ≡ None
range_uncounted send v empty lower upper bounds is other =
    range_at send v empty lower upper bounds is ∙ ap (range_if send empty lower upper bounds) (fails (may_be_range empty lower upper && (length bounds == values_of lower + values_of upper))
    (λ e. other (same_nat (length bounds) (values_of lower + values_of upper) (both (may_be_range empty lower upper) (length bounds == values_of lower + values_of upper) e).1)))

pub range_fits : (send : Send) (v : Datum) (empty : Bool) (lower upper : Bound) (bounds : List Datum) (flags : ℕ) → v ≡ d.Range empty lower upper bounds
    → flags ≡ range_flags empty lower upper → empty ≡ has_flag 1 flags → lower ≡ lower_by flags → upper ≡ upper_by flags → length bounds ≡ values_of lower + values_of upper
    → range_send send v ≡ Some (flags ∷ []) ++? items_send false send bounds
range_fits send v empty lower upper bounds flags is e p q s count =
    range_at send v empty lower upper bounds is
    ∙ ap (range_if send empty lower upper bounds) (and_both (may_be_range empty lower upper) (length bounds == values_of lower + values_of upper) (fit_range flags empty lower upper p q s)
    (nat_same (length bounds) (values_of lower + values_of upper) count))
    ∙ ap (λ (n : ℕ). Some (n ∷ []) ++? items_send false send bounds) (sym e)

-- ---- composites

pub record_none : (n : ℕ) (send : List Datum → Option (List ℕ)) (v : Datum) → ((values : List Datum) → v ≡ d.Composite values → ⊥) → record_send n send v ≡ None
record_none n send v other = go (composite_in v) (inside_composite v)
  where
    go : (o : Option (List Datum)) → CompositeIs v o → ◌≡◌ {A = Option (List ℕ)} (elim o [ None ↦ None | Some values ↦ record_of n send values ]) None
    go None is = refl
    go (Some values) is = absurd (other values is)

pub record_at : (n : ℕ) (send : List Datum → Option (List ℕ)) (v : Datum) (values : List Datum) → v ≡ d.Composite values → record_send n send v ≡ record_of n send values
record_at n send v values is = ap (λ (o : Option (List Datum)). elim o [ None ↦ None | Some values ↦ record_of n send values ]) (ap composite_in is ∙ in_composite values)

pub record_fits : (n : ℕ) (send : List Datum → Option (List ℕ)) (v : Datum) (values : List Datum) → v ≡ d.Composite values → n < 2 ^ 31
    → record_send n send v ≡ Some (to_be_bytes w32 n) ++? send values
record_fits n send v values is less =
    record_at n send v values is ∙ ap (λ (b : Bool). if b then Some (to_be_bytes w32 n) ++? send values else None) (lt-ltb n (2 ^ 31) less)

-- without a value for each field there are no bytes
fields_other : (fs : List Field) (vs : List Datum) → (length vs ≡ length fs → ⊥) → fields_send (row_of fs) vs ≡ None
fields_other [] [] other = absurd (other refl)
fields_other [] (v ∷ vs) other = refl
fields_other (f ∷ fs) [] other = refl
fields_other (f ∷ fs) (v ∷ vs) other =
    ap (λ (o : Option (List ℕ)). Some (to_be_bytes w32 f.type_.oid) ++? (value_or_null_send true (kind_send f.type_.oid f.type_.kind) v ++? o)) (fields_other fs vs (λ e. other (ap suc e)))
    ∙ ap (λ (o : Option (List ℕ)). Some (to_be_bytes w32 f.type_.oid) ++? o) (nothing_behind (value_or_null_send true (kind_send f.type_.oid f.type_.kind) v))
  where
    nothing_behind : (o : Option (List ℕ)) → o ++? None ≡ None
    nothing_behind None = refl
    nothing_behind (Some a) = refl

pub record_unpaired : (fs : List Field) (v : Datum) (values : List Datum) → v ≡ d.Composite values → ((length values ≡ length fs) × (length fs < 2 ^ 31) → ⊥)
    → record_send (count_fields (row_of fs)) (fields_send (row_of fs)) v ≡ None
record_unpaired fs v values is unfit =
    record_at n (fields_send (row_of fs)) v values is ∙ go (nat_lt n (2 ^ 31)) refl
  where
    n : ℕ
    n = count_fields (row_of fs)

    go : (b : Bool) → nat_lt n (2 ^ 31) ≡ b → (if b then Some (to_be_bytes w32 n) ++? fields_send (row_of fs) values else None) ≡ None
    go true e =
        let less : n < 2 ^ 31 = ltb-true n (2 ^ 31) e in
        ap (λ (o : Option (List ℕ)). Some (to_be_bytes w32 n) ++? o) (fields_other fs values (λ same. unfit (same, subst (λ (m : ℕ). m < 2 ^ 31) (count_is fs) less)))
    go false e = refl

pub fields_at : (fs : List Field) (vs : List Datum) (i : ℕ) (f : Field) (v : Datum) → i < length fs → i < length vs → f ≡ get_or fs i f → v ≡ get_or vs i v
    → fields_send (row_of (drop i fs)) (drop i vs)
    ≡ (Some (to_be_bytes w32 f.type_.oid) ++? value_or_null_send true (kind_send f.type_.oid f.type_.kind) v) ++? fields_send (row_of (drop (i + 1) fs)) (drop (i + 1) vs)
fields_at fs vs i f v less also is has =
    ap (λ (l : List Field). fields_send (row_of l) (drop i vs)) (at_field fs i f less is)
    ∙ ap (fields_send (row_of (f ∷ drop (i + 1) fs))) (at_item vs i v also has)
    ∙ grouped (to_be_bytes w32 f.type_.oid) (value_or_null_send true (kind_send f.type_.oid f.type_.kind) v) (fields_send (row_of (drop (i + 1) fs)) (drop (i + 1) vs))
  where
    grouped : (a : List ℕ) (b c : Option (List ℕ)) → Some a ++? (b ++? c) ≡ (Some a ++? b) ++? c
    grouped a None c = refl
    grouped a (Some b) c = in_front a b c

pub fields_over : (fs : List Field) (vs : List Datum) (i : ℕ) → length fs ≤ i → length vs ≤ i → fields_send (row_of (drop i fs)) (drop i vs) ≡ Some []
fields_over fs vs i less also =
    ap (λ (l : List Field). fields_send (row_of l) (drop i vs)) (drop_all i fs less) ∙ ap (fields_send (row_of [])) (drop_all i vs also)
