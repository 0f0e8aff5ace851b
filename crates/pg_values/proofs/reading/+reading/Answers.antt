use Rattle.std.proofs.Common.{◌≡◌, ℕ, ◌<◌, ◌≤◌, ◌+◌, ◌*◌, ◌^◌, Bool, true, false, ◌==◌, Err, List, [], ◌∷◌, ◌++◌, length, drop, Option, option_map, ap, refl, sym, ◌∙◌, subst, arith, w32, rules}
use Rattle.std.specs.Int.{to_be_bytes}
use Rattle.std.proofs.lemmas.Result.{err_from_is_err_and}
use Rattle.std.proofs.lemmas.List.{length_push}
use Rattle.pg_types.specs.declared.pg_type.Field.{Field}
use Rattle.pg_types.specs.declared.pg_type.PgType.{PgType}
use Rattle.pg_types.specs.declared.pg_type.Kind as k
use Rattle.pg_types.proofs.KindLaws.{row_of, array_is, range_is, domain_is, composite_is}
use Rattle.pg_values.specs.declared.datum.Dim.{Dim}
use Rattle.pg_values.specs.declared.datum.Datum as d
use Rattle.pg_values.specs.declared.datum.Datum.{Datum}
use Rattle.pg_values.specs.Parts.{SpellItems, AreItems, SpellsPart}
use Rattle.pg_values.specs.Reading.{ReadsAs}
use Rattle.pg_values.specs.Spelling.{SpellsKind, SpellFields, IsArray, IsComposite, StandsInFront, count_fields, count_of}
use Rattle.pg_values.proofs.ByteLaws.{word_same}
use Rattle.pg_values.proofs.ReadLaws.{handed_on}
use Rattle.pg_values.proofs.ItemLaws
use Rattle.pg_values.proofs.ArrayValues.{front_of, items_of, array_of, has_front}
use Rattle.pg_values.proofs.reading.+reading.Goals as goal
use Rattle.pg_values.proofs.reading.+reading.Goals.{read_composite-then-count-fields-via-then-count-fields, read_composite-then-count-fields-via-else-count-fields+then-count-ge2147483648}

-- ---- by the kind

pub read_bytes-returns-in-Array : goal.read_bytes-returns-in-Array
read_bytes-returns-in-Array t c =
    subst (λ (kind : k.Kind). ReadsAs (λ (v : Datum). SpellsKind false c.args.ty.now.oid kind v c.args.raw.now) c.read_array.result)
    (sym (sym c.kind.ensures ∙ c.in-Array.is ∙ array_is c.in-Array.element)) c.read_array.ensures

pub read_bytes-returns-in-Range : goal.read_bytes-returns-in-Range
read_bytes-returns-in-Range t c =
    subst (λ (kind : k.Kind). ReadsAs (λ (v : Datum). SpellsKind false c.args.ty.now.oid kind v c.args.raw.now) c.read_range.result)
    (sym (sym c.kind.ensures ∙ c.in-Range.is ∙ range_is c.in-Range.element)) c.read_range.ensures

pub read_bytes-returns-in-Domain : goal.read_bytes-returns-in-Domain
read_bytes-returns-in-Domain t c =
    subst (λ (kind : k.Kind). ReadsAs (λ (v : Datum). SpellsKind false c.args.ty.now.oid kind v c.args.raw.now) c.read_bytes.result)
    (sym (sym c.kind.ensures ∙ c.in-Domain.is ∙ domain_is c.in-Domain.base)) c.read_bytes.ensures

pub read_bytes-returns-in-Composite : goal.read_bytes-returns-in-Composite
read_bytes-returns-in-Composite t c =
    subst (λ (kind : k.Kind). ReadsAs (λ (v : Datum). SpellsKind false c.args.ty.now.oid kind v c.args.raw.now) c.read_composite.result)
    (sym (sym c.kind.ensures ∙ c.in-Composite.is ∙ composite_is c.in-Composite.fields))
    (subst (λ (fs : List Field). ReadsAs (λ (v : Datum). IsComposite (count_fields (row_of fs)) (SpellFields false (row_of fs)) v c.args.raw.now) c.read_composite.result)
    c.as_slice-in-Composite.ensures c.read_composite.ensures)

-- ---- arrays

stands : (oid n : ℕ) (dims : List Dim) (raw : List ℕ) → n ≡ oid → StandsInFront n dims raw → StandsInFront oid dims raw
stands oid n dims raw e front = subst (λ (m : ℕ). StandsInFront m dims raw) e front

pub read_array-returns-in_err-dims : goal.read_array-returns-in_err-dims
read_array-returns-in_err-dims t c =
    let p = err_from_is_err_and c.from_residual.result c.from_residual.ensures.1 in
    let e = c.args.element.now in
    rw (p.1, p.2) (handed_on (λ (dims : List Dim). StandsInFront e.oid dims c.args.raw.now)
    (λ (v : Datum). IsArray false e.oid (SpellsKind false e.oid e.kind) v c.args.raw.now) c.in_err-dims.field-0.0
    (subst (λ (n : ℕ). ReadsAs (λ (dims : List Dim). StandsInFront n dims c.args.raw.now) (Err c.in_err-dims.field-0.0)) c.oid.ensures c.in_err-dims.ensures)
    (front_of (SpellsKind false e.oid e.kind) e.oid c.args.raw.now))

pub read_array-returns-in_default-behind_front : goal.read_array-returns-in_default-behind_front
read_array-returns-in_default-behind_front t c = λ v is.
    let e = c.args.element.now in
    let front = stands e.oid c.oid.result c.in_ok-dims.dims c.args.raw.now c.oid.ensures c.in_ok-dims.ensures in
    let room : 12 + 8 * length c.in_ok-dims.dims ≤ length c.args.raw.now = has_front e.oid c.args.raw.now c.in_ok-dims.dims front in
    let less : length c.args.raw.now < 12 + 8 * length c.in_ok-dims.dims =
    subst (λ (l : List Dim). length c.args.raw.now < 12 + 8 * length l) c.as_slice-2.ensures c.in_default-behind_front.ensures in
    omega (arith, room, less)

pub read_array-returns-in_err-items : goal.read_array-returns-in_err-items
read_array-returns-in_err-items t c =
    let p = err_from_is_err_and c.from_residual-in_err-items.result c.from_residual-in_err-items.ensures.1 in
    let e = c.args.element.now in
    let S : Datum → List ℕ → Type 0 = SpellsKind false e.oid e.kind in
    let front = stands e.oid c.oid.result c.in_ok-dims.dims c.args.raw.now c.oid.ensures c.in_ok-dims.ensures in
    let count : c.in-Some.count ≡ count_of c.in_ok-dims.dims = c.in-Some.ensures.0 ∙ ap count_of c.as_slice.ensures in
    let rest : c.in-Some-behind_front.rest.now ≡ drop (12 + 8 * length c.in_ok-dims.dims) c.args.raw.now =
    c.in-Some-behind_front.ensures ∙ ap (λ (l : List Dim). drop (12 + 8 * length l) c.args.raw.now) c.as_slice-2.ensures in
    rw (p.1, p.2) (handed_on (λ (items : List Datum). AreItems true S c.in-Some.count items c.in-Some-behind_front.rest.now)
    (λ (v : Datum). IsArray false e.oid S v c.args.raw.now) c.in_err-items.field-0.0 c.in_err-items.ensures
    (λ v is. let of = items_of S e.oid c.args.raw.now c.in_ok-dims.dims front v is in (
      of.0,
      subst (λ (n : ℕ). AreItems true S n of.0 c.in-Some-behind_front.rest.now) (sym count)
          (subst (λ (l : List ℕ). AreItems true S (count_of c.in_ok-dims.dims) of.0 l) (sym rest) of.1),
    )))

pub read_array-returns : goal.read_array-returns
read_array-returns t c =
    let e = c.args.element.now in
    let S : Datum → List ℕ → Type 0 = SpellsKind false e.oid e.kind in
    let front = stands e.oid c.oid.result c.in_ok-dims.dims c.args.raw.now c.oid.ensures c.in_ok-dims.ensures in
    let count : c.in-Some.count ≡ count_of c.in_ok-dims.dims = c.in-Some.ensures.0 ∙ ap count_of c.as_slice.ensures in
    let rest : c.in-Some-behind_front.rest.now ≡ drop (12 + 8 * length c.in_ok-dims.dims) c.args.raw.now =
    c.in-Some-behind_front.ensures ∙ ap (λ (l : List Dim). drop (12 + 8 * length l) c.args.raw.now) c.as_slice-2.ensures in
    subst (λ (ds : List Dim). IsArray false e.oid S (d.Array ds c.in_ok-items.items) c.args.raw.now) (sym c.in_ok-kept.ensures)
    (array_of S e.oid c.args.raw.now c.in_ok-dims.dims front c.in_ok-items.items
    (subst (λ (l : List ℕ). AreItems true S (count_of c.in_ok-dims.dims) c.in_ok-items.items l) rest
    (subst (λ (n : ℕ). AreItems true S n c.in_ok-items.items c.in-Some-behind_front.rest.now) count c.in_ok-items.ensures)))

-- ---- items

pub read_items-returns-in_default : goal.read_items-returns-in_default
read_items-returns-in_default t c = λ vs are.
    let S : Datum → List ℕ → Type 0 = SpellsKind false c.args.ty.now.oid c.args.ty.now.kind in
    let others = c.loop.invariant.others vs are in
    ItemLaws.none_at c.args.nullable S c.args.count c.loop.counter others.0 c.loop.rest.now (omega arith) others.1 c.in_default.ensures

pub read_items-returns-in_err-read_part : goal.read_items-returns-in_err-read_part
read_items-returns-in_err-read_part t c =
    let p = err_from_is_err_and c.from_residual-in_err-read_part.result c.from_residual-in_err-read_part.ensures.1 in
    let S : Datum → List ℕ → Type 0 = SpellsKind false c.args.ty.now.oid c.args.ty.now.kind in
    let part : Option (List ℕ) = option_map (λ r. r.now) c.in-Some.part.raw in
    rw (p.1, p.2) (handed_on (λ (v : Datum). SpellsPart S part v) (λ (items : List Datum). AreItems c.args.nullable S c.args.count items c.args.bytes.now)
    c.in_err-read_part.field-0.0 c.in_err-read_part.ensures
    (λ vs are.
    let others = c.loop.invariant.others vs are in
    let item = ItemLaws.item_at c.args.nullable S c.args.count c.loop.counter others.0 c.loop.rest.now part c.in-Some.part.rest.now (omega arith) others.1 c.in-Some.ensures in
    (item.value, item.is)))

pub read_items-loop-preserved : goal.read_items-loop-preserved
read_items-loop-preserved t c =
    let S : Datum → List ℕ → Type 0 = SpellsKind false c.args.ty.now.oid c.args.ty.now.kind in
    let part : Option (List ℕ) = option_map (λ r. r.now) c.in-Some.part.raw in
    let e = sym c.in_ok-push.ensures in
    record {
      count_is = ap (λ (l : List Datum). length l) (sym e) ∙ length_push c.loop.items c.in_ok-read_part.field-0 ∙ ap (λ (n : ℕ). n + 1) c.loop.invariant.count_is;
      whole = subst (λ (l : List Datum). (tail : List Datum) → SpellItems c.args.nullable S tail c.in-Some.part.rest.now → SpellItems c.args.nullable S (l ++ tail) c.args.bytes.now) e
          (ItemLaws.items_more c.args.nullable S c.loop.items c.in_ok-read_part.field-0 c.args.bytes.now c.loop.rest.now c.in-Some.part.rest.now part
          c.loop.invariant.whole c.in-Some.ensures c.in_ok-read_part.ensures);
      others = λ vs are.
          let others = c.loop.invariant.others vs are in
          let item = ItemLaws.item_at c.args.nullable S c.args.count c.loop.counter others.0 c.loop.rest.now part c.in-Some.part.rest.now (omega arith) others.1 c.in-Some.ensures in
          (item.others, item.are);
    }

-- ---- composites

pub read_composite-returns-then-count-fields : goal.read_composite-returns-then-count-fields
read_composite-returns-then-count-fields t c = λ v is.
    let fs : List Field = c.args.fields.now in
    let count : count_fields (row_of fs) ≡ length fs = ItemLaws.count_is fs in
    let both : to_be_bytes w32 c.in-Some.count ++ c.in-Some.rest.now ≡ to_be_bytes w32 (count_fields (row_of fs)) ++ is.rest = sym c.in-Some.ensures.1 ∙ is.spelled in
    let few : count_fields (row_of fs) < 2 ^ 31 = is.few in
    let same : c.in-Some.count ≡ count_fields (row_of fs) = word_same c.in-Some.count (count_fields (row_of fs)) c.in-Some.rest.now is.rest c.in-Some.ensures.0 (omega (arith, few)) both in
    elim c.then-count-fields.branch [
      | read_composite-then-count-fields-via-then-count-fields w ↦ w.if-count-fields.true (same ∙ count)
      | read_composite-then-count-fields-via-else-count-fields+then-count-ge2147483648 w ↦ omega (arith, same, few, w.if-count-ge2147483648.true)
    ]

pub read_composite-returns : goal.read_composite-returns
read_composite-returns t c =
    let fs : List Field = c.args.fields.now in
    let count : count_fields (row_of fs) ≡ c.in-Some.count = ItemLaws.count_is fs ∙ sym c.if-count-fields.false in
    record {
      fields = c.in_ok-read_fields.field-0;
      rest = c.in-Some.rest.now;
      same = refl;
      few = omega (arith, count, c.if-count-ge2147483648.false);
      fields_are = c.in_ok-read_fields.ensures;
      spelled = c.in-Some.ensures.1 ∙ ap (λ (n : ℕ). to_be_bytes w32 n ++ c.in-Some.rest.now) (sym count);
    }

-- ---- fields

pub read_fields-returns-in_default : goal.read_fields-returns-in_default
read_fields-returns-in_default t c = λ vs are.
    let f = c.field-item.result in
    let others = c.loop-field.invariant.others vs are in
    let has = ItemLaws.field_at c.args.fields.now c.loop-field.field-index f others.0 c.loop-field.rest.now (omega arith) c.field-item.is others.1 in
    let oid : c.oid.result ≡ f.type_.oid = c.oid.ensures ∙ ap (λ (ty : PgType). ty.oid) c.type_.ensures in
    c.in_default.ensures has.behind (has.oid_is ∙ ap (λ (n : ℕ). to_be_bytes w32 n ++ has.behind) (sym oid))

pub read_fields-returns-in_default-cut : goal.read_fields-returns-in_default-cut
read_fields-returns-in_default-cut t c = λ vs are.
    let f = c.field-item.result in
    let others = c.loop-field.invariant.others vs are in
    let has = ItemLaws.field_at c.args.fields.now c.loop-field.field-index f others.0 c.loop-field.rest.now (omega arith) c.field-item.is others.1 in
    let oid : c.oid.result ≡ f.type_.oid = c.oid.ensures ∙ ap (λ (ty : PgType). ty.oid) c.type_.ensures in
    let next = ItemLaws.field_behind (SpellsKind false f.type_.oid f.type_.kind) (ItemLaws.FieldsFrom c.args.fields.now (c.loop-field.field-index + 1)) f.type_.oid c.loop-field.rest.now c.in-Some.after.now has
    (c.in-Some.ensures ∙ ap (λ (n : ℕ). to_be_bytes w32 n ++ c.in-Some.after.now) oid) in
    c.in_default-cut.ensures next.part has.after next.front

pub read_fields-returns-in_err-read_part : goal.read_fields-returns-in_err-read_part
read_fields-returns-in_err-read_part t c =
    let p = err_from_is_err_and c.from_residual.result c.from_residual.ensures.1 in
    let f = c.field-item.result in
    let S : Datum → List ℕ → Type 0 = SpellsKind false f.type_.oid f.type_.kind in
    let F : List Datum → List ℕ → Type 0 = ItemLaws.FieldsFrom c.args.fields.now (c.loop-field.field-index + 1) in
    let part : Option (List ℕ) = option_map (λ r. r.now) c.in-Some-cut.part.raw in
    let oid : c.oid.result ≡ f.type_.oid = c.oid.ensures ∙ ap (λ (ty : PgType). ty.oid) c.type_.ensures in
    rw (p.1, p.2) (handed_on (λ (v : Datum). SpellsPart S part v) (λ (values : List Datum). SpellFields false (row_of c.args.fields.now) values c.args.bytes.now)
    c.in_err-read_part.field-0.0
    (subst (λ (ty : PgType). ReadsAs (λ (v : Datum). SpellsPart (SpellsKind false ty.oid ty.kind) part v) (Err c.in_err-read_part.field-0.0)) c.type_-in-loop-field.ensures c.in_err-read_part.ensures)
    (λ vs are.
    let others = c.loop-field.invariant.others vs are in
    let has = ItemLaws.field_at c.args.fields.now c.loop-field.field-index f others.0 c.loop-field.rest.now (omega arith) c.field-item.is others.1 in
    let next = ItemLaws.field_behind S F f.type_.oid c.loop-field.rest.now c.in-Some.after.now has (c.in-Some.ensures ∙ ap (λ (n : ℕ). to_be_bytes w32 n ++ c.in-Some.after.now) oid) in
    (has.value, (ItemLaws.field_part S F has.value has.others c.in-Some.after.now has.after c.in-Some-cut.part.rest.now part next has.are c.in-Some-cut.ensures).0)))

pub read_fields-loop-field-preserved : goal.read_fields-loop-field-preserved
read_fields-loop-field-preserved t c =
    let f = c.field-item.result in
    let S : Datum → List ℕ → Type 0 = SpellsKind false f.type_.oid f.type_.kind in
    let F : List Datum → List ℕ → Type 0 = ItemLaws.FieldsFrom c.args.fields.now (c.loop-field.field-index + 1) in
    let part : Option (List ℕ) = option_map (λ r. r.now) c.in-Some-cut.part.raw in
    let oid : c.oid.result ≡ f.type_.oid = c.oid.ensures ∙ ap (λ (ty : PgType). ty.oid) c.type_.ensures in
    let front = c.in-Some.ensures ∙ ap (λ (n : ℕ). to_be_bytes w32 n ++ c.in-Some.after.now) oid in
    let e = sym c.in_ok-push.ensures in
    record {
      whole = subst (λ (l : List Datum). (tail : List Datum) → F tail c.in-Some-cut.part.rest.now → SpellFields false (row_of c.args.fields.now) (l ++ tail) c.args.bytes.now) e
          (ItemLaws.fields_more c.args.fields.now c.loop-field.field-index f c.loop-field.values c.in_ok-read_part.field-0 c.args.bytes.now c.loop-field.rest.now c.in-Some.after.now
          c.in-Some-cut.part.rest.now part (omega arith) c.field-item.is c.loop-field.invariant.whole front c.in-Some-cut.ensures
          (subst (λ (ty : PgType). SpellsPart (SpellsKind false ty.oid ty.kind) part c.in_ok-read_part.field-0) c.type_-in-loop-field.ensures c.in_ok-read_part.ensures));
      others = λ vs are.
          let others = c.loop-field.invariant.others vs are in
          let has = ItemLaws.field_at c.args.fields.now c.loop-field.field-index f others.0 c.loop-field.rest.now (omega arith) c.field-item.is others.1 in
          let next = ItemLaws.field_behind S F f.type_.oid c.loop-field.rest.now c.in-Some.after.now has front in
          (has.others, (ItemLaws.field_part S F has.value has.others c.in-Some.after.now has.after c.in-Some-cut.part.rest.now part next has.are c.in-Some-cut.ensures).1);
    }

some_left : (xs : List ℕ) (b : Bool) → b ≡ (length xs == 0) → b ≡ false → xs ≡ [] → ⊥
some_left xs b is left none = let e : (length xs == 0) ≡ true = ap (λ (l : List ℕ). length l == 0) none in absurd (cc (is, left, e))

none_left : (xs : List ℕ) (b : Bool) → b ≡ (length xs == 0) → b ≡ true → xs ≡ []
none_left [] b is left = refl
none_left (x ∷ xs) b is left = search rules

pub read_fields-returns-then-not-is_empty : goal.read_fields-returns-then-not-is_empty
read_fields-returns-then-not-is_empty t c = λ vs are.
    let others = c.loop-field.invariant.others vs are in
    some_left c.loop-field.rest.now c.is_empty.result c.is_empty.ensures c.if-not-is_empty.true
    (ItemLaws.fields_over c.args.fields.now c.loop-field.field-index others.0 c.loop-field.rest.now (omega arith) others.1)

pub read_fields-returns : goal.read_fields-returns
read_fields-returns t c =
    ItemLaws.fields_end c.args.fields.now c.loop-field.field-index c.loop-field.values c.args.bytes.now c.loop-field.rest.now (omega arith) c.loop-field.invariant.whole
    (none_left c.loop-field.rest.now c.is_empty.result c.is_empty.ensures c.if-not-is_empty.false)
