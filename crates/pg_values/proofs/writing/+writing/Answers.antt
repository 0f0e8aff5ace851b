use Rattle.std.proofs.Common.{◌≡◌, ℕ, ◌+◌, true, false, Err, Ok, List, [], ◌∷◌, ◌++◌, length, drop, get_or, Option, Some, None, Result, ap, refl, sym, ◌∙◌, subst, arith, w32}
use Rattle.std.specs.Int.{to_be_bytes}
use Rattle.std.proofs.lemmas.Result.{err_from_is_err_and}
use Rattle.std.specs.Fmt.{◌++?◌}
use Rattle.pg_types.specs.declared.fault.ValueFault.{ValueFault}
use Rattle.pg_types.specs.declared.pg_type.Field.{Field}
use Rattle.pg_types.specs.declared.pg_type.PgType.{PgType}
use Rattle.pg_types.specs.declared.pg_type.Kind as k
use Rattle.pg_types.proofs.KindLaws.{row_of, array_is, range_is, domain_is, composite_is}
use Rattle.pg_values.specs.declared.datum.Dim.{Dim}
use Rattle.pg_values.specs.declared.datum.Datum.{Datum}
use Rattle.pg_values.specs.Sending.{kind_send, fields_send, value_or_null_send, items_send, array_send, range_send, record_send, null_flag}
use Rattle.pg_values.specs.Spelling.{array_front, count_fields}
use Rattle.pg_values.specs.Writing.{WritesSent}
use Rattle.pg_values.proofs.ItemLaws.{count_is}
use Rattle.pg_values.proofs.PartWritten.{SetsLen}
use Rattle.pg_values.proofs.SendLaws as laws
use Rattle.pg_values.proofs.SentCases.{flag_is}
use Rattle.pg_values.proofs.SentParts as parts
use Rattle.pg_values.proofs.WriteLaws.{begun, first, nothing}
use Rattle.pg_values.proofs.writing.+writing.Goals as goal

-- ---- by the kind

pub write_bytes-returns-in-Array : goal.write_bytes-returns-in-Array
write_bytes-returns-in-Array t c =
    subst (λ (kind : k.Kind). WritesSent (kind_send c.args.ty.now.oid kind c.args.value.now) c.args.out.now.items c.write_array.new.out.items c.write_array.result)
    (sym (sym c.kind.ensures ∙ c.in-Array.is ∙ array_is c.in-Array.element)) c.write_array.ensures

pub write_bytes-returns-in-Range : goal.write_bytes-returns-in-Range
write_bytes-returns-in-Range t c =
    subst (λ (kind : k.Kind). WritesSent (kind_send c.args.ty.now.oid kind c.args.value.now) c.args.out.now.items c.write_range.new.out.items c.write_range.result)
    (sym (sym c.kind.ensures ∙ c.in-Range.is ∙ range_is c.in-Range.element)) c.write_range.ensures

pub write_bytes-returns-in-Domain : goal.write_bytes-returns-in-Domain
write_bytes-returns-in-Domain t c =
    subst (λ (kind : k.Kind). WritesSent (kind_send c.args.ty.now.oid kind c.args.value.now) c.args.out.now.items c.write_bytes.new.out.items c.write_bytes.result)
    (sym (sym c.kind.ensures ∙ c.in-Domain.is ∙ domain_is c.in-Domain.base)) c.write_bytes.ensures

pub write_bytes-returns-in-Composite : goal.write_bytes-returns-in-Composite
write_bytes-returns-in-Composite t c =
    subst (λ (kind : k.Kind). WritesSent (kind_send c.args.ty.now.oid kind c.args.value.now) c.args.out.now.items c.write_composite.new.out.items c.write_composite.result)
    (sym (sym c.kind.ensures ∙ c.in-Composite.is ∙ composite_is c.in-Composite.fields))
    (subst (λ (fs : List Field). WritesSent (record_send (count_fields (row_of fs)) (fields_send (row_of fs)) c.args.value.now) c.args.out.now.items c.write_composite.new.out.items c.write_composite.result)
    c.as_slice-in-Composite.ensures c.write_composite.ensures)

-- ---- parts

pub write_part-returns-then-is_null : goal.write_part-returns-then-is_null
write_part-returns-then-is_null t c =
    parts.null_sent c.args.nullable (kind_send c.args.ty.now.oid c.args.ty.now.kind) c.args.value.now c.args.out.now.items c.put_null.new.out.items c.put_null.result
    (c.is_null.ensures.0 c.if-is_null.true) c.put_null.ensures.yes c.put_null.ensures.no

pub write_part-returns-in_err-write_bytes : goal.write_part-returns-in_err-write_bytes
write_part-returns-in_err-write_bytes t c =
    let p = err_from_is_err_and c.from_residual-in_err-write_bytes.result c.from_residual-in_err-write_bytes.ensures.1 in
    let send : Datum → Option (List ℕ) = kind_send c.args.ty.now.oid c.args.ty.now.kind in
    let v = c.args.value.now in
    rw (p.1, p.2) (laws.sent_handed (send v) (value_or_null_send c.args.nullable send v) c.args.out.now.items c.put.new.out.items c.write_bytes.new.out.items c.in_err-write_bytes.field-0.0
    (first (0 ∷ 0 ∷ 0 ∷ 0 ∷ []) c.in_ok-put.ensures)
    (parts.part_none c.args.nullable send v (λ e. absurd (cc (c.is_null.ensures.1 e, c.if-is_null.false)))) c.in_err-write_bytes.ensures)

pub write_part-returns : goal.write_part-returns
write_part-returns t c =
    let wrote = c.in_ok-write_bytes.ensures in
    parts.part_sent c.args.nullable (kind_send c.args.ty.now.oid c.args.ty.now.kind) c.args.value.now c.args.out.now.items wrote.0 c.put.new.out.items c.write_bytes.new.out.items c.set_len.new.out.items
    c.set_len.result (λ e. absurd (cc (c.is_null.ensures.1 e, c.if-is_null.false))) wrote.1 c.in_ok-put.ensures wrote.2
    (subst (λ (n : ℕ). SetsLen n c.write_bytes.new.out.items c.set_len.new.out.items c.set_len.result) c.len-at.ensures.value c.set_len.ensures)

-- ---- items

pub write_items-returns-in_err-write_part : goal.write_items-returns-in_err-write_part
write_items-returns-in_err-write_part t c =
    let p = err_from_is_err_and c.from_residual.result c.from_residual.ensures.1 in
    let n = c.args.nullable in
    let send : Datum → Option (List ℕ) = kind_send c.args.ty.now.oid c.args.ty.now.kind in
    let vs : List Datum = c.args.items.now in
    let i : ℕ = c.loop-item.item-index in
    let v : Datum = c.item-item.result in
    let before = laws.before_is (items_send n send (drop i vs)) (value_or_null_send n send v ++? items_send n send (drop (i + 1) vs)) (items_send n send vs) c.args.out.now.items c.loop-item.out.items
    (parts.items_at n send vs i v (omega arith) c.item-item.is) c.loop-item.invariant in
    rw (p.1, p.2) (laws.sent_handed (value_or_null_send n send v) (items_send n send vs) c.args.out.now.items c.loop-item.out.items c.write_part.new.out.items c.in_err-write_part.field-0.0
    (laws.before_begins (items_send n send (drop i vs)) (items_send n send vs) c.args.out.now.items c.loop-item.out.items c.loop-item.invariant)
    (laws.before_none (value_or_null_send n send v) (items_send n send (drop (i + 1) vs)) (items_send n send vs) c.args.out.now.items c.loop-item.out.items before) c.in_err-write_part.ensures)

pub write_items-loop-item-init : goal.write_items-loop-item-init
write_items-loop-item-init t c = laws.before_all (items_send c.args.nullable (kind_send c.args.ty.now.oid c.args.ty.now.kind) c.args.items.now) c.args.out.now.items

pub write_items-loop-item-preserved : goal.write_items-loop-item-preserved
write_items-loop-item-preserved t c =
    let n = c.args.nullable in
    let send : Datum → Option (List ℕ) = kind_send c.args.ty.now.oid c.args.ty.now.kind in
    let vs : List Datum = c.args.items.now in
    let i : ℕ = c.loop-item.item-index in
    let v : Datum = c.item-item.result in
    let wrote = c.in_ok-write_part.ensures in
    laws.before_more (value_or_null_send n send v) (items_send n send (drop (i + 1) vs)) (items_send n send vs) c.args.out.now.items c.loop-item.out.items c.write_part.new.out.items wrote.0
    (laws.before_is (items_send n send (drop i vs)) (value_or_null_send n send v ++? items_send n send (drop (i + 1) vs)) (items_send n send vs) c.args.out.now.items c.loop-item.out.items
    (parts.items_at n send vs i v (omega arith) c.item-item.is) c.loop-item.invariant) wrote.1 wrote.2

pub write_items-returns : goal.write_items-returns
write_items-returns t c =
    let n = c.args.nullable in
    let send : Datum → Option (List ℕ) = kind_send c.args.ty.now.oid c.args.ty.now.kind in
    let vs : List Datum = c.args.items.now in
    let i : ℕ = c.loop-item.item-index in
    laws.before_end (items_send n send vs) c.args.out.now.items c.loop-item.out.items
    (laws.before_is (items_send n send (drop i vs)) (Some []) (items_send n send vs) c.args.out.now.items c.loop-item.out.items (parts.items_over n send vs i (omega arith)) c.loop-item.invariant)

-- ---- arrays

pub write_array-returns-in_default : goal.write_array-returns-in_default
write_array-returns-in_default t c =
    let e = c.args.element.now in
    (parts.array_none e.oid (kind_send e.oid e.kind) c.args.value.now c.in_default.ensures, nothing refl)

pub write_array-returns-then-not-may_have : goal.write_array-returns-then-not-may_have
write_array-returns-then-not-may_have t c =
    let e = c.args.element.now in (
      parts.array_unfit e.oid (kind_send e.oid e.kind) c.args.value.now c.in-Some.dims.now c.in-Some.items.now c.in-Some.ensures (λ fit. absurd (cc (c.may_have.ensures.1 fit, c.if-not-may_have.true))),
      nothing refl,
    )

pub write_array-returns-in_err-put_front : goal.write_array-returns-in_err-put_front
write_array-returns-in_err-put_front t c =
    let p = err_from_is_err_and c.from_residual.result c.from_residual.ensures.1 in
    let e = c.args.element.now in
    rw (p.1, p.2) (laws.sent_lacked (array_send e.oid (kind_send e.oid e.kind) c.args.value.now) c.args.out.now.items c.put_front.new.out.items c.in_err-put_front.field-0.0
    c.in_err-put_front.ensures.0 c.in_err-put_front.ensures.1)

pub write_array-returns : goal.write_array-returns
write_array-returns t c =
    let e = c.args.element.now in
    let send : Datum → Option (List ℕ) = kind_send e.oid e.kind in
    let dims : List Dim = c.in-Some.dims.now in
    let items : List Datum = c.in-Some.items.now in
    let flag : ℕ = c.null_flag.result in
    let front : List ℕ = array_front (null_flag items) e.oid dims in
    let head = c.in_ok-put_front.ensures in
    let own : flag ≡ null_flag items = flag_is items flag c.null_flag.ensures.small c.null_flag.ensures.null in
    let stands : c.put_front.new.out.items ≡ c.args.out.now.items ++ front =
    head.behind ∙ ap (λ (l : List ℕ). c.args.out.now.items ++ l) (head.formed ∙ ap (λ (n : ℕ). array_front flag n dims) c.oid.ensures ∙ ap (λ (n : ℕ). array_front n e.oid dims) own) in
    subst (λ (o : Option (List ℕ)). WritesSent o c.args.out.now.items c.write_items.new.out.items c.write_items.result)
    (sym (parts.array_fits e.oid send c.args.value.now dims items c.in-Some.ensures (c.may_have.ensures.0 c.if-not-may_have.false)))
    (laws.sent_behind front (items_send true send items) c.args.out.now.items c.put_front.new.out.items c.write_items.new.out.items c.write_items.result stands c.write_items.ensures)

-- ---- ranges

pub write_range-returns-in_default : goal.write_range-returns-in_default
write_range-returns-in_default t c =
    let e = c.args.element.now in
    (parts.range_none (kind_send e.oid e.kind) c.args.value.now c.in_default.ensures, nothing refl)

pub write_range-returns-in_default-flags_of : goal.write_range-returns-in_default-flags_of
write_range-returns-in_default-flags_of t c =
    let e = c.args.element.now in (
      parts.range_unfit (kind_send e.oid e.kind) c.args.value.now c.in-Some.empty c.in-Some.lower c.in-Some.upper c.in-Some.bounds.now c.in-Some.ensures c.in_default-flags_of.ensures,
      nothing refl,
    )

pub write_range-returns-then-not-are_counted : goal.write_range-returns-then-not-are_counted
write_range-returns-then-not-are_counted t c =
    let e = c.args.element.now in (
      parts.range_uncounted (kind_send e.oid e.kind) c.args.value.now c.in-Some.empty c.in-Some.lower c.in-Some.upper c.in-Some.bounds.now c.in-Some.ensures
          (λ e. absurd (cc (c.are_counted.ensures.1 e, c.if-not-are_counted.true))),
      nothing refl,
    )

pub write_range-returns-in_err-put : goal.write_range-returns-in_err-put
write_range-returns-in_err-put t c =
    let p = err_from_is_err_and c.from_residual.result c.from_residual.ensures.1 in
    let e = c.args.element.now in
    rw (p.1, p.2) (laws.sent_lacked (range_send (kind_send e.oid e.kind) c.args.value.now) c.args.out.now.items c.put.new.out.items c.in_err-put.field-0.0
    c.in_err-put.ensures.0 (nothing c.in_err-put.ensures.1))

pub write_range-returns : goal.write_range-returns
write_range-returns t c =
    let e = c.args.element.now in
    let send : Datum → Option (List ℕ) = kind_send e.oid e.kind in
    let bounds : List Datum = c.in-Some.bounds.now in
    let flags : ℕ = c.in-Some-flags_of.flags in
    let told = c.in-Some-flags_of.ensures in
    subst (λ (o : Option (List ℕ)). WritesSent o c.args.out.now.items c.write_items.new.out.items c.write_items.result)
    (sym (parts.range_fits send c.args.value.now c.in-Some.empty c.in-Some.lower c.in-Some.upper bounds flags c.in-Some.ensures told.1 (sym told.2) (sym told.3) (sym told.4)
    (c.are_counted.ensures.0 c.if-not-are_counted.false)))
    (laws.sent_behind (flags ∷ []) (items_send false send bounds) c.args.out.now.items c.put.new.out.items c.write_items.new.out.items c.write_items.result c.in_ok-put.ensures c.write_items.ensures)

-- ---- composites

pub write_composite-returns-in_default : goal.write_composite-returns-in_default
write_composite-returns-in_default t c =
    let fs : List Field = c.args.fields.now in
    (parts.record_none (count_fields (row_of fs)) (fields_send (row_of fs)) c.args.value.now c.in_default.ensures, nothing refl)

pub write_composite-returns-then-not-are_paired : goal.write_composite-returns-then-not-are_paired
write_composite-returns-then-not-are_paired t c =
    (parts.record_unpaired c.args.fields.now c.args.value.now c.in-Some.values.now c.in-Some.ensures (λ both. absurd (cc (c.are_paired.ensures.1 both, c.if-not-are_paired.true))), nothing refl)

pub write_composite-returns-in_err-put : goal.write_composite-returns-in_err-put
write_composite-returns-in_err-put t c =
    let p = err_from_is_err_and c.from_residual.result c.from_residual.ensures.1 in
    let fs : List Field = c.args.fields.now in
    rw (p.1, p.2) (laws.sent_lacked (record_send (count_fields (row_of fs)) (fields_send (row_of fs)) c.args.value.now)
    c.args.out.now.items c.put.new.out.items c.in_err-put.field-0.0 c.in_err-put.ensures.0 (nothing c.in_err-put.ensures.1))

pub write_composite-returns : goal.write_composite-returns
write_composite-returns t c =
    let fs : List Field = c.args.fields.now in
    let values : List Datum = c.in-Some.values.now in
    let n : ℕ = count_fields (row_of fs) in
    let both = c.are_paired.ensures.0 c.if-not-are_paired.false in
    let count : n ≡ length fs = count_is fs in
    let stands : c.put.new.out.items ≡ c.args.out.now.items ++ to_be_bytes w32 n =
    c.in_ok-put.ensures ∙ ap (λ (l : List ℕ). c.args.out.now.items ++ l) (c.to_be_bytes.ensures ∙ ap (λ (m : ℕ). to_be_bytes w32 m) (sym count)) in
    subst (λ (o : Option (List ℕ)). WritesSent o c.args.out.now.items c.write_fields.new.out.items c.write_fields.result)
    (sym (parts.record_fits n (fields_send (row_of fs)) c.args.value.now values c.in-Some.ensures (omega (arith, count, both.1))))
    (laws.sent_behind (to_be_bytes w32 n) (fields_send (row_of fs) values) c.args.out.now.items c.put.new.out.items c.write_fields.new.out.items c.write_fields.result stands c.write_fields.ensures)

-- ---- fields

pub write_fields-returns-in_err-put : goal.write_fields-returns-in_err-put
write_fields-returns-in_err-put t c =
    let p = err_from_is_err_and c.from_residual.result c.from_residual.ensures.1 in
    let fs : List Field = c.args.fields.now in
    let vs : List Datum = c.args.values.now in
    let i : ℕ = c.loop-field.field-index in
    rw (p.1, p.2) (laws.sent_lacked (fields_send (row_of fs) vs) c.args.out.now.items c.put.new.out.items c.in_err-put.field-0.0 c.in_err-put.ensures.0
    (begun (laws.before_begins (fields_send (row_of (drop i fs)) (drop i vs)) (fields_send (row_of fs) vs) c.args.out.now.items c.loop-field.out.items c.loop-field.invariant.before)
    (nothing c.in_err-put.ensures.1)))

pub write_fields-returns-in_err-write_part : goal.write_fields-returns-in_err-write_part
write_fields-returns-in_err-write_part t c =
    let p = err_from_is_err_and c.from_residual-in_err-write_part.result c.from_residual-in_err-write_part.ensures.1 in
    let fs : List Field = c.args.fields.now in
    let vs : List Datum = c.args.values.now in
    let i : ℕ = c.loop-field.field-index in
    let f : Field = c.field-item.result in
    let v : Datum = c.value_at.result.now in
    let part : Option (List ℕ) = value_or_null_send true (kind_send f.type_.oid f.type_.kind) v in
    let rest : Option (List ℕ) = fields_send (row_of (drop (i + 1) fs)) (drop (i + 1) vs) in
    let here : Option (List ℕ) = fields_send (row_of (drop i fs)) (drop i vs) in
    let number : List ℕ = to_be_bytes w32 f.type_.oid in
    let has : v ≡ get_or vs i v = subst (λ (n : ℕ). v ≡ get_or vs n v) c.loop-field.invariant.place_is c.value_at.ensures in
    let wrote = subst (λ (ty : PgType). WritesSent {A = Unit {0}} (value_or_null_send true (kind_send ty.oid ty.kind) v) c.put.new.out.items c.write_part.new.out.items (Err c.in_err-write_part.field-0.0))
    c.type_-in-loop-field.ensures c.in_err-write_part.ensures in
    let before = laws.before_is here ((Some number ++? part) ++? rest) (fields_send (row_of fs) vs) c.args.out.now.items c.loop-field.out.items
    (parts.fields_at fs vs i f v (omega arith) (omega (arith, c.requires)) c.field-item.is has) c.loop-field.invariant.before in
    rw (p.1, p.2) (laws.sent_handed part (fields_send (row_of fs) vs) c.args.out.now.items c.put.new.out.items c.write_part.new.out.items c.in_err-write_part.field-0.0
    (begun (laws.before_begins here (fields_send (row_of fs) vs) c.args.out.now.items c.loop-field.out.items c.loop-field.invariant.before) (first c.to_be_bytes.result c.in_ok-put.ensures))
    (λ none. laws.before_none (Some number ++? part) rest (fields_send (row_of fs) vs) c.args.out.now.items c.loop-field.out.items before (ap (λ (o : Option (List ℕ)). Some number ++? o) none)) wrote)

pub write_fields-loop-field-init : goal.write_fields-loop-field-init
write_fields-loop-field-init t c = record {
  place_is = refl;
  before = laws.before_all (fields_send (row_of c.args.fields.now) c.args.values.now) c.args.out.now.items;
}

pub write_fields-loop-field-preserved : goal.write_fields-loop-field-preserved
write_fields-loop-field-preserved t c =
    let fs : List Field = c.args.fields.now in
    let vs : List Datum = c.args.values.now in
    let i : ℕ = c.loop-field.field-index in
    let f : Field = c.field-item.result in
    let v : Datum = c.value_at.result.now in
    let part : Option (List ℕ) = value_or_null_send true (kind_send f.type_.oid f.type_.kind) v in
    let rest : Option (List ℕ) = fields_send (row_of (drop (i + 1) fs)) (drop (i + 1) vs) in
    let here : Option (List ℕ) = fields_send (row_of (drop i fs)) (drop i vs) in
    let number : List ℕ = to_be_bytes w32 f.type_.oid in
    let has : v ≡ get_or vs i v = subst (λ (n : ℕ). v ≡ get_or vs n v) c.loop-field.invariant.place_is c.value_at.ensures in
    let oid : c.oid.result ≡ f.type_.oid = c.oid.ensures ∙ ap (λ (ty : PgType). ty.oid) c.type_.ensures in
    let wrote = subst (λ (ty : PgType). WritesSent {A = Unit {0}} (value_or_null_send true (kind_send ty.oid ty.kind) v) c.put.new.out.items c.write_part.new.out.items (Ok c.in_ok-write_part.field-0))
    c.type_-in-loop-field.ensures c.in_ok-write_part.ensures in
    let stands : c.put.new.out.items ≡ c.loop-field.out.items ++ number =
    c.in_ok-put.ensures ∙ ap (λ (l : List ℕ). c.loop-field.out.items ++ l) (c.to_be_bytes.ensures ∙ ap (λ (n : ℕ). to_be_bytes w32 n) oid) in
    let told : Result (Unit {0}) ValueFault = Ok c.in_ok-write_part.field-0 in
    let both = laws.sent_behind number part c.loop-field.out.items c.put.new.out.items c.write_part.new.out.items told stands wrote in
    let before = laws.before_is here ((Some number ++? part) ++? rest) (fields_send (row_of fs) vs) c.args.out.now.items c.loop-field.out.items
    (parts.fields_at fs vs i f v (omega arith) (omega (arith, c.requires)) c.field-item.is has) c.loop-field.invariant.before in
    record {
      place_is = ap (λ (n : ℕ). n + 1) c.loop-field.invariant.place_is;
      before = laws.before_more (Some number ++? part) rest (fields_send (row_of fs) vs) c.args.out.now.items c.loop-field.out.items c.write_part.new.out.items both.0 before both.1 both.2;
    }

pub write_fields-returns : goal.write_fields-returns
write_fields-returns t c =
    let fs : List Field = c.args.fields.now in
    let vs : List Datum = c.args.values.now in
    let i : ℕ = c.loop-field.field-index in
    let here : Option (List ℕ) = fields_send (row_of (drop i fs)) (drop i vs) in
    laws.before_end (fields_send (row_of fs) vs) c.args.out.now.items c.loop-field.out.items
    (laws.before_is here (Some []) (fields_send (row_of fs) vs) c.args.out.now.items c.loop-field.out.items (parts.fields_over fs vs i (omega arith) (omega (arith, c.requires))) c.loop-field.invariant.before)
