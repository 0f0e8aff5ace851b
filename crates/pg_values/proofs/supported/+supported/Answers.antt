use Rattle.std.proofs.Common.{◌≡◌, ap, sym, ◌∙◌, ℕ, List, ◌∷◌, ◌+◌, ◌<◌, drop, get_or, length, Bool, true, false, ◌&&◌, arith}
use Rattle.std.proofs.lemmas.List.{drop_more, drop_all}
use Rattle.pg_types.specs.declared.pg_type.Field.{Field}
use Rattle.pg_types.proofs.KindLaws.{row_of}
use Rattle.pg_values.specs.Supported.{is_supported, is_supported_kind, are_supported}
use Rattle.pg_values.proofs.KindCases.{array_supported, range_supported, domain_supported, composite_supported}
use Rattle.pg_values.proofs.supported.+supported.Goals as goal

pub is_supported-returns-in-Array : goal.is_supported-returns-in-Array
is_supported-returns-in-Array t c =
    c.is_supported.ensures ∙ sym (array_supported c.args.ty.now.oid c.in-Array.element)
    ∙ ap (is_supported_kind c.args.ty.now.oid) (sym c.in-Array.is ∙ c.kind.ensures)

pub is_supported-returns-in-Range : goal.is_supported-returns-in-Range
is_supported-returns-in-Range t c =
    c.is_supported-in-Range.ensures ∙ sym (range_supported c.args.ty.now.oid c.in-Range.element)
    ∙ ap (is_supported_kind c.args.ty.now.oid) (sym c.in-Range.is ∙ c.kind.ensures)

pub is_supported-returns-in-Domain : goal.is_supported-returns-in-Domain
is_supported-returns-in-Domain t c =
    c.is_supported-in-Domain.ensures ∙ sym (domain_supported c.args.ty.now.oid c.in-Domain.base)
    ∙ ap (is_supported_kind c.args.ty.now.oid) (sym c.in-Domain.is ∙ c.kind.ensures)

pub is_supported-returns-in-Composite : goal.is_supported-returns-in-Composite
is_supported-returns-in-Composite t c =
    c.are_supported.ensures ∙ ap (λ (fs : List Field). are_supported (row_of fs)) c.as_slice.ensures
    ∙ sym (composite_supported c.args.ty.now.oid c.in-Composite.fields)
    ∙ ap (is_supported_kind c.args.ty.now.oid) (sym c.in-Composite.is ∙ c.kind.ensures)

-- the types from a place on are supported where the type there is, and those behind it
at_field : (fs : List Field) (i : ℕ) (f : Field) → i < length fs → f ≡ get_or fs i f
    → are_supported (row_of (drop i fs)) ≡ (is_supported f.type_ && are_supported (row_of (drop (i + 1) fs)))
at_field fs i f less is = ap (λ (l : List Field). are_supported (row_of l)) (drop_more fs i f less ∙ ap (λ (y : Field). y ∷ drop (i + 1) fs) (sym is))

at_end : (fs : List Field) (i : ℕ) → length fs ≡ i → are_supported (row_of (drop i fs)) ≡ true
at_end fs i e = ap (λ (l : List Field). are_supported (row_of l)) (drop_all i fs (omega (arith, e)))

first_false : (a b x y : Bool) → x ≡ y → x ≡ (a && b) → a ≡ false → false ≡ y
first_false a b x y same both isnt = sym (ap (λ (z : Bool). z && b) isnt) ∙ sym both ∙ same

first_true : (a b x y : Bool) → x ≡ y → x ≡ (a && b) → a ≡ true → b ≡ y
first_true a b x y same both is = sym (ap (λ (z : Bool). z && b) is) ∙ sym both ∙ same

pub are_supported-returns-then-not-is_supported : goal.are_supported-returns-then-not-is_supported
are_supported-returns-then-not-is_supported t c =
    let f = c.field-item.result in
    first_false (is_supported f.type_) (are_supported (row_of (drop (c.loop-field.field-index + 1) c.args.fields.now))) _ _ c.loop-field.invariant
    (at_field c.args.fields.now c.loop-field.field-index f (omega arith) c.field-item.is)
    (ap is_supported (sym c.type_.ensures) ∙ sym c.is_supported.ensures ∙ c.if-not-is_supported.true)

pub are_supported-loop-field-preserved : goal.are_supported-loop-field-preserved
are_supported-loop-field-preserved t c =
    let f = c.field-item.result in
    first_true (is_supported f.type_) (are_supported (row_of (drop (c.loop-field.field-index + 1) c.args.fields.now))) _ _ c.loop-field.invariant
    (at_field c.args.fields.now c.loop-field.field-index f (omega arith) c.field-item.is)
    (ap is_supported (sym c.type_.ensures) ∙ sym c.is_supported.ensures ∙ c.if-not-is_supported.false)

pub are_supported-returns : goal.are_supported-returns
are_supported-returns t c = sym (at_end c.args.fields.now c.loop-field.field-index (omega arith)) ∙ c.loop-field.invariant
