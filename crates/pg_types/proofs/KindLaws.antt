-- A kind that holds a type, as the tree that a definition by cases sees. Only this crate can unfold it.
use Rattle.std.proofs.Common.{◌≡◌, refl, ap, List, [], ◌∷◌}
use Rattle.pg_types.specs.declared.pg_type.Field.{Field}
use Rattle.pg_types.specs.declared.pg_type.Kind.TheBlock.{shape-the_row-Field-1, hidden-the_row-Field-1}
use mathlib.Core.Former.{arity, this}
use Rattle.pg_types.specs.formers.list.List.{the_former}
use denote.Hole.Carrier.{hidden}
use Rattle.pg_types.specs.declared.pg_type.PgType.{PgType}
use Rattle.pg_types.specs.declared.pg_type.Kind as k

-- an array, a range, a domain of a type
pub array_is : (e : PgType) → k.Array e ≡ k.Array' e.name e.oid tt (k.more_of-Kind e.kind k.end_of-Kind) e.schema
unfolding Rattle.pg_types.specs.declared.pg_type.Kind.TheBlock.shape-the_row-Kind-0 Rattle.pg_types.specs.declared.pg_type.Kind.TheBlock.hidden-the_row-Kind-0 hidden
array_is e = refl

pub range_is : (e : PgType) → k.Range e ≡ k.Range' e.name e.oid tt (k.more_of-Kind e.kind k.end_of-Kind) e.schema
unfolding Rattle.pg_types.specs.declared.pg_type.Kind.TheBlock.shape-the_row-Kind-0 Rattle.pg_types.specs.declared.pg_type.Kind.TheBlock.hidden-the_row-Kind-0 hidden
range_is e = refl

pub domain_is : (e : PgType) → k.Domain e ≡ k.Domain' e.name e.oid tt (k.more_of-Kind e.kind k.end_of-Kind) e.schema
unfolding Rattle.pg_types.specs.declared.pg_type.Kind.TheBlock.shape-the_row-Kind-0 Rattle.pg_types.specs.declared.pg_type.Kind.TheBlock.hidden-the_row-Kind-0 hidden
domain_is e = refl

-- the fields of a composite, as the row that a definition by cases sees
abbrev pub shape_of : List Field → List (Unit {0})
shape_of [] = []
shape_of (f ∷ fs) = tt ∷ shape_of fs

abbrev pub row_of : (fs : List Field) → k.Row_of-Field (arity (the_former (this {0})) (shape_of fs))
row_of [] = k.end_of-Field
row_of (f ∷ fs) = k.more_of-Field f.name f.type_.name f.type_.oid tt (k.more_of-Kind f.type_.kind k.end_of-Kind) f.type_.schema (row_of fs)

-- a shape, and a row of that shape
abbrev Rows : Type 0
Rows = (shape : List (Unit {0})) × k.Row_of-Field (arity (the_former (this {0})) shape)

abbrev longer : Field → Rows → Rows
longer f rows = (tt ∷ rows.0, k.more_of-Field f.name f.type_.name f.type_.oid tt (k.more_of-Kind f.type_.kind k.end_of-Kind) f.type_.schema rows.1)

abbrev composed : Rows → k.Kind
composed rows = k.Composite' rows.0 rows.1

rows_are : (fs : List Field) → let r : Rows = (shape-the_row-Field-1 fs, hidden-the_row-Field-1 fs) in let s : Rows = (shape_of fs, row_of fs) in r ≡ s
unfolding Rattle.pg_types.specs.declared.pg_type.Kind.TheBlock.shape-the_row-Kind-0 Rattle.pg_types.specs.declared.pg_type.Kind.TheBlock.hidden-the_row-Kind-0 Rattle.pg_types.specs.declared.pg_type.Kind.TheBlock.shape-the_row-Field-1 Rattle.pg_types.specs.declared.pg_type.Kind.TheBlock.hidden-the_row-Field-1 hidden
rows_are [] = refl
rows_are (f ∷ fs) = ap (longer f) (rows_are fs)

-- a composite of fields
pub composite_is : (fs : List Field) → k.Composite fs ≡ k.Composite' (shape_of fs) (row_of fs)
unfolding Rattle.pg_types.specs.declared.pg_type.Kind.TheBlock.shape-the_row-Kind-0 Rattle.pg_types.specs.declared.pg_type.Kind.TheBlock.hidden-the_row-Kind-0 Rattle.pg_types.specs.declared.pg_type.Kind.TheBlock.shape-the_row-Field-1 Rattle.pg_types.specs.declared.pg_type.Kind.TheBlock.hidden-the_row-Field-1 hidden
composite_is fs = ap composed (rows_are fs)
