-- A search as a stack: what a type that was found, and a type that waits for another, do to the whole.
use Rattle.std.proofs.Common.{◌≡◌, ℕ, List, [], ◌∷◌, ◌++◌, Result, Ok, refl, ap}
use Rattle.pg_types.specs.declared.pg_type.PgType.{PgType}
use Rattle.pg_types.specs.declared.pg_type.Kind.{Composite}
use Rattle.pg_types.specs.declared.pg_type.Field.{Field}
use Rattle.pg_types.specs.declared.error.Error.{Error}
use Rattle.pg_desk.specs.declared.column.Column.{Column}
use Rattle.pg_query.specs.Dialogue.{Answer}
use Rattle.pg_core.specs.Sequences.{or_answer, then_do}
use Rattle.pg_core.specs.Cells.{Cells}
use Rattle.pg_core.specs.Lookups.{TypeRow, Wrap, wraps, keeps, fields_by, FieldRow, field_row, made_by, Of}
use Rattle.pg_core.specs.Searches.{Frame, Wrapped, Part, find_above, unwind, searching}

-- a type that was found is handed to the frame below
pub wrapped : (fs : List Frame) (oid : ℕ) (row : TypeRow) (wrap : Wrap) (ty : PgType) →
    unwind (Wrapped oid row wrap ∷ fs) (Answer (Ok ty)) ≡ unwind fs (keeps oid row (wraps wrap ty))
wrapped fs oid row wrap ty = refl

-- the last field of a composite
pub last-field : (fs : List Frame) (oid : ℕ) (row : TypeRow) (columns : List Column) (name : List ℕ) (found : List Field) (ty : PgType) →
    unwind (Part oid row columns name [] found ∷ fs) (Answer (Ok ty)) ≡ unwind fs (keeps oid row (Composite (found ++ record { name = name; type_ = ty } ∷ [])))
last-field fs oid row columns name found ty = refl

-- another field
pub next-field : (fs : List Frame) (oid : ℕ) (row : TypeRow) (columns : List Column) (name : List ℕ) (cells : Cells) (left : List Cells) (found : List Field) (ty : PgType) (f : FieldRow) →
    field_row columns cells ≡ Ok f →
    unwind (Part oid row columns name (cells ∷ left) found ∷ fs) (Answer (Ok ty))
    ≡ unwind (Part oid row columns f.name left (found ++ record { name = name; type_ = ty } ∷ []) ∷ fs) (find_above (Part oid row columns f.name left (found ++ record { name = name; type_ = ty } ∷ []) ∷ fs) f.type_oid)
next-field fs oid row columns name cells left found ty f e =
    ap (λ (r : Result FieldRow Error). unwind fs (or_answer (λ (g : FieldRow). then_do (find_above (Part oid row columns name (cells ∷ left) found ∷ fs) g.type_oid)
    (λ ty'. fields_by (find_above (Part oid row columns name (cells ∷ left) found ∷ fs)) columns left ((found ++ record { name = name; type_ = ty } ∷ []) ++ record { name = g.name; type_ = ty' } ∷ []) (λ fields. keeps oid row (Composite fields)))) r)) e

-- the next oid, below all frames
pub next-oid : (oid : ℕ) (left : List ℕ) (found : List PgType) (ty : PgType) →
    searching (oid ∷ left) found [] (Answer (Ok ty)) ≡ searching left (found ++ ty ∷ []) [] (find_above [] oid)
next-oid oid left found ty = refl

-- a type that is made of another
pub waits : (fs : List Frame) (oid : ℕ) (row : TypeRow) (wrap : Wrap) (inner : ℕ) →
    unwind fs (made_by (find_above (Wrapped oid row wrap ∷ fs)) oid row (Of wrap inner)) ≡ unwind (Wrapped oid row wrap ∷ fs) (find_above (Wrapped oid row wrap ∷ fs) inner)
waits fs oid row wrap inner = refl
