-- A search for types as a stack of what waits: where it stands.
use Rattle.std.specs.Prelude.{ℕ, ◌-◌, List, [], ◌∷◌, ◌++◌, length}
use Rattle.pg_types.specs.declared.pg_type.PgType.{PgType}
use Rattle.pg_types.specs.declared.pg_type.Kind.{Composite}
use Rattle.pg_types.specs.declared.pg_type.Field.{Field}
use Rattle.pg_desk.specs.declared.column.Column.{Column}
use Rattle.pg_query.specs.Dialogue.{Dialogue}
use Rattle.pg_core.specs.Sequences.{then_do}
use Rattle.pg_core.specs.Cells.{Cells}
use Rattle.pg_core.specs.Lookups.{TypeRow, Wrap, wraps, keeps, find, fields_by, find_each}

-- what waits for the type of another oid
pub data Frame : Type 0 where
  -- a type that is made of it
  Wrapped : (oid : ℕ) → TypeRow → Wrap → Frame
  -- a composite, whose field of this name it is: the rows that are left, and the fields found so far
  Part : (oid : ℕ) → TypeRow → List Column → (name : List ℕ) → (left : List Cells) → (found : List Field) → Frame

-- the oid in progress there
abbrev pub oid_of : Frame → ℕ
oid_of (Wrapped oid row wrap) = oid
oid_of (Part oid row columns name left found) = oid

-- the oids in progress, the last one first
abbrev pub busy_of : List Frame → List ℕ
busy_of [] = []
busy_of (f ∷ fs) = oid_of f ∷ busy_of fs

-- how a type is found above these
abbrev pub find_above : List Frame → ℕ → Dialogue PgType
find_above fs = find (64 - length fs) (busy_of fs)

-- what is done with the type that a frame waited for
abbrev pub resumes : (ℕ → Dialogue PgType) → Frame → PgType → Dialogue PgType
resumes search (Wrapped oid row wrap) ty = keeps oid row (wraps wrap ty)
resumes search (Part oid row columns name left found) ty =
    fields_by search columns left (found ++ record { name = name; type_ = ty } ∷ []) (λ fields. keeps oid row (Composite fields))

-- the whole of a search that stands at a dialogue, with these frames below
abbrev pub unwind : List Frame → Dialogue PgType → Dialogue PgType
unwind [] d = d
unwind (f ∷ fs) d = unwind fs (then_do d (resumes (find_above (f ∷ fs)) f))

-- and with the oids that are left below them all
abbrev pub searching : (left : List ℕ) → (found : List PgType) → List Frame → Dialogue PgType → Dialogue (List PgType)
searching left found fs d = then_do (unwind fs d) (λ ty. find_each (find 64 []) left (found ++ ty ∷ []))
