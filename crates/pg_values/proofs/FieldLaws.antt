-- The fields of a composite, written.
use Rattle.std.proofs.Common.{◌≡◌, ℕ, suc, ◌<◌, ◌≤◌, ◌+◌, ◌^◌, Bool, true, false, List, [], ◌∷◌, ◌++◌, length, drop, get_or, ap, refl, sym, ◌∙◌, subst, arith, append_assoc, w32}
use Rattle.std.specs.Int.{to_be_bytes}
use Rattle.std.proofs.lemmas.List.{drop_all}
use Rattle.pg_types.specs.declared.pg_type.Field.{Field}
use Rattle.pg_types.proofs.KindLaws.{row_of}
use Rattle.pg_values.specs.declared.datum.Datum.{Datum}
use Rattle.pg_values.specs.Parts.{IsNext}
use Rattle.pg_values.specs.Spelling.{SpellsKind, SpellFields, IsComposite, count_fields}
use Rattle.pg_values.specs.declared.datum.Datum as d
use Rattle.pg_values.specs.Writing.{HasNone}
use Rattle.pg_values.proofs.WriteLaws.{Leaves, at_item, next_behind, bytes_behind, no_next, rest_bytes, moved}
use Rattle.pg_values.proofs.Insides.{same_values}
use Rattle.pg_values.proofs.ItemLaws.{at_field, count_is}

-- what the values from a place on are under the fields from there on
abbrev pub FieldsFrom : (plain : Bool) → List Field → List Datum → ℕ → List ℕ → Type 0
FieldsFrom plain fs vs i bytes = SpellFields plain (row_of (drop i fs)) (drop i vs) bytes

-- from a place on there are a field and a value, and others
from : (plain : Bool) (fs : List Field) (vs : List Datum) (i : ℕ) (f : Field) (v : Datum) (bytes : List ℕ) → i < length fs → i < length vs → f ≡ get_or fs i f → v ≡ get_or vs i v
    → FieldsFrom plain fs vs i bytes ≡ SpellFields plain (row_of (f ∷ drop (i + 1) fs)) (v ∷ drop (i + 1) vs) bytes
from plain fs vs i f v bytes less also is has =
    ap (λ (l : List Field). SpellFields plain (row_of l) (drop i vs) bytes) (at_field fs i f less is)
    ∙ ap (λ (l : List Datum). SpellFields plain (row_of (f ∷ drop (i + 1) fs)) l bytes) (at_item vs i v also has)

pub field_step : (plain : Bool) (fs : List Field) (vs : List Datum) (i : ℕ) (f : Field) (v : Datum) (bytes : List ℕ) → i < length fs → i < length vs → f ≡ get_or fs i f
    → v ≡ get_or vs i v → IsNext true (SpellsKind plain f.type_.oid f.type_.kind) v bytes []
    → (rest : List ℕ) → FieldsFrom plain fs vs (i + 1) rest → FieldsFrom plain fs vs i (to_be_bytes w32 f.type_.oid ++ bytes ++ rest)
field_step plain fs vs i f v bytes less also is has next rest are =
    let here : SpellFields plain (row_of (f ∷ drop (i + 1) fs)) (v ∷ drop (i + 1) vs) (to_be_bytes w32 f.type_.oid ++ bytes ++ rest) = (
      bytes ++ rest,
      rest,
      append_assoc (to_be_bytes w32 f.type_.oid) bytes rest,
      next_behind true (SpellsKind plain f.type_.oid f.type_.kind) v bytes rest next,
      are,
    ) in
    subst (λ (T : Type 0). T) (sym (from plain fs vs i f v (to_be_bytes w32 f.type_.oid ++ bytes ++ rest) less also is has)) here

pub field_left : (plain : Bool) (fs : List Field) (vs : List Datum) (i : ℕ) (f : Field) (v : Datum) → i < length fs → i < length vs → f ≡ get_or fs i f → v ≡ get_or vs i v
    → Leaves (FieldsFrom plain fs vs (i + 1)) (FieldsFrom plain fs vs i)
field_left plain fs vs i f v less also is has bytes are spelled =
    let here : SpellFields plain (row_of (f ∷ drop (i + 1) fs)) (v ∷ drop (i + 1) vs) bytes = subst (λ (T : Type 0). T) (from plain fs vs i f v bytes less also is has) spelled in
    (here.1, bytes_behind true (SpellsKind plain f.type_.oid f.type_.kind) v here.0 here.1 (rest_bytes (to_be_bytes w32 f.type_.oid) here.0 (moved here.2 are)) here.3, here.4)

pub field_none : (plain : Bool) (fs : List Field) (vs : List Datum) (i : ℕ) (f : Field) (v : Datum) → i < length fs → i < length vs → f ≡ get_or fs i f → v ≡ get_or vs i v
    → HasNone (λ b. IsNext true (SpellsKind plain f.type_.oid f.type_.kind) v b []) → HasNone (FieldsFrom plain fs vs i)
field_none plain fs vs i f v less also is has none bytes are spelled =
    let here : SpellFields plain (row_of (f ∷ drop (i + 1) fs)) (v ∷ drop (i + 1) vs) bytes = subst (λ (T : Type 0). T) (from plain fs vs i f v bytes less also is has) spelled in
    no_next true (SpellsKind plain f.type_.oid f.type_.kind) v here.0 here.1 none (rest_bytes (to_be_bytes w32 f.type_.oid) here.0 (moved here.2 are)) here.3

pub fields_over : (plain : Bool) (fs : List Field) (vs : List Datum) (i : ℕ) → length fs ≤ i → length vs ≤ i → FieldsFrom plain fs vs i []
fields_over plain fs vs i less also =
    subst (λ (l : List Field). SpellFields plain (row_of l) (drop i vs) []) (sym (drop_all i fs less))
    (subst (λ (l : List Datum). SpellFields plain (row_of []) l []) (sym (drop_all i vs also)) refl)

-- a composite has a value for each field
as_many : (plain : Bool) (fs : List Field) (vs : List Datum) (bytes : List ℕ) → SpellFields plain (row_of fs) vs bytes → length vs ≡ length fs
as_many plain [] [] bytes are = refl
as_many plain [] (v ∷ vs) bytes are = absurd are
as_many plain (f ∷ fs) [] bytes are = absurd are
as_many plain (f ∷ fs) (v ∷ vs) bytes are = ap suc (as_many plain fs vs are.1 are.4)

pub unpaired : (fs : List Field) (values : List Datum) → ((length values ≡ length fs) × (length fs < 2 ^ 31) → ⊥)
    → HasNone (IsComposite (count_fields (row_of fs)) (SpellFields false (row_of fs)) (d.Composite values))
unpaired fs values unfit bytes are is =
    let same : d.Composite values ≡ d.Composite is.fields = is.same in
    let values_are : values ≡ is.fields = same_values values is.fields same in
    let few : count_fields (row_of fs) < 2 ^ 31 = is.few in
    unfit (ap (λ (vs : List Datum). length vs) values_are ∙ as_many false fs is.fields is.rest is.fields_are, omega (arith, few, count_is fs))
