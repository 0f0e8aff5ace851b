-- How the type of an oid was found.
use Rattle.std.proofs.Common.{◌≡◌, ◌⊎◌, inl, inr, ℕ, zero, suc, List, [], ◌∷◌, ◌++◌, Bool, true, false, not, Option, Some, None, Result, Ok, Err, refl, sym, subst, ◌∙◌, append-nil, append_assoc}
use Rattle.pg_spec.specs.Courses.{Met}
use Rattle.pg_spec.specs.Faults.{UnexpectedMessage}
use Rattle.pg_types.specs.BuiltIns.{built_in_type}
use Rattle.pg_types.specs.declared.error.Error.{Error}
use Rattle.pg_types.specs.declared.pg_type.Field.{Field}
use Rattle.pg_types.specs.declared.pg_type.Kind.{Kind, Enum as EnumKind, Composite as CompositeKind}
use Rattle.pg_types.specs.declared.pg_type.PgType.{PgType}
use Rattle.pg_desk.specs.declared.column.Column.{Column}
use Rattle.pg_query.specs.Dialogue.{Dialogue, Answer}
use Rattle.pg_query.specs.declared.desk_call.DeskCall.{DeskCall}
use Rattle.pg_query.specs.declared.desk_call.DeskCall.TheVariants.{SetType, TypeOf}
use Rattle.pg_query.specs.declared.desk_call.Reply.{Reply}
use Rattle.pg_query.specs.declared.desk_call.Reply.TheVariants as reply
use Rattle.pg_core.specs.Cells.{Cells}
use Rattle.pg_core.specs.Lookups as lookup
use Rattle.pg_core.specs.Lookups.{FieldRow, Sort, TypeRow, field_row, field_rows, fields_by, find, find_all, find_each, is_among, keeps, kept_told, labels_of, made_by, row_of, sort_of, unless_known, wraps}
use Rattle.pg_core.specs.Prepares.{known_or, type_told}
use Rattle.pg_core.specs.Sequences.{or_answer, then_do}
use Rattle.pg_query_laws.specs.Kept.{AreFound, Finds, LastFinds, OneFinds, comes_of, told_in}
use Rattle.pg_query_laws.proofs.Meeting.{Asks, Ends, ends-after, ends-so, ends-still, ends-then}

-- ---- a type

-- it is built-in, or the last question found it
abbrev IsFound : ℕ → Asks → PgType → Type 0
IsFound oid asks ty = (built_in_type oid ≡ Some ty) ⊎ LastFinds oid ty asks

last-finds : (oid : ℕ) (ty : PgType) (former : Asks) (a : DeskCall × Reply) → Finds oid ty a.0 a.1 → LastFinds oid ty (former ++ a ∷ [])
last-finds oid ty [] a h = h
last-finds oid ty (b ∷ []) a h = h
last-finds oid ty (b ∷ c ∷ former) a h = last-finds oid ty (c ∷ former) a h

-- the type that was to be kept, and was handed back
kept-told : (oid : ℕ) (kept : PgType) → kept.oid ≡ oid → (former : Asks) (r : Reply) → Ends (IsFound oid) (former ++ (SetType oid kept, r) ∷ []) (kept_told r)
kept-told oid kept own former (reply.Type (Some ty)) = inr (last-finds oid ty former (SetType oid kept, reply.Type (Some ty)) (refl, own, refl))
kept-told oid kept own former (reply.Type None) = tt
kept-told oid kept own former other = tt

keeping : (oid : ℕ) (row : TypeRow) (kind : Kind) (former : Asks) → Ends (IsFound oid) former (keeps oid row kind)
keeping oid row kind former = kept-told oid (record { name = row.name; oid = oid; kind = kind; schema = row.schema }) refl former

-- whatever is found of the fields' types
with-fields : (oid : ℕ) (search : ℕ → Dialogue PgType) (columns : List Column) (rows : List Cells) (found : List Field) (done : List Field → Dialogue PgType) → ((fields : List Field) (former : Asks) → Ends (IsFound oid) former (done fields)) →
    (former : Asks) → Ends (IsFound oid) former (fields_by search columns rows found done)
with-fields oid search columns [] found done last former = last found former
with-fields oid search columns (cells ∷ rows) found done last former = by (λ f asks ty. with-fields oid search columns rows (found ++ record { name = f.name; type_ = ty } ∷ []) done last asks) (field_row columns cells)
  where
    rest : FieldRow → PgType → Dialogue PgType
    rest f ty = fields_by search columns rows (found ++ record { name = f.name; type_ = ty } ∷ []) done

    each : FieldRow → Dialogue PgType
    each f = then_do (search f.type_oid) (rest f)

    by : ((f : FieldRow) (asks : Asks) (ty : PgType) → Ends (IsFound oid) asks (rest f ty)) → (r : Result FieldRow Error) → Ends (IsFound oid) former (or_answer each r)
    by again (Ok f) = ends-after (IsFound oid) (rest f) (again f) former (search f.type_oid)
    by again (Err e) = tt

making : (search : ℕ → Dialogue PgType) (oid : ℕ) (row : TypeRow) (sort : Sort) (former : Asks) → Ends (IsFound oid) former (made_by search oid row sort)
making search oid row (lookup.Is kind) former = keeping oid row kind former
making search oid row lookup.Labels former = ends-after (IsFound oid) (λ labels. keeps oid row (EnumKind labels)) (λ asks labels. keeping oid row (EnumKind labels) asks) former (labels_of oid)
making search oid row (lookup.Of wrap inner) former = ends-after (IsFound oid) (λ ty. keeps oid row (wraps wrap ty)) (λ asks ty. keeping oid row (wraps wrap ty) asks) former (search inner)
making search oid row (lookup.Fields relation) former = ends-after (IsFound oid) (λ f. fields_by search f.columns f.rows [] (λ fields. keeps oid row (CompositeKind fields)))
    (λ asks f. with-fields oid search f.columns f.rows [] (λ fields. keeps oid row (CompositeKind fields)) (λ fields. keeping oid row (CompositeKind fields)) asks) former (field_rows relation)

-- a type that is known, or one that is searched for
module _ (oid : ℕ) (may : Bool) (search : Dialogue PgType) (h : (former : Asks) → Ends (IsFound oid) former search) where
  unknown : (b : Bool) (former : Asks) → Ends (IsFound oid) former (unless_known b search None)
  unknown true former = h former
  unknown false former = tt

  told : (former : Asks) (r : Reply) → Ends (IsFound oid) (former ++ (TypeOf oid, r) ∷ []) (type_told (unless_known may search) r)
  told former (reply.Type (Some ty)) = inr (last-finds oid ty former (TypeOf oid, reply.Type (Some ty)) (refl, refl))
  told former (reply.Type None) = unknown may (former ++ (TypeOf oid, reply.Type None) ∷ [])
  told former other = tt

  by-oid : (o : Option PgType) → built_in_type oid ≡ o → (former : Asks) → Ends (IsFound oid) former (known_or oid o (unless_known may search))
  by-oid (Some ty) e former = inl e
  by-oid None e former = told former

  searching : (former : Asks) → Ends (IsFound oid) former (known_or oid (built_in_type oid) (unless_known may search))
  searching former = by-oid (built_in_type oid) refl former

finding : (more : ℕ) (busy : List ℕ) (oid : ℕ) (former : Asks) → Ends (IsFound oid) former (find more busy oid)
finding zero busy oid former = searching oid false (Answer (Err UnexpectedMessage)) (λ asks. tt) former
finding (suc more) busy oid former = searching oid (not (is_among oid busy)) (then_do (row_of oid) search)
    (λ asks. ends-after (IsFound oid) search (λ asks row. making (find more (oid ∷ busy)) oid row (sort_of row) asks) asks (row_of oid)) former
  where
    search : TypeRow → Dialogue PgType
    search row = made_by (find more (oid ∷ busy)) oid row (sort_of row)

pub found : (more : ℕ) (busy : List ℕ) (oid : ℕ) (met : Met Reply) (ty : PgType) → (comes_of (find more busy oid) met).answer ≡ Some (Ok ty) → (built_in_type oid ≡ Some ty) ⊎ LastFinds oid ty (told_in (find more busy oid) met)
found more busy oid met ty e = ends-so (IsFound oid) [] (find more busy oid) (finding more busy oid []) met [] ty e

-- ---- the types of several oids

abbrev WasFound : ℕ → PgType → Asks → Type 0
WasFound oid ty asks = (built_in_type oid ≡ Some ty) ⊎ OneFinds oid ty asks

last-is-one : (oid : ℕ) (ty : PgType) (asks : Asks) → LastFinds oid ty asks → OneFinds oid ty asks
last-is-one oid ty [] h = absurd h
last-is-one oid ty (a ∷ []) h = inl h
last-is-one oid ty (a ∷ b ∷ asks) h = inr (last-is-one oid ty (b ∷ asks) h)

one-stays : (oid : ℕ) (ty : PgType) (asks : Asks) (a : DeskCall × Reply) → OneFinds oid ty asks → OneFinds oid ty (asks ++ a ∷ [])
one-stays oid ty [] a h = absurd h
one-stays oid ty (b ∷ asks) a (inl h) = inl h
one-stays oid ty (b ∷ asks) a (inr h) = inr (one-stays oid ty asks a h)

was-stays : (oid : ℕ) (ty : PgType) (asks : Asks) (a : DeskCall × Reply) → WasFound oid ty asks → WasFound oid ty (asks ++ a ∷ [])
was-stays oid ty asks a (inl h) = inl h
was-stays oid ty asks a (inr h) = inr (one-stays oid ty asks a h)

was-last : (oid : ℕ) (ty : PgType) (asks : Asks) → IsFound oid asks ty → WasFound oid ty asks
was-last oid ty asks (inl h) = inl h
was-last oid ty asks (inr h) = inr (last-is-one oid ty asks h)

are-still : (oids : List ℕ) (types : List PgType) (asks : Asks) (a : DeskCall × Reply) → AreFound oids types asks → AreFound oids types (asks ++ a ∷ [])
are-still [] [] asks a h = tt
are-still (oid ∷ oids) (ty ∷ types) asks a h = (was-stays oid ty asks a h.0, are-still oids types asks a h.1)
are-still [] (ty ∷ types) asks a h = absurd h
are-still (oid ∷ oids) [] asks a h = absurd h

one-more : (oids : List ℕ) (types : List PgType) (oid : ℕ) (ty : PgType) (asks : Asks) → AreFound oids types asks → WasFound oid ty asks → AreFound (oids ++ oid ∷ []) (types ++ ty ∷ []) asks
one-more [] [] oid ty asks h k = (k, tt)
one-more (o ∷ oids) (t ∷ types) oid ty asks h k = (h.0, one-more oids types oid ty asks h.1 k)
one-more [] (t ∷ types) oid ty asks h k = absurd h
one-more (o ∷ oids) [] oid ty asks h k = absurd h

finding-each : (all before oids : List ℕ) (types : List PgType) → before ++ oids ≡ all → (former : Asks) → AreFound before types former → Ends (λ asks found. AreFound all found asks) former (find_each (find 64 []) oids types)
finding-each all before [] types e former h = subst (λ (os : List ℕ). AreFound os types former) (sym (append-nil before) ∙ e) h
finding-each all before (oid ∷ oids) types e former h =
    ends-then (λ asks ty. AreFound before types asks × IsFound oid asks ty) (λ asks found. AreFound all found asks) (λ ty. find_each (find 64 []) oids (types ++ ty ∷ []))
    (λ asks ty k. finding-each all (before ++ oid ∷ []) oids (types ++ ty ∷ []) (append_assoc before (oid ∷ []) oids ∙ e) asks (one-more before types oid ty asks k.0 (was-last oid ty asks k.1)))
    former (find 64 [] oid) (ends-still (λ asks. AreFound before types asks) (λ asks a. are-still before types asks a) (IsFound oid) former (find 64 [] oid) h (finding 64 [] oid former))

pub all-found : (oids : List ℕ) (met : Met Reply) (types : List PgType) → (comes_of (find_all oids) met).answer ≡ Some (Ok types) → AreFound oids types (told_in (find_all oids) met)
all-found oids met types e = ends-so (λ asks found. AreFound oids found asks) [] (find_all oids) (finding-each oids [] oids [] refl [] tt) met [] types e
