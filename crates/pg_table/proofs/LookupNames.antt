-- What prepares a text and looks types up uses each number that it was told once, as the name of a statement.
use Rattle.std.proofs.Common.{◌≡◌, ℕ, zero, suc, List, [], ◌∷◌, ◌++◌, length, Bool, true, false, not, if◌then◌else◌, Option, Some, None, Result, Ok, Err, refl, sym, ap}
use Rattle.pg_spec.specs.Faults.{FrameFault, UnexpectedMessage}
use Rattle.pg_types.specs.BuiltIns.{built_in_type}
use Rattle.pg_types.specs.declared.pg_type.PgType.{PgType}
use Rattle.pg_types.specs.declared.pg_type.Field.{Field}
use Rattle.pg_types.specs.declared.pg_type.Kind.{Kind, Enum as EnumKind, Composite as CompositeKind}
use Rattle.pg_types.specs.declared.error.Error.{Error}
use Rattle.pg_desk.specs.declared.statement.Described.{Described as Statement}
use Rattle.pg_desk.specs.declared.statement.Lookup.{Lookup}
use Rattle.pg_desk.specs.declared.statement.Lookup.TheVariants.{Info, Enum, Composite}
use Rattle.pg_desk.specs.declared.column.Column.{Column}
use Rattle.pg_query.specs.Dialogue.{Dialogue, Answer}
use Rattle.pg_query.specs.Reading.{reads}
use Rattle.pg_query.specs.declared.desk_call.DeskCall.TheVariants.{NextStatement}
use Rattle.pg_query.specs.declared.desk_call.Reply.{Reply}
use Rattle.pg_query.specs.declared.desk_call.Reply.TheVariants as reply
use Rattle.pg_core.specs.Cells.{Cells, text_in, value_at}
use Rattle.pg_core.specs.Composing.{asks_for, or_encode}
use Rattle.pg_core.specs.Descriptions.{Description, description, oids_in}
use Rattle.pg_core.specs.Lookups as lookup
use Rattle.pg_core.specs.Lookups.{FieldRow, FieldRows, Sort, TypeRow, asks_oid, clear, cleared_told, field_row, field_rows, fields_by, find, find_all, find_each, is_among, is_unknown, keeps, keeps_statement, kept_told, labels_of, lookup_statement, lookup_text, made_by, oid_request, or_prepared, or_second, prepare, prepared, row_of, sort_of, statement_told, type_row, unknown_code, unless_known, wraps}
use Rattle.pg_core.specs.Numbers.{number_told}
use Rattle.pg_core.specs.Prepares.{NewStatement, describes, known, known_or, known_types, needs_type, prepare_request, prepares, statement_name, statement_of, type_told}
use Rattle.pg_core.specs.QueryReplies.{all_rows, first_row}
use Rattle.pg_core.specs.Sequences.{or_answer, then_do}
use Rattle.pg_table.proofs.FrameNames.{oid-names, prepare-names}
use Rattle.pg_table.proofs.NamesTold.{IsFresh, Uses, behinds, booked, names_told, or-answers, reading, thens}

-- ---- a text is prepared: it is named by the number that was drawn for it

-- behind the description
abbrev described_as : ℕ → Description → Dialogue NewStatement
described_as n d = Answer (Ok (record { number = n; described = d }))

named-by : (n : ℕ) (text oids : List ℕ) (r : Result (List ℕ) FrameFault) → prepare_request n text oids ≡ r → Uses (statement_name n ∷ []) (asks_for (or_encode r) (reads true description))
named-by n text oids (Ok part) is = ([], [], sym (ap (λ (l : List (List ℕ)). l ++ []) (prepare-names n text oids part is)), reading true description)
named-by n text oids (Err fault) is = tt

describing : (text oids : List ℕ) → IsFresh (describes text oids)
describing text oids = by
  where
    sent_as : ℕ → Dialogue NewStatement
    sent_as n = then_do (asks_for (or_encode (prepare_request n text oids)) (reads true description)) (described_as n)

    by : (r : Reply) → Uses (names_told NextStatement r) (then_do (number_told r) sent_as)
    by (reply.Number n) =
        behinds [] (or_answer (described_as n)) (or-answers (described_as n) (λ d. tt)) (statement_name n ∷ []) (asks_for (or_encode (prepare_request n text oids)) (reads true description)) (named-by n text oids (prepare_request n text oids) refl)
    by other = tt

preparing : (search : List ℕ → Dialogue (List PgType)) → ((oids : List ℕ) → IsFresh (search oids)) → (text oids : List ℕ) → IsFresh (prepares search text oids)
preparing search h text oids = thens (describes text oids) (λ s. then_do (search (oids_in s.described)) (stated s)) (describing text oids) (λ s. thens (search (oids_in s.described)) (stated s) (h (oids_in s.described)) (λ types. tt))
  where
    stated : NewStatement → List PgType → Dialogue Statement
    stated s types = Answer (Ok (statement_of s types))

-- ---- types that are known

type-told : {T : Type 0} (next : Option PgType → Dialogue T) → ((o : Option PgType) → IsFresh (next o)) → (r : Reply) → IsFresh (type_told next r)
type-told next h (reply.Type found) = h found
type-told next h other = tt

known-or : {T : Type 0} (oid : ℕ) (o : Option PgType) (next : Option PgType → Dialogue T) → ((o : Option PgType) → IsFresh (next o)) → IsFresh (known_or oid o next)
known-or oid (Some ty) next h = h (Some ty)
known-or oid None next h = λ r. type-told next h r

knowing : {T : Type 0} (oid : ℕ) (next : Option PgType → Dialogue T) → ((o : Option PgType) → IsFresh (next o)) → IsFresh (known oid next)
knowing oid next h = known-or oid (built_in_type oid) next h

needing : {T : Type 0} (next : PgType → Dialogue T) → ((ty : PgType) → IsFresh (next ty)) → (o : Option PgType) → IsFresh (needs_type next o)
needing next h (Some ty) = h ty
needing next h None = tt

all-known : (oids : List ℕ) (found : List PgType) → IsFresh (known_types oids found)
all-known [] found = tt
all-known (oid ∷ oids) found = knowing oid (needs_type (λ ty. known_types oids (found ++ ty ∷ []))) (needing (λ ty. known_types oids (found ++ ty ∷ [])) (λ ty. all-known oids (found ++ ty ∷ [])))

-- ---- the statements that look types up

statement-told : (r : Reply) → IsFresh (statement_told r)
statement-told (reply.Statement (Some s)) = tt
statement-told (reply.Statement None) = tt
statement-told other = tt

keeping-statement : (which : Lookup) (s : Statement) → IsFresh (keeps_statement which s)
keeping-statement which s = λ r. statement-told r

preparing-lookup : (which : Lookup) (first : Bool) → IsFresh (prepared which first)
preparing-lookup which first = preparing (λ found. known_types found []) (λ found. all-known found []) (lookup_text which first) []

or-second : (which : Lookup) (r : Result Statement Error) → IsFresh (or_second which r)
or-second which (Ok s) = keeping-statement which s
or-second which (Err e) = by (is_unknown (unknown_code which) e)
  where
    by : (b : Bool) → IsFresh (if b then then_do (prepared which false) (keeps_statement which) else Answer (Err e))
    by true = thens (prepared which false) (keeps_statement which) (preparing-lookup which false) (keeping-statement which)
    by false = tt

or-prepared : (which : Lookup) (r : Reply) → IsFresh (or_prepared which r)
or-prepared which (reply.Statement (Some s)) = tt
or-prepared which (reply.Statement None) = behinds [] (or_second which) (or-second which) [] (prepared which true) (preparing-lookup which true)
or-prepared which other = tt

looking-up : (which : Lookup) → IsFresh (lookup_statement which)
looking-up which = λ r. or-prepared which r

-- ---- a type's own row, labels and fields

finding-row : (oid : ℕ) → IsFresh (row_of oid)
finding-row oid = thens (lookup_statement Info) row_by (looking-up Info) (λ s. booked (oid_request s.name s.params oid) (reads true (first_row (type_row s.columns) (length s.columns))) (oid-names s.name s.params oid) (reading true (first_row (type_row s.columns) (length s.columns))))
  where
    row_by : Statement → Dialogue TypeRow
    row_by s = asks_oid s oid (reads true (first_row (type_row s.columns) (length s.columns)))

-- a label of a row
abbrev label_in : Statement → Cells → Result (List ℕ) Error
label_in s cells = value_at text_in s.columns cells 0

finding-labels : (oid : ℕ) → IsFresh (labels_of oid)
finding-labels oid = thens (lookup_statement Enum) labels_by (looking-up Enum) (λ s. booked (oid_request s.name s.params oid) (reads false (all_rows (label_in s) (length s.columns))) (oid-names s.name s.params oid) (reading false (all_rows (label_in s) (length s.columns))))
  where
    labels_by : Statement → Dialogue (List (List ℕ))
    labels_by s = asks_oid s oid (reads false (all_rows (label_in s) (length s.columns)))

-- a row as it is
abbrev as_it_is : Cells → Result Cells Error
as_it_is cells = Ok cells

abbrev with_columns : Statement → List Cells → Dialogue FieldRows
with_columns s rows = Answer (Ok (record { columns = s.columns; rows = rows }))

finding-rows : (relation : ℕ) → IsFresh (field_rows relation)
finding-rows relation = thens (lookup_statement Composite) rows_by (looking-up Composite) (λ s.
    thens (asks_oid s relation (reads false (all_rows as_it_is (length s.columns)))) (with_columns s)
    (booked (oid_request s.name s.params relation) (reads false (all_rows as_it_is (length s.columns))) (oid-names s.name s.params relation) (reading false (all_rows as_it_is (length s.columns)))) (λ rows. tt))
  where
    rows_by : Statement → Dialogue FieldRows
    rows_by s = then_do (asks_oid s relation (reads false (all_rows as_it_is (length s.columns)))) (with_columns s)

finding-fields : {T : Type 0} (search : ℕ → Dialogue PgType) → ((oid : ℕ) → IsFresh (search oid)) → (columns : List Column) (rows : List Cells) (found : List Field) (done : List Field → Dialogue T) → ((fields : List Field) → IsFresh (done fields)) →
    IsFresh (fields_by search columns rows found done)
finding-fields search h columns [] found done last = last found
finding-fields {T} search h columns (cells ∷ rows) found done last = or-answers each (λ f.
    thens (search f.type_oid) (λ ty. fields_by search columns rows (found ++ record { name = f.name; type_ = ty } ∷ []) done) (h f.type_oid)
    (λ ty. finding-fields search h columns rows (found ++ record { name = f.name; type_ = ty } ∷ []) done last)) (field_row columns cells)
  where
    each : FieldRow → Dialogue T
    each f = then_do (search f.type_oid) (λ ty. fields_by search columns rows (found ++ record { name = f.name; type_ = ty } ∷ []) done)

-- ---- types

kept-told : (r : Reply) → IsFresh (kept_told r)
kept-told (reply.Type (Some ty)) = tt
kept-told (reply.Type None) = tt
kept-told other = tt

keeping : (oid : ℕ) (row : TypeRow) (kind : Kind) → IsFresh (keeps oid row kind)
keeping oid row kind = λ r. kept-told r

making : (search : ℕ → Dialogue PgType) → ((oid : ℕ) → IsFresh (search oid)) → (oid : ℕ) (row : TypeRow) (sort : Sort) → IsFresh (made_by search oid row sort)
making search h oid row (lookup.Is kind) = keeping oid row kind
making search h oid row lookup.Labels = thens (labels_of oid) (λ labels. keeps oid row (EnumKind labels)) (finding-labels oid) (λ labels. keeping oid row (EnumKind labels))
making search h oid row (lookup.Of wrap inner) = thens (search inner) (λ ty. keeps oid row (wraps wrap ty)) (h inner) (λ ty. keeping oid row (wraps wrap ty))
making search h oid row (lookup.Fields relation) = thens (field_rows relation) (λ f. fields_by search f.columns f.rows [] (λ fields. keeps oid row (CompositeKind fields))) (finding-rows relation) (λ f.
    finding-fields search h f.columns f.rows [] (λ fields. keeps oid row (CompositeKind fields)) (λ fields. keeping oid row (CompositeKind fields)))

unless-known : (may : Bool) (search : Dialogue PgType) → IsFresh search → (o : Option PgType) → IsFresh (unless_known may search o)
unless-known may search h (Some ty) = tt
unless-known true search h None = h
unless-known false search h None = tt

finding : (more : ℕ) (busy : List ℕ) (oid : ℕ) → IsFresh (find more busy oid)
finding zero busy oid = knowing oid (unless_known false (Answer (Err UnexpectedMessage))) (unless-known false (Answer (Err UnexpectedMessage)) tt)
finding (suc more) busy oid = knowing oid (unless_known (not (is_among oid busy)) (then_do (row_of oid) search)) (unless-known (not (is_among oid busy)) (then_do (row_of oid) search)
    (thens (row_of oid) search (finding-row oid) (λ row. making (find more (oid ∷ busy)) (finding more (oid ∷ busy)) oid row (sort_of row))))
  where
    search : TypeRow → Dialogue PgType
    search row = made_by (find more (oid ∷ busy)) oid row (sort_of row)

finding-each : (search : ℕ → Dialogue PgType) → ((oid : ℕ) → IsFresh (search oid)) → (oids : List ℕ) (found : List PgType) → IsFresh (find_each search oids found)
finding-each search h [] found = tt
finding-each search h (oid ∷ oids) found = thens (search oid) (λ ty. find_each search oids (found ++ ty ∷ [])) (h oid) (λ ty. finding-each search h oids (found ++ ty ∷ []))

pub finding-all : (oids : List ℕ) → IsFresh (find_all oids)
finding-all oids = finding-each (find 64 []) (finding 64 []) oids []

pub preparing-text : (text oids : List ℕ) → IsFresh (prepare text oids)
preparing-text text oids = preparing find_all finding-all text oids

cleared-told : (r : Reply) → IsFresh (cleared_told r)
cleared-told reply.Cleared = tt
cleared-told other = tt

pub clearing : IsFresh clear
clearing = λ r. cleared-told r
