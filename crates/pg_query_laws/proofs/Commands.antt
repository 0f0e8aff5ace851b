-- The lookups of types are commands that a session takes.
use Rattle.std.proofs.Common.{◌≡◌, ℕ, zero, suc, List, [], ◌∷◌, ◌++◌, length, Bool, true, false, not, if◌then◌else◌, Option, Some, None, Result, Ok, Err, refl, sym, subst, ◌==◌}
use Rattle.std.specs.Prelude.{pos}
use Rattle.pg_spec.specs.Faults.{ToSql, UnexpectedMessage, Value}
use Rattle.pg_types.specs.declared.pg_type.PgType.{PgType}
use Rattle.pg_types.specs.declared.pg_type.Field.{Field}
use Rattle.pg_types.specs.declared.pg_type.Kind.{Kind, Enum as EnumKind, Composite as CompositeKind}
use Rattle.pg_types.specs.BuiltIns.{built_in_type}
use Rattle.pg_types.specs.Oids as oids
use Rattle.pg_types.specs.declared.fault.ValueFault.TheVariants.{WrongType}
use Rattle.pg_types.specs.declared.fault.RustType.TheVariants as rust
use Rattle.pg_types.specs.Values.{oid_bytes, wrong_type}
use Rattle.pg_types.specs.declared.error.Error.{Error}
use Rattle.pg_types.specs.declared.error.Error.TheVariants.{OutOfMemory}
use Rattle.pg_desk.specs.declared.statement.Described.{Described as Statement}
use Rattle.pg_desk.specs.declared.statement.Lookup.{Lookup}
use Rattle.pg_desk.specs.declared.statement.Lookup.TheVariants.{Info, Enum, Composite}
use Rattle.pg_desk.specs.declared.column.Column.{Column}
use Rattle.pg_query.specs.Dialogue.{Dialogue, Answer}
use Rattle.pg_query.specs.Reading.{reads}
use Rattle.pg_query.specs.declared.desk_call.DeskCall.TheVariants as desk_call
use Rattle.pg_query.specs.declared.desk_call.Reply.{Reply}
use Rattle.pg_query.specs.declared.desk_call.Reply.TheVariants as reply
use Rattle.pg_core.specs.Times.{LacksMemory}
use Rattle.pg_core.specs.Numbers.{draws, number_told}
use Rattle.pg_core.specs.Sequences.{then_do}
use Rattle.pg_session.specs.Speeches.{IsWholeRequest}
use Rattle.pg_core.specs.Cells.{Cells, text_in, value_at}
use Rattle.pg_core.specs.Composing.{asks_for, or_encode}
use Rattle.pg_core.specs.Descriptions as described
use Rattle.pg_core.specs.Descriptions.{Description, description, description_next, oids_in}
use Rattle.pg_core.specs.Lookups as lookup
use Rattle.pg_core.specs.Lookups.{FieldRow, FieldRows, Sort, TypeRow, asks_oid, clear, cleared_told, field_row, field_rows, fields_by, find, find_all, find_each, is_among, is_unknown, keeps, keeps_statement, kept_told, labels_of, lookup_statement, lookup_text, made_by, oid_frames, oid_request, or_prepared, or_second, prepare, prepared, row_of, sort_of, statement_told, type_row, unknown_code, unless_known, wraps}
use Rattle.pg_core.specs.Prepares.{NewStatement, describes, known, known_or, known_types, needs_type, prepare_request, prepares, statement_name, statement_of, type_told}
use Rattle.pg_core.specs.QueryReplies.{Said, Row, Ready, Collected, all_rows, all_rows_by, collects, first_row, first_row_by}
use Rattle.pg_query_laws.specs.Taken.{IsTaken}
use Rattle.pg_query_laws.proofs.Steps.{AnswersAtReady, SaysReady, TellsNone, reads-last, reads-stop, said-answers, said_next, said-tells}
use Rattle.pg_query_laws.proofs.Requests.{made-ok, whole-execute, whole-prepare}
use Rattle.pg_query_laws.proofs.Taken.{IsReadOn, answers, asks, behinds, booked, or-answers, thens}

-- ---- the replies that are read

description-last : AnswersAtReady description_next
description-last described.Nothing [] = tt
description-last described.Nothing (b ∷ []) = tt
description-last described.Nothing (b ∷ c ∷ rest) = tt
description-last described.Parsed [] = tt
description-last described.Parsed (b ∷ []) = tt
description-last described.Parsed (b ∷ c ∷ rest) = tt
description-last (described.Params oids) [] = tt
description-last (described.Params oids) (b ∷ []) = tt
description-last (described.Params oids) (b ∷ c ∷ rest) = tt

-- the first row
reads-first : {A : Type 0} (read : Cells → Result A Error) (columns : ℕ) → IsReadOn (reads true (first_row read columns))
reads-first read columns = reads-stop (said_next (λ b. b) columns (first_row_by read)) false (said-answers (λ b. b) columns (first_row_by read) (λ bound. tt) (λ bound e. tt))

-- all rows
collects-none : {A : Type 0} (c : Collected A) (r : Result A Error) → TellsNone (collects c r)
collects-none c (Ok x) = tt
collects-none c (Err e) = tt

reads-all : {A : Type 0} (read : Cells → Result A Error) (columns : ℕ) → IsReadOn (reads false (all_rows read columns))
reads-all {A} read columns =
    reads-last (said_next bound columns (all_rows_by read)) (record { bound = false; items = [] }) (said-answers bound columns (all_rows_by read) (λ c. tt) (λ c e. tt)) (said-tells bound columns (all_rows_by read) alone)
  where
    bound : Collected A → Bool
    bound c = c.bound

    alone : (c : Collected A) (s : Said) → (SaysReady s → ⊥) → TellsNone (all_rows_by read c s)
    alone c (Row cells) h = collects-none c (read cells)
    alone c Ready h = absurd (h tt)
    alone c other h = tt

-- ---- a text is prepared

number-told : (r : Reply) → IsTaken (number_told r)
number-told (reply.Number n) = answers _
number-told other = answers _

-- behind the number, and behind the description
abbrev described_as : ℕ → Description → Dialogue NewStatement
described_as n d = Answer (Ok (record { number = n; described = d }))

abbrev sent_as : (text oids : List ℕ) → ℕ → Dialogue NewStatement
sent_as text oids n = then_do (asks_for (or_encode (prepare_request n text oids)) (reads true description)) (described_as n)

describing : (text oids : List ℕ) → IsTaken (describes text oids)
describing text oids = thens draws (sent_as text oids) (asks desk_call.NextStatement number_told (λ r fit. number-told r)) (λ n.
    thens (asks_for (or_encode (prepare_request n text oids)) (reads true description)) (described_as n)
    (booked (or_encode (prepare_request n text oids)) (reads true description) (λ part e. whole-prepare (statement_name n) text oids part (made-ok (prepare_request n text oids) part e)) (reads-stop description_next described.Nothing description-last))
    (λ d. answers _))

-- with the types of its oids
abbrev stated : NewStatement → List PgType → Dialogue Statement
stated s types = Answer (Ok (statement_of s types))

abbrev typed_by : (List ℕ → Dialogue (List PgType)) → NewStatement → Dialogue Statement
typed_by search s = then_do (search (oids_in s.described)) (stated s)

pub preparing : (search : List ℕ → Dialogue (List PgType)) → ((oids : List ℕ) → IsTaken (search oids)) → (text oids : List ℕ) → IsTaken (prepares search text oids)
preparing search h text oids = thens (describes text oids) (typed_by search) (describing text oids) (λ s. thens (search (oids_in s.described)) (stated s) (h (oids_in s.described)) (λ types. answers _))

-- ---- types that are known

type-told : {T : Type 0} (next : Option PgType → Dialogue T) → ((o : Option PgType) → IsTaken (next o)) → (r : Reply) → IsTaken (type_told next r)
type-told next h (reply.Type found) = h found
type-told next h other = answers _

known-or : {T : Type 0} (oid : ℕ) (o : Option PgType) (next : Option PgType → Dialogue T) → ((o : Option PgType) → IsTaken (next o)) → IsTaken (known_or oid o next)
known-or oid (Some ty) next h = h (Some ty)
known-or oid None next h = asks (desk_call.TypeOf oid) (type_told next) (λ r fit. type-told next h r)

knowing : {T : Type 0} (oid : ℕ) (next : Option PgType → Dialogue T) → ((o : Option PgType) → IsTaken (next o)) → IsTaken (known oid next)
knowing oid next h = known-or oid (built_in_type oid) next h

needing : {T : Type 0} (next : PgType → Dialogue T) → ((ty : PgType) → IsTaken (next ty)) → (o : Option PgType) → IsTaken (needs_type next o)
needing next h (Some ty) = h ty
needing next h None = answers _

all-known : (oids : List ℕ) (found : List PgType) → IsTaken (known_types oids found)
all-known [] found = answers _
all-known (oid ∷ oids) found = knowing oid (needs_type (λ ty. known_types oids (found ++ ty ∷ []))) (needing (λ ty. known_types oids (found ++ ty ∷ [])) (λ ty. all-known oids (found ++ ty ∷ [])))

-- ---- the statements that look types up

statement-told : (r : Reply) → IsTaken (statement_told r)
statement-told (reply.Statement (Some s)) = answers _
statement-told (reply.Statement None) = answers _
statement-told other = answers _

keeping-statement : (which : Lookup) (s : Statement) → IsTaken (keeps_statement which s)
keeping-statement which s = asks (desk_call.SetLookup which s) statement_told (λ r fit. statement-told r)

preparing-lookup : (which : Lookup) (first : Bool) → IsTaken (prepared which first)
preparing-lookup which first = preparing (λ found. known_types found []) (λ found. all-known found []) (lookup_text which first) []

or-second : (which : Lookup) (r : Result Statement Error) → IsTaken (or_second which r)
or-second which (Ok s) = keeping-statement which s
or-second which (Err e) = by (is_unknown (unknown_code which) e)
  where
    by : (b : Bool) → IsTaken (if b then then_do (prepared which false) (keeps_statement which) else Answer (Err e))
    by true = thens (prepared which false) (keeps_statement which) (preparing-lookup which false) (keeping-statement which)
    by false = answers (Err e)

lacks-second : (which : Lookup) → LacksMemory (or_second which (Err OutOfMemory))
lacks-second Info = refl
lacks-second Enum = refl
lacks-second Composite = refl

or-prepared : (which : Lookup) (r : Reply) → IsTaken (or_prepared which r)
or-prepared which (reply.Statement (Some s)) = answers _
or-prepared which (reply.Statement None) =
    behinds [] tt (prepared which true) (or_second which) (preparing-lookup which true) (or-second which)
    (λ r is. subst (λ (x : Result Statement Error). LacksMemory (or_second which x)) (sym is) (lacks-second which))
or-prepared which other = answers _

looking-up : (which : Lookup) → IsTaken (lookup_statement which)
looking-up which = asks (desk_call.LookupOf which) (or_prepared which) (λ r fit. or-prepared which r)

whole-oid : (name : List ℕ) (params : List PgType) (oid : ℕ) (part : List ℕ) → oid_request name params oid ≡ Ok part → IsWholeRequest part
whole-oid name [] oid part e = absurd cc
whole-oid name (ty ∷ []) oid part e = by (ty.oid == oids.oid) e
  where
    by : (b : Bool) → (if b then or_encode (oid_frames name oid) else Err (ToSql 0 (Value (WrongType (wrong_type ty.oid rust.U32))))) ≡ Ok part → IsWholeRequest part
    by true e = whole-execute [] name (pos 1 ∷ []) (Some (oid_bytes oid) ∷ []) (pos 1) (pos 0) part (made-ok (oid_frames name oid) part e)
    by false e = absurd cc
whole-oid name (ty ∷ other ∷ params) oid part e = absurd cc

-- a statement asked for an oid, whose reply is read so
asking : {T : Type 0} (s : Statement) (oid : ℕ) (d : Dialogue T) → IsReadOn d → IsTaken (asks_oid s oid d)
asking s oid d h = booked (oid_request s.name s.params oid) d (whole-oid s.name s.params oid) h

-- ---- a type's own row, labels and fields

-- by the statement
abbrev row_by : ℕ → Statement → Dialogue TypeRow
row_by oid s = asks_oid s oid (reads true (first_row (type_row s.columns) (length s.columns)))

finding-row : (oid : ℕ) → IsTaken (row_of oid)
finding-row oid = thens (lookup_statement Info) (row_by oid) (looking-up Info) (λ s. asking s oid (reads true (first_row (type_row s.columns) (length s.columns))) (reads-first (type_row s.columns) (length s.columns)))

-- a label of a row
abbrev label_in : Statement → Cells → Result (List ℕ) Error
label_in s cells = value_at text_in s.columns cells 0

abbrev labels_by : ℕ → Statement → Dialogue (List (List ℕ))
labels_by oid s = asks_oid s oid (reads false (all_rows (label_in s) (length s.columns)))

finding-labels : (oid : ℕ) → IsTaken (labels_of oid)
finding-labels oid = thens (lookup_statement Enum) (labels_by oid) (looking-up Enum) (λ s. asking s oid (reads false (all_rows (label_in s) (length s.columns))) (reads-all (label_in s) (length s.columns)))

-- a row as it is
abbrev as_it_is : Cells → Result Cells Error
as_it_is cells = Ok cells

abbrev with_columns : Statement → List Cells → Dialogue FieldRows
with_columns s rows = Answer (Ok (record { columns = s.columns; rows = rows }))

abbrev rows_by : ℕ → Statement → Dialogue FieldRows
rows_by relation s = then_do (asks_oid s relation (reads false (all_rows as_it_is (length s.columns)))) (with_columns s)

finding-rows : (relation : ℕ) → IsTaken (field_rows relation)
finding-rows relation = thens (lookup_statement Composite) (rows_by relation) (looking-up Composite) (λ s.
    thens (asks_oid s relation (reads false (all_rows as_it_is (length s.columns)))) (with_columns s)
    (asking s relation (reads false (all_rows as_it_is (length s.columns))) (reads-all as_it_is (length s.columns))) (λ rows. answers _))

finding-fields : {T : Type 0} (search : ℕ → Dialogue PgType) → ((oid : ℕ) → IsTaken (search oid)) → (columns : List Column) (rows : List Cells) (found : List Field) (done : List Field → Dialogue T) → ((fields : List Field) → IsTaken (done fields)) →
    IsTaken (fields_by search columns rows found done)
finding-fields search h columns [] found done last = last found
finding-fields {T} search h columns (cells ∷ rows) found done last = or-answers each (λ f.
    thens (search f.type_oid) (λ ty. fields_by search columns rows (found ++ record { name = f.name; type_ = ty } ∷ []) done) (h f.type_oid)
    (λ ty. finding-fields search h columns rows (found ++ record { name = f.name; type_ = ty } ∷ []) done last)) (field_row columns cells)
  where
    each : FieldRow → Dialogue T
    each f = then_do (search f.type_oid) (λ ty. fields_by search columns rows (found ++ record { name = f.name; type_ = ty } ∷ []) done)

-- ---- types

kept-told : (r : Reply) → IsTaken (kept_told r)
kept-told (reply.Type (Some ty)) = answers _
kept-told (reply.Type None) = answers _
kept-told other = answers _

keeping : (oid : ℕ) (row : TypeRow) (kind : Kind) → IsTaken (keeps oid row kind)
keeping oid row kind = asks (desk_call.SetType oid (record { name = row.name; oid = oid; kind = kind; schema = row.schema })) kept_told (λ r fit. kept-told r)

making : (search : ℕ → Dialogue PgType) → ((oid : ℕ) → IsTaken (search oid)) → (oid : ℕ) (row : TypeRow) (sort : Sort) → IsTaken (made_by search oid row sort)
making search h oid row (lookup.Is kind) = keeping oid row kind
making search h oid row lookup.Labels = thens (labels_of oid) (λ labels. keeps oid row (EnumKind labels)) (finding-labels oid) (λ labels. keeping oid row (EnumKind labels))
making search h oid row (lookup.Of wrap inner) = thens (search inner) (λ ty. keeps oid row (wraps wrap ty)) (h inner) (λ ty. keeping oid row (wraps wrap ty))
making search h oid row (lookup.Fields relation) = thens (field_rows relation) (λ f. fields_by search f.columns f.rows [] (λ fields. keeps oid row (CompositeKind fields))) (finding-rows relation) (λ f.
    finding-fields search h f.columns f.rows [] (λ fields. keeps oid row (CompositeKind fields)) (λ fields. keeping oid row (CompositeKind fields)))

unless-known : (may : Bool) (search : Dialogue PgType) → IsTaken search → (o : Option PgType) → IsTaken (unless_known may search o)
unless-known may search h (Some ty) = answers _
unless-known true search h None = h
unless-known false search h None = answers _

pub finding : (more : ℕ) (busy : List ℕ) (oid : ℕ) → IsTaken (find more busy oid)
finding zero busy oid = knowing oid (unless_known false (Answer (Err UnexpectedMessage))) (unless-known false (Answer (Err UnexpectedMessage)) (answers _))
finding (suc more) busy oid = knowing oid (unless_known (not (is_among oid busy)) (then_do (row_of oid) search)) (unless-known (not (is_among oid busy)) (then_do (row_of oid) search)
    (thens (row_of oid) search (finding-row oid) (λ row. making (find more (oid ∷ busy)) (finding more (oid ∷ busy)) oid row (sort_of row))))
  where
    search : TypeRow → Dialogue PgType
    search row = made_by (find more (oid ∷ busy)) oid row (sort_of row)

finding-each : (search : ℕ → Dialogue PgType) → ((oid : ℕ) → IsTaken (search oid)) → (oids : List ℕ) (found : List PgType) → IsTaken (find_each search oids found)
finding-each search h [] found = answers _
finding-each search h (oid ∷ oids) found = thens (search oid) (λ ty. find_each search oids (found ++ ty ∷ [])) (h oid) (λ ty. finding-each search h oids (found ++ ty ∷ []))

pub finding-all : (oids : List ℕ) → IsTaken (find_all oids)
finding-all oids = finding-each (find 64 []) (finding 64 []) oids []

pub preparing-text : (text oids : List ℕ) → IsTaken (prepare text oids)
preparing-text text oids = preparing find_all finding-all text oids

cleared-told : (r : Reply) → IsTaken (cleared_told r)
cleared-told reply.Cleared = answers _
cleared-told other = answers _

pub clearing : IsTaken clear
clearing = asks desk_call.ClearTypes cleared_told (λ r fit. cleared-told r)
