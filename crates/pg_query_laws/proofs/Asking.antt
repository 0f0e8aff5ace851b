-- What holds of each question: it holds of all that a dialogue asks, if it does of what the parts ask that it is put together of.
use Rattle.std.proofs.Common.{◌≡◌, ℕ, zero, suc, List, [], ◌∷◌, ◌++◌, length, Bool, true, false, if◌then◌else◌, Option, Some, None, Result, Ok, Err, refl, not}
use Rattle.pg_spec.specs.Faults.{UnexpectedMessage}
use Rattle.pg_spec.specs.RawMessages.{RawMessage}
use Rattle.pg_types.specs.BuiltIns.{built_in_type}
use Rattle.pg_types.specs.declared.error.Error.{Error}
use Rattle.pg_types.specs.declared.pg_type.Field.{Field}
use Rattle.pg_types.specs.declared.pg_type.Kind.{Kind, Enum as EnumKind, Composite as CompositeKind}
use Rattle.pg_types.specs.declared.pg_type.PgType.{PgType}
use Rattle.pg_desk.specs.declared.column.Column.{Column}
use Rattle.pg_desk.specs.declared.statement.Described.{Described as Statement}
use Rattle.pg_desk.specs.declared.statement.Lookup.{Lookup}
use Rattle.pg_desk.specs.declared.statement.Lookup.TheVariants.{Info, Enum, Composite}
use Rattle.pg_query.specs.Dialogue.{Dialogue, Answer, Ask, Send, Leave, Read, Put, Finish, Close, HangUp, Call, Hear}
use Rattle.pg_query.specs.Reading.{ends, reads}
use Rattle.pg_query.specs.declared.desk_call.Cleanup.{Cleanup}
use Rattle.pg_query.specs.declared.desk_call.DeskCall.{DeskCall}
use Rattle.pg_query.specs.declared.desk_call.DeskCall.TheVariants.{LookupOf, NextStatement, SetLookup, SetType, TypeOf}
use Rattle.pg_query.specs.declared.desk_call.Reply.{Reply}
use Rattle.pg_query.specs.declared.desk_call.Reply.TheVariants as reply
use Rattle.pg_core.specs.Behind.{behind}
use Rattle.pg_core.specs.Cells.{Cells, text_in, value_at}
use Rattle.pg_core.specs.Composing.{asks_for, or_encode}
use Rattle.pg_core.specs.Descriptions.{Description, description, oids_in}
use Rattle.pg_core.specs.Lookups as lookup
use Rattle.pg_core.specs.Lookups.{FieldRow, FieldRows, Sort, TypeRow, asks_oid, field_row, field_rows, fields_by, find, find_all, find_each, is_among, is_unknown, keeps, keeps_statement, kept_told, labels_of, lookup_statement, lookup_text, made_by, oid_request, or_prepared, or_second, prepare, prepared, row_of, sort_of, statement_told, type_row, unknown_code, unless_known, wraps}
use Rattle.pg_core.specs.Numbers.{draws, number_told}
use Rattle.pg_core.specs.Prepares.{NewStatement, describes, known_or, known_types, needs_type, prepare_request, prepares, statement_of, type_told}
use Rattle.pg_core.specs.QueryReplies.{all_rows, first_row}
use Rattle.pg_core.specs.Sequences.{or_answer, then_do}
use Rattle.pg_query_laws.specs.Kept.{EachAsked}

-- it holds of each question that a lookup asks
pub record Grants (P : DeskCall → Type 0) : Type 0 where
  pub number : P NextStatement
  pub type_of : (oid : ℕ) → P (TypeOf oid)
  pub lookup_of : (which : Lookup) → P (LookupOf which)
  pub set_lookup : (which : Lookup) (s : Statement) → P (SetLookup which s)
  pub set_type : (oid : ℕ) (ty : PgType) → ty.oid ≡ oid → P (SetType oid ty)

module _ (P : DeskCall → Type 0) where
  -- ---- dialogues put together

  pub each-behind : {A T : Type 0} (extra : List Cleanup) (f : Result A Error → Dialogue T) → ((r : Result A Error) → EachAsked P (f r)) → (d : Dialogue A) → EachAsked P d → EachAsked P (behind extra d f)
  each-behind extra f later (Answer r) h = later r
  each-behind extra f later (Ask copying part d) h = each-behind extra f later d h
  each-behind extra f later (Send part refused d) h = (λ e. each-behind extra f later (refused e) (h.0 e), each-behind extra f later d h.1)
  each-behind extra f later (Leave id d) h = each-behind extra f later d h
  each-behind extra f later (Read cleanup decides next) h = λ ms. each-behind extra f later (next ms) (h ms)
  each-behind extra f later (Put cleanup part d) h = each-behind extra f later d h
  each-behind extra f later (Finish part d) h = each-behind extra f later d h
  each-behind extra f later (Close part d) h = each-behind extra f later d h
  each-behind extra f later (HangUp d) h = each-behind extra f later d h
  each-behind extra f later (Call q refused next) h = (h.0, λ e. each-behind extra f later (refused e) (h.1 e), λ r. each-behind extra f later (next r) (h.2 r))
  each-behind extra f later (Hear next) h = λ r. each-behind extra f later (next r) (h r)

  pub or-answers : {A T : Type 0} (f : A → Dialogue T) → ((x : A) → EachAsked P (f x)) → (r : Result A Error) → EachAsked P (or_answer f r)
  or-answers f h (Ok x) = h x
  or-answers f h (Err e) = tt

  pub thens : {A T : Type 0} (d : Dialogue A) (f : A → Dialogue T) → EachAsked P d → ((x : A) → EachAsked P (f x)) → EachAsked P (then_do d f)
  thens d f h later = each-behind [] (or_answer f) (or-answers f later) d h

  pub booked : {T : Type 0} (part : Result (List ℕ) Error) (d : Dialogue T) → EachAsked P d → EachAsked P (asks_for part d)
  booked (Ok part) d h = h
  booked (Err e) d h = tt

  ended : {T : Type 0} (stops : Bool) (o : Option (Result T Error)) → EachAsked P (ends stops o)
  ended true (Some (Ok x)) = tt
  ended false (Some (Ok x)) = tt
  ended stops (Some (Err e)) = tt
  ended stops None = tt

  -- what is read asks nothing
  pub read : {T : Type 0} (stops : Bool) (reading : List RawMessage → Option (Result T Error)) → EachAsked P (reads stops reading)
  read stops reading = λ ms. ended stops (reading ms)

module _ (P : DeskCall → Type 0) (grants : Grants P) where
  -- ---- a text is prepared

  number-told : (r : Reply) → EachAsked P (number_told r)
  number-told (reply.Number n) = tt
  number-told other = tt

  abbrev described_as : ℕ → Description → Dialogue NewStatement
  described_as n d = Answer (Ok (record { number = n; described = d }))

  abbrev sent_as : (text oids : List ℕ) → ℕ → Dialogue NewStatement
  sent_as text oids n = then_do (asks_for (or_encode (prepare_request n text oids)) (reads true description)) (described_as n)

  describing : (text oids : List ℕ) → EachAsked P (describes text oids)
  describing text oids = thens P draws (sent_as text oids) (grants.number, λ e. tt, number-told) (λ n.
      thens P (asks_for (or_encode (prepare_request n text oids)) (reads true description)) (described_as n)
      (booked P (or_encode (prepare_request n text oids)) (reads true description) (read P true description)) (λ d. tt))

  abbrev stated : NewStatement → List PgType → Dialogue Statement
  stated s types = Answer (Ok (statement_of s types))

  abbrev typed_by : (List ℕ → Dialogue (List PgType)) → NewStatement → Dialogue Statement
  typed_by search s = then_do (search (oids_in s.described)) (stated s)

  preparing : (search : List ℕ → Dialogue (List PgType)) → ((oids : List ℕ) → EachAsked P (search oids)) → (text oids : List ℕ) → EachAsked P (prepares search text oids)
  preparing search h text oids = thens P (describes text oids) (typed_by search) (describing text oids) (λ s. thens P (search (oids_in s.described)) (stated s) (h (oids_in s.described)) (λ types. tt))

  -- ---- types that are known

  type-told : {T : Type 0} (next : Option PgType → Dialogue T) → ((o : Option PgType) → EachAsked P (next o)) → (r : Reply) → EachAsked P (type_told next r)
  type-told next h (reply.Type found) = h found
  type-told next h other = tt

  known-by : {T : Type 0} (oid : ℕ) (o : Option PgType) (next : Option PgType → Dialogue T) → ((o : Option PgType) → EachAsked P (next o)) → EachAsked P (known_or oid o next)
  known-by oid (Some ty) next h = h (Some ty)
  known-by oid None next h = (grants.type_of oid, λ e. tt, type-told next h)

  needing : {T : Type 0} (next : PgType → Dialogue T) → ((ty : PgType) → EachAsked P (next ty)) → (o : Option PgType) → EachAsked P (needs_type next o)
  needing next h (Some ty) = h ty
  needing next h None = tt

  all-known : (oids : List ℕ) (found : List PgType) → EachAsked P (known_types oids found)
  all-known [] found = tt
  all-known (oid ∷ oids) found = known-by oid (built_in_type oid) (needs_type (λ ty. known_types oids (found ++ ty ∷ []))) (needing (λ ty. known_types oids (found ++ ty ∷ [])) (λ ty. all-known oids (found ++ ty ∷ [])))

  -- ---- the statements that look types up

  statement-told : (r : Reply) → EachAsked P (statement_told r)
  statement-told (reply.Statement (Some s)) = tt
  statement-told (reply.Statement None) = tt
  statement-told other = tt

  keeping-statement : (which : Lookup) (s : Statement) → EachAsked P (keeps_statement which s)
  keeping-statement which s = (grants.set_lookup which s, λ e. tt, statement-told)

  preparing-lookup : (which : Lookup) (first : Bool) → EachAsked P (prepared which first)
  preparing-lookup which first = preparing (λ found. known_types found []) (λ found. all-known found []) (lookup_text which first) []

  or-second : (which : Lookup) (r : Result Statement Error) → EachAsked P (or_second which r)
  or-second which (Ok s) = keeping-statement which s
  or-second which (Err e) = by (is_unknown (unknown_code which) e)
    where
      by : (b : Bool) → EachAsked P (if b then then_do (prepared which false) (keeps_statement which) else Answer (Err e))
      by true = thens P (prepared which false) (keeps_statement which) (preparing-lookup which false) (keeping-statement which)
      by false = tt

  or-prepared : (which : Lookup) (r : Reply) → EachAsked P (or_prepared which r)
  or-prepared which (reply.Statement (Some s)) = tt
  or-prepared which (reply.Statement None) = each-behind P [] (or_second which) (or-second which) (prepared which true) (preparing-lookup which true)
  or-prepared which other = tt

  looking-up : (which : Lookup) → EachAsked P (lookup_statement which)
  looking-up which = (grants.lookup_of which, λ e. tt, or-prepared which)

  asking : {T : Type 0} (s : Statement) (oid : ℕ) (d : Dialogue T) → EachAsked P d → EachAsked P (asks_oid s oid d)
  asking s oid d h = booked P (oid_request s.name s.params oid) d h

  -- ---- a type's own row, labels and fields

  abbrev row_by : ℕ → Statement → Dialogue TypeRow
  row_by oid s = asks_oid s oid (reads true (first_row (type_row s.columns) (length s.columns)))

  finding-row : (oid : ℕ) → EachAsked P (row_of oid)
  finding-row oid = thens P (lookup_statement Info) (row_by oid) (looking-up Info) (λ s. asking s oid (reads true (first_row (type_row s.columns) (length s.columns))) (read P true (first_row (type_row s.columns) (length s.columns))))

  abbrev label_in : Statement → Cells → Result (List ℕ) Error
  label_in s cells = value_at text_in s.columns cells 0

  abbrev labels_by : ℕ → Statement → Dialogue (List (List ℕ))
  labels_by oid s = asks_oid s oid (reads false (all_rows (label_in s) (length s.columns)))

  finding-labels : (oid : ℕ) → EachAsked P (labels_of oid)
  finding-labels oid = thens P (lookup_statement Enum) (labels_by oid) (looking-up Enum) (λ s. asking s oid (reads false (all_rows (label_in s) (length s.columns))) (read P false (all_rows (label_in s) (length s.columns))))

  abbrev as_it_is : Cells → Result Cells Error
  as_it_is cells = Ok cells

  abbrev with_columns : Statement → List Cells → Dialogue FieldRows
  with_columns s rows = Answer (Ok (record { columns = s.columns; rows = rows }))

  abbrev rows_by : ℕ → Statement → Dialogue FieldRows
  rows_by relation s = then_do (asks_oid s relation (reads false (all_rows as_it_is (length s.columns)))) (with_columns s)

  finding-rows : (relation : ℕ) → EachAsked P (field_rows relation)
  finding-rows relation = thens P (lookup_statement Composite) (rows_by relation) (looking-up Composite) (λ s.
      thens P (asks_oid s relation (reads false (all_rows as_it_is (length s.columns)))) (with_columns s)
      (asking s relation (reads false (all_rows as_it_is (length s.columns))) (read P false (all_rows as_it_is (length s.columns)))) (λ rows. tt))

  finding-fields : {T : Type 0} (search : ℕ → Dialogue PgType) → ((oid : ℕ) → EachAsked P (search oid)) → (columns : List Column) (rows : List Cells) (found : List Field) (done : List Field → Dialogue T) → ((fields : List Field) → EachAsked P (done fields)) →
      EachAsked P (fields_by search columns rows found done)
  finding-fields search h columns [] found done last = last found
  finding-fields {T} search h columns (cells ∷ rows) found done last = or-answers P each (λ f.
      thens P (search f.type_oid) (λ ty. fields_by search columns rows (found ++ record { name = f.name; type_ = ty } ∷ []) done) (h f.type_oid)
      (λ ty. finding-fields search h columns rows (found ++ record { name = f.name; type_ = ty } ∷ []) done last)) (field_row columns cells)
    where
      each : FieldRow → Dialogue T
      each f = then_do (search f.type_oid) (λ ty. fields_by search columns rows (found ++ record { name = f.name; type_ = ty } ∷ []) done)

  -- ---- types

  kept-told : (r : Reply) → EachAsked P (kept_told r)
  kept-told (reply.Type (Some ty)) = tt
  kept-told (reply.Type None) = tt
  kept-told other = tt

  keeping : (oid : ℕ) (row : TypeRow) (kind : Kind) → EachAsked P (keeps oid row kind)
  keeping oid row kind = (grants.set_type oid (record { name = row.name; oid = oid; kind = kind; schema = row.schema }) refl, λ e. tt, kept-told)

  making : (search : ℕ → Dialogue PgType) → ((oid : ℕ) → EachAsked P (search oid)) → (oid : ℕ) (row : TypeRow) (sort : Sort) → EachAsked P (made_by search oid row sort)
  making search h oid row (lookup.Is kind) = keeping oid row kind
  making search h oid row lookup.Labels = thens P (labels_of oid) (λ labels. keeps oid row (EnumKind labels)) (finding-labels oid) (λ labels. keeping oid row (EnumKind labels))
  making search h oid row (lookup.Of wrap inner) = thens P (search inner) (λ ty. keeps oid row (wraps wrap ty)) (h inner) (λ ty. keeping oid row (wraps wrap ty))
  making search h oid row (lookup.Fields relation) = thens P (field_rows relation) (λ f. fields_by search f.columns f.rows [] (λ fields. keeps oid row (CompositeKind fields))) (finding-rows relation) (λ f.
      finding-fields search h f.columns f.rows [] (λ fields. keeps oid row (CompositeKind fields)) (λ fields. keeping oid row (CompositeKind fields)))

  unless-known : (may : Bool) (search : Dialogue PgType) → EachAsked P search → (o : Option PgType) → EachAsked P (unless_known may search o)
  unless-known may search h (Some ty) = tt
  unless-known true search h None = h
  unless-known false search h None = tt

  pub finding : (more : ℕ) (busy : List ℕ) (oid : ℕ) → EachAsked P (find more busy oid)
  finding zero busy oid = known-by oid (built_in_type oid) (unless_known false (Answer (Err UnexpectedMessage))) (unless-known false (Answer (Err UnexpectedMessage)) tt)
  finding (suc more) busy oid = known-by oid (built_in_type oid) (unless_known (not (is_among oid busy)) (then_do (row_of oid) search)) (unless-known (not (is_among oid busy)) (then_do (row_of oid) search)
      (thens P (row_of oid) search (finding-row oid) (λ row. making (find more (oid ∷ busy)) (finding more (oid ∷ busy)) oid row (sort_of row))))
    where
      search : TypeRow → Dialogue PgType
      search row = made_by (find more (oid ∷ busy)) oid row (sort_of row)

  finding-each : (search : ℕ → Dialogue PgType) → ((oid : ℕ) → EachAsked P (search oid)) → (oids : List ℕ) (found : List PgType) → EachAsked P (find_each search oids found)
  finding-each search h [] found = tt
  finding-each search h (oid ∷ oids) found = thens P (search oid) (λ ty. find_each search oids (found ++ ty ∷ [])) (h oid) (λ ty. finding-each search h oids (found ++ ty ∷ []))

  pub finding-all : (oids : List ℕ) → EachAsked P (find_all oids)
  finding-all oids = finding-each (find 64 []) (finding 64 []) oids []

  pub preparing-text : (text oids : List ℕ) → EachAsked P (prepare text oids)
  preparing-text text oids = preparing find_all finding-all text oids
