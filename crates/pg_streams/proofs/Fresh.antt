-- What asks before it reads anything: the number of the request that was read before counts for nothing. So it is with types that are found.
use Rattle.std.proofs.Common.{◌≡◌, ◌⊎◌, ℕ, zero, suc, List, [], ◌∷◌, ◌++◌, length, Bool, true, false, not, if◌then◌else◌, Option, Some, None, Result, Ok, Err, refl, sym, subst, inl, inr}
use Rattle.pg_spec.specs.Faults.{UnexpectedMessage}
use Rattle.pg_spec.specs.declared.stamps.Stamp.{Stamp}
use Rattle.pg_desk.specs.declared.event.DeskFault.{DeskFault}
use Rattle.pg_desk.specs.declared.event.Event.{Event}
use Rattle.pg_desk.specs.declared.event.Event.TheVariants as call
use Rattle.pg_types.specs.BuiltIns.{built_in_type}
use Rattle.pg_types.specs.declared.pg_type.PgType.{PgType}
use Rattle.pg_types.specs.declared.pg_type.Kind.{Kind, Enum as EnumKind, Composite as CompositeKind}
use Rattle.pg_types.specs.declared.pg_type.Field.{Field}
use Rattle.pg_types.specs.declared.error.Error.{Error}
use Rattle.pg_desk.specs.declared.column.Column.{Column}
use Rattle.pg_desk.specs.declared.statement.Described.{Described as Statement}
use Rattle.pg_desk.specs.declared.statement.Lookup.{Lookup}
use Rattle.pg_desk.specs.declared.statement.Lookup.TheVariants.{Info, Enum, Composite}
use Rattle.pg_query.specs.declared.desk_call.Reply.{Reply}
use Rattle.pg_query.specs.declared.desk_call.Reply.TheVariants as reply
use Rattle.pg_query.specs.Dialogue.{Dialogue, Answer, Ask, Call, Steps, Walks, after_reply}
use Rattle.pg_query.specs.Reading.{reads}
use Rattle.pg_query.specs.Scripts.{cleanup_of}
use Rattle.pg_core.specs.Behind.{behind}
use Rattle.pg_core.specs.Numbers.{draws, number_told}
use Rattle.pg_core.specs.Sequences.{or_answer, then_do}
use Rattle.pg_core.specs.Cells.{Cells, text_in, value_at}
use Rattle.pg_core.specs.Composing.{asks_for, or_encode}
use Rattle.pg_core.specs.Descriptions.{Description, description, oids_in}
use Rattle.pg_core.specs.Lookups.{FieldRow, FieldRows, Fields, Is, Labels, Of, Sort, TypeRow, field_row, field_rows, fields_by, find, find_all, find_each, is_among, is_unknown, keeps, keeps_statement, kept_told, labels_of, lookup_statement, lookup_text, made_by, oid_request, or_prepared, or_second, prepared, row_of, sort_of, statement_told, asks_oid, type_row, unknown_code, unless_known, wraps}
use Rattle.pg_core.specs.QueryReplies.{all_rows, first_row}
use Rattle.pg_core.specs.Prepares.{NewStatement, describes, known_or, known_types, needs_type, prepare_request, statement_of, type_told}

-- ---- before anything is read

abbrev pub IsFresh : {T : Type 0} → Dialogue T → Type 0
IsFresh (Answer r) = Unit {0}
IsFresh (Ask copying part d) = Unit {0}
IsFresh (Call q refused next) = ((e : Error) → IsFresh (refused e)) × ((r : Reply) → IsFresh (next r))
IsFresh other = ⊥

-- the same walk, where another request was read before: it ends at the same number, or at that one where nothing was asked
pub record Renumbered {T : Type 0} (stamp : Stamp) (d : Dialogue T) (id other : ℕ) (es : List Event) (end : Dialogue T) (n : ℕ) : Type 0 where
  pub reads : ℕ
  pub walked : Walks stamp d other es end reads
  pub same : (reads ≡ n) ⊎ IsFresh end

-- one step before it
stepped : {T : Type 0} (stamp : Stamp) (d mid : Dialogue T) (id m other : ℕ) (e : Event) (es : List Event) (end : Dialogue T) (n : ℕ) → Steps stamp d other e mid other → Renumbered stamp mid m other es end n → Renumbered stamp d id other (e ∷ es) end n
stepped stamp d mid id m other e es end n s k = record { reads = k.reads; walked = (mid, other, s, k.walked); same = k.same }

told-fresh : {T : Type 0} (refused : Error → Dialogue T) (next : Reply → Dialogue T) → ((e : Error) → IsFresh (refused e)) → ((r : Reply) → IsFresh (next r)) → (r : Result Reply DeskFault) → IsFresh (after_reply r refused next)
told-fresh refused next h k (Ok r) = k r
told-fresh refused next h k (Err e) = h _

pub renumber : {T : Type 0} (stamp : Stamp) (d : Dialogue T) (id other : ℕ) (es : List Event) (end : Dialogue T) (n : ℕ) → IsFresh d → Walks stamp d id es end n → Renumbered stamp d id other es end n
renumber {T} stamp d id other [] end n h w = record { reads = other; walked = (w.0, refl); same = inr (subst (λ (x : Dialogue T). IsFresh x) (sym w.0) h) }
renumber stamp (Ask copying part d) id other (call.Book stamp' part' copying' (Ok new) ∷ es) end n h (mid, m, s, w) = record { reads = n; walked = (mid, m, s, w); same = inl refl }
renumber {T} stamp (Ask copying part d) id other (call.Book stamp' part' copying' (Err e) ∷ es) end n h (mid, m, s, w) =
    stepped stamp (Ask copying part d) mid id m other (call.Book stamp' part' copying' (Err e)) es end n (s.0, s.1, s.2, s.3, refl)
    (renumber stamp mid m other es end n (subst (λ (x : Dialogue T). IsFresh x) (sym s.3) tt) w)
renumber stamp (Ask copying part d) id other (e ∷ es) end n h (mid, m, s, w) = absurd s
renumber {T} stamp (Call q refused next) id other (e ∷ es) end n h (mid, m, (r, told, is, same), w) =
    stepped stamp (Call q refused next) mid id m other e es end n (r, told, is, refl)
    (renumber stamp mid m other es end n (subst (λ (x : Dialogue T). IsFresh x) (sym is) (told-fresh refused next h.0 h.1 r)) w)
renumber stamp (Answer r) id other (e ∷ es) end n h (mid, m, s, w) = absurd s
renumber stamp _ id other (e ∷ es) end n h w = absurd h

-- ---- one behind another

pub fresh-behind : {A T : Type 0} (d : Dialogue A) (f : Result A Error → Dialogue T) → IsFresh d → ((r : Result A Error) → IsFresh (f r)) → IsFresh (behind [] d f)
fresh-behind (Answer r) f h k = k r
fresh-behind (Ask copying part d) f h k = tt
fresh-behind (Call q refused next) f h k = (λ e. fresh-behind (refused e) f (h.0 e) k, λ r. fresh-behind (next r) f (h.1 r) k)
fresh-behind _ f h k = absurd h

pub fresh-then : {A T : Type 0} (d : Dialogue A) (f : A → Dialogue T) → IsFresh d → ((x : A) → IsFresh (f x)) → IsFresh (then_do d f)
fresh-then {A} {T} d f h k = fresh-behind d (or_answer f) h by
  where
    by : (r : Result A Error) → IsFresh (or_answer f r)
    by (Ok x) = k x
    by (Err e) = tt

-- ---- types that are found

-- a request that is asked for, whatever comes behind it
behind-asked : {A T : Type 0} (request : Result (List ℕ) Error) (d : Dialogue A) (f : A → Dialogue T) → IsFresh (then_do (asks_for request d) f)
behind-asked (Ok part) d f = tt
behind-asked (Err e) d f = tt

asked : {T : Type 0} (request : Result (List ℕ) Error) (d : Dialogue T) → IsFresh (asks_for request d)
asked (Ok part) d = tt
asked (Err e) d = tt

known-fresh : {T : Type 0} (oid : ℕ) (o : Option PgType) (next : Option PgType → Dialogue T) → ((o : Option PgType) → IsFresh (next o)) → IsFresh (known_or oid o next)
known-fresh oid (Some ty) next h = h (Some ty)
known-fresh {T} oid None next h = (λ e. tt, by)
  where
    by : (r : Reply) → IsFresh (type_told next r)
    by (reply.Type found) = h found
    by other = tt

needs-fresh : {T : Type 0} (next : PgType → Dialogue T) → ((ty : PgType) → IsFresh (next ty)) → (o : Option PgType) → IsFresh (needs_type next o)
needs-fresh next h (Some ty) = h ty
needs-fresh next h None = tt

types-fresh : (oids : List ℕ) (found : List PgType) → IsFresh (known_types oids found)
types-fresh [] found = tt
types-fresh (oid ∷ oids) found =
    let next : PgType → Dialogue (List PgType) = λ ty. known_types oids (found ++ ty ∷ []) in
    known-fresh oid (built_in_type oid) (needs_type next) (needs-fresh next (λ ty. types-fresh oids (found ++ ty ∷ [])))

draws-fresh : IsFresh draws
draws-fresh = (λ e. tt, by)
  where
    by : (r : Reply) → IsFresh (number_told r)
    by (reply.Number n) = tt
    by reply.Spent = tt
    by other = tt

described-fresh : (text : List ℕ) → IsFresh (describes text [])
described-fresh text =
    let told : ℕ → Description → Dialogue NewStatement = λ n d. Answer (Ok (record { number = n; described = d })) in
    fresh-then draws (λ n. then_do (asks_for (or_encode (prepare_request n text [])) (reads true description)) (told n)) draws-fresh (λ n. behind-asked (or_encode (prepare_request n text [])) (reads true description) (told n))

prepared-fresh : (which : Lookup) (first : Bool) → IsFresh (prepared which first)
prepared-fresh which first =
    let made : NewStatement → List PgType → Dialogue Statement = λ s types. Answer (Ok (statement_of s types)) in
    fresh-then (describes (lookup_text which first) []) (λ s. then_do (known_types (oids_in s.described) []) (made s)) (described-fresh (lookup_text which first))
    (λ s. fresh-then (known_types (oids_in s.described) []) (made s) (types-fresh (oids_in s.described) []) (λ types. tt))

kept-fresh : (which : Lookup) (s : Statement) → IsFresh (keeps_statement which s)
kept-fresh which s = (λ e. tt, by)
  where
    by : (r : Reply) → IsFresh (statement_told r)
    by (reply.Statement (Some s)) = tt
    by other = tt

second-fresh : (which : Lookup) (r : Result Statement Error) → IsFresh (or_second which r)
second-fresh which (Ok s) = kept-fresh which s
second-fresh which (Err e) = by (is_unknown (unknown_code which) e)
  where
    by : (b : Bool) → IsFresh (if b then then_do (prepared which false) (keeps_statement which) else Answer (Err e))
    by true = fresh-then (prepared which false) (keeps_statement which) (prepared-fresh which false) (kept-fresh which)
    by false = tt

lookup-fresh : (which : Lookup) → IsFresh (lookup_statement which)
lookup-fresh which = (λ e. tt, by)
  where
    by : (r : Reply) → IsFresh (or_prepared which r)
    by (reply.Statement (Some s)) = tt
    by (reply.Statement None) = fresh-behind (prepared which true) (or_second which) (prepared-fresh which true) (second-fresh which)
    by other = tt

keeps-fresh : (oid : ℕ) (row : TypeRow) (kind : Kind) → IsFresh (keeps oid row kind)
keeps-fresh oid row kind = (λ e. tt, by)
  where
    by : (r : Reply) → IsFresh (kept_told r)
    by (reply.Type (Some ty)) = tt
    by other = tt

-- what is asked by the statement that looks something up
asks-fresh : {T : Type 0} (which : Lookup) (oid : ℕ) (reading : Statement → Dialogue T) → IsFresh (then_do (lookup_statement which) (λ s. asks_oid s oid (reading s)))
asks-fresh which oid reading = fresh-then (lookup_statement which) (λ s. asks_oid s oid (reading s)) (lookup-fresh which) (λ s. asked (oid_request s.name s.params oid) (reading s))

rows-fresh : (relation : ℕ) → IsFresh (field_rows relation)
rows-fresh relation =
    let told : Statement → List Cells → Dialogue FieldRows = λ s rows. Answer (Ok (record { columns = s.columns; rows = rows })) in
    let reading : Statement → Dialogue (List Cells) = λ s. reads false (all_rows (λ cells. Ok cells) (length s.columns)) in
    fresh-then (lookup_statement Composite) (λ s. then_do (asks_oid s relation (reading s)) (told s)) (lookup-fresh Composite) (λ s. behind-asked (oid_request s.name s.params relation) (reading s) (told s))

row-fresh : {A T : Type 0} (r : Result A Error) (f : A → Dialogue T) → ((x : A) → IsFresh (f x)) → IsFresh (or_answer f r)
row-fresh (Ok x) f h = h x
row-fresh (Err e) f h = tt

module _ (finds : ℕ → Dialogue PgType) (fresh : (oid : ℕ) → IsFresh (finds oid)) where
  fields-fresh : {T : Type 0} (columns : List Column) (rows : List Cells) (found : List Field) (done : List Field → Dialogue T) → ((fields : List Field) → IsFresh (done fields)) → IsFresh (fields_by finds columns rows found done)
  fields-fresh columns [] found done h = h found
  fields-fresh {T} columns (cells ∷ rows) found done h =
      let more : FieldRow → PgType → Dialogue T = λ f ty. fields_by finds columns rows (found ++ record { name = f.name; type_ = ty } ∷ []) done in
      row-fresh (field_row columns cells) (λ f. then_do (finds f.type_oid) (more f)) (λ f. fresh-then (finds f.type_oid) (more f) (fresh f.type_oid) (λ ty. fields-fresh columns rows (found ++ record { name = f.name; type_ = ty } ∷ []) done h))

  made-fresh : (oid : ℕ) (row : TypeRow) (sort : Sort) → IsFresh (made_by finds oid row sort)
  made-fresh oid row (Is kind) = keeps-fresh oid row kind
  made-fresh oid row Labels =
      fresh-then (labels_of oid) (λ labels. keeps oid row (EnumKind labels)) (asks-fresh Enum oid (λ s. reads false (all_rows (λ cells. value_at text_in s.columns cells 0) (length s.columns)))) (λ labels. keeps-fresh oid row (EnumKind labels))
  made-fresh oid row (Of wrap inner) = fresh-then (finds inner) (λ ty. keeps oid row (wraps wrap ty)) (fresh inner) (λ ty. keeps-fresh oid row (wraps wrap ty))
  made-fresh oid row (Fields relation) =
      fresh-then (field_rows relation) (λ f. fields_by finds f.columns f.rows [] (λ fields. keeps oid row (CompositeKind fields))) (rows-fresh relation)
      (λ f. fields-fresh f.columns f.rows [] (λ fields. keeps oid row (CompositeKind fields)) (λ fields. keeps-fresh oid row (CompositeKind fields)))

unless-fresh : (may : Bool) (search : Dialogue PgType) → IsFresh search → (o : Option PgType) → IsFresh (unless_known may search o)
unless-fresh may search h (Some ty) = tt
unless-fresh true search h None = h
unless-fresh false search h None = tt

find-fresh : (more : ℕ) (busy : List ℕ) (oid : ℕ) → IsFresh (find more busy oid)
find-fresh zero busy oid = known-fresh oid (built_in_type oid) (unless_known false (Answer (Err UnexpectedMessage))) (unless-fresh false (Answer (Err UnexpectedMessage)) tt)
find-fresh (suc more) busy oid =
    let made : TypeRow → Dialogue PgType = λ row. made_by (find more (oid ∷ busy)) oid row (sort_of row) in
    let search : Dialogue PgType = then_do (row_of oid) made in
    known-fresh oid (built_in_type oid) (unless_known (not (is_among oid busy)) search)
    (unless-fresh (not (is_among oid busy)) search (fresh-then (row_of oid) made (asks-fresh Info oid (λ s. reads true (first_row (type_row s.columns) (length s.columns)))) (λ row. made-fresh (find more (oid ∷ busy)) (find-fresh more (oid ∷ busy)) oid row (sort_of row))))

each-fresh : (oids : List ℕ) (found : List PgType) → IsFresh (find_each (find 64 []) oids found)
each-fresh [] found = tt
each-fresh (oid ∷ oids) found = fresh-then (find 64 [] oid) (λ ty. find_each (find 64 []) oids (found ++ ty ∷ [])) (find-fresh 64 [] oid) (λ ty. each-fresh oids (found ++ ty ∷ []))

pub finds-fresh : (oids : List ℕ) → IsFresh (find_all oids)
finds-fresh oids = each-fresh oids []

-- ---- what is left to do

-- nothing, before anything is read
pub fresh-clean : {T : Type 0} (d : Dialogue T) → IsFresh d → cleanup_of d ≡ []
fresh-clean (Answer r) h = refl
fresh-clean (Ask copying part d) h = refl
fresh-clean (Call q refused next) h = refl
fresh-clean _ h = absurd h
