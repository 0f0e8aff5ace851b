-- Types are kept by lookups alone, the innermost first.
use Rattle.std.proofs.Common.{◌≡◌, ◌⊎◌, inl, inr, ℕ, zero, suc, List, [], ◌∷◌, ◌++◌, length, map, take, drop, Bool, true, false, not, if◌then◌else◌, Option, Some, None, Result, Ok, Err, refl, sym, ap, subst}
use Rattle.std.proofs.lemmas.Bool.{eq-eqb}
use Rattle.std.proofs.lemmas.Option.{same_Some}
use Rattle.std.specs.Option.{IsSomeAnd, option_and_then}
use Rattle.std.specs.Prelude.{IsSome, zip}
use Rattle.pg_spec.specs.Bodies.{Field as Column}
use Rattle.pg_spec.specs.Courses.{Met, Outcome, first_reply, nothing_yet, outcome, past_reply, with_question}
use Rattle.pg_spec.specs.Dialogues.{decided_after}
use Rattle.pg_spec.specs.Faults.{UnexpectedMessage}
use Rattle.pg_spec.specs.RawMessages.{RawMessage}
use Rattle.pg_types.specs.BuiltIns.{built_in_type}
use Rattle.pg_types.specs.declared.error.Error.{Error}
use Rattle.pg_types.specs.declared.pg_type.Field.{Field}
use Rattle.pg_types.specs.declared.pg_type.Kind.{Kind, Enum as EnumKind, Composite as CompositeKind}
use Rattle.pg_types.specs.declared.pg_type.PgType.{PgType}
use Rattle.pg_execute.specs.Parameters.{Params}
use Rattle.pg_desk.specs.declared.column.Column as desk
use Rattle.pg_desk.specs.declared.statement.Described.{Described as Statement}
use Rattle.pg_desk.specs.declared.statement.Lookup.{Lookup}
use Rattle.pg_desk.specs.declared.statement.Lookup.TheVariants.{Info, Enum, Composite}
use Rattle.pg_query.specs.Dialogue.{Dialogue, Answer, Ask, Send, Leave, Read, Put, Finish, Close, HangUp, Call, Hear}
use Rattle.pg_query.specs.Reading.{ends, reads}
use Rattle.pg_query.specs.declared.desk_call.Cleanup.{Cleanup}
use Rattle.pg_query.specs.declared.desk_call.DeskCall.{DeskCall}
use Rattle.pg_query.specs.declared.desk_call.DeskCall.TheVariants.{TypeOf}
use Rattle.pg_query.specs.declared.desk_call.Reply.{Reply}
use Rattle.pg_query.specs.declared.desk_call.Reply.TheVariants as reply
use Rattle.pg_core.specs.Behind.{behind}
use Rattle.pg_core.specs.Cells.{Cells, text_in, value_at}
use Rattle.pg_core.specs.Composing.{asks_for, or_encode}
use Rattle.pg_core.specs.Descriptions.{Description, description, oids_in}
use Rattle.pg_core.specs.Lookups as lookup
use Rattle.pg_core.specs.Lookups.{FieldRow, FieldRows, Sort, TypeRow, asks_oid, field_row, field_rows, fields_by, find, find_all, find_each, is_among, is_unknown, keeps, keeps_statement, kept_told, labels_of, lookup_statement, lookup_text, made_by, oid_request, or_prepared, or_second, prepare, prepared, row_of, sort_of, statement_told, type_row, unknown_code, unless_known, wraps}
use Rattle.pg_core.specs.Numbers.{draws, number_told}
use Rattle.pg_core.specs.Outcomes.{asked}
use Rattle.pg_core.specs.Prepares.{NewStatement, describes, known_or, known_types, needs_type, prepare_request, statement_of, type_told}
use Rattle.pg_core.specs.QueryReplies.{all_rows, first_row}
use Rattle.pg_core.specs.Sequences.{or_answer, then_do}
use Rattle.pg_execute.specs.Typed as typed
use Rattle.pg_execute.specs.Typed.{all_known, behind_head, head, or_else, query_typed, takes_rest, told_or, typed_request, typed_rows}
use Rattle.pg_execute.specs.declared.how_many.HowMany.{HowMany}
use Rattle.pg_execute.specs.declared.result_set.ResultSet.{ResultSet}
use Rattle.pg_query_laws.specs.Kept.{KeepsByLookups, comes_of, begun_behind, told_in, under_way}

-- ---- lookups that are under way along a dialogue

-- where these are, each type that is kept ends the innermost, and P of those left and of what is answered
abbrev Nested : {T : Type 0} → (List ℕ → Result T Error → Type 0) → List ℕ → Dialogue T → Type 0
Nested P begun (Answer r) = P begun r
Nested P begun (Ask copying part d) = Nested P begun d
Nested P begun (Send part refused d) = Nested P begun d
Nested P begun (Leave id d) = Nested P begun d
Nested P begun (Read cleanup decides next) = (ms : List RawMessage) → Nested P begun (next ms)
Nested P begun (Put cleanup part d) = Nested P begun d
Nested P begun (Finish part d) = Nested P begun d
Nested P begun (Close part d) = Nested P begun d
Nested P begun (HangUp d) = Nested P begun d
Nested P begun (Call q refused next) = (r : Reply) → IsSomeAnd (begun_behind q r begun) (λ o. Nested P o (next r))
Nested P begun (Hear next) = ⊥

some-more : {X : Type 0} (P Q : X → Type 0) → ((x : X) → P x → Q x) → (o : Option X) → IsSomeAnd o P → IsSomeAnd o Q
some-more P Q f None h = absurd h
some-more P Q f (Some x) h = f x h

-- so it is of what comes of it
abbrev Left : {T : Type 0} → (List ℕ → Result T Error → Type 0) → List ℕ → Outcome DeskCall (Result T Error) → List Reply → Type 0
Left {T} P begun o told = IsSomeAnd (under_way begun (zip o.asked told)) (λ left. (r : Result T Error) → o.answer ≡ Some r → P left r)

nested-so : {T : Type 0} (P : List ℕ → Result T Error → Type 0) (begun : List ℕ) (d : Dialogue T) → Nested P begun d → (met : Met Reply) (left : List RawMessage) → Left P begun (outcome (asked d) met left) met.told
nested-so P begun (Answer r) h met left = λ x e. subst (P begun) (same_Some r x e) h
nested-so P begun (Ask copying part d) h met left = nested-so P begun d h (past_reply met) (first_reply met.replies)
nested-so P begun (Send part refused d) h met left = nested-so P begun d h (past_reply met) left
nested-so P begun (Leave id d) h met left = nested-so P begun d h met left
nested-so {T} P begun (Read cleanup decides next) h met left = by (decided_after decides left) (λ n. nested-so P begun (next (take n left)) (h (take n left)) met (drop n left))
  where
    by : (o : Option ℕ) → ((n : ℕ) → Left P begun (outcome (asked (next (take n left))) met (drop n left)) met.told) →
        Left P begun (elim o as (λ _. Outcome DeskCall (Result T Error)) [ None ↦ nothing_yet | Some n ↦ outcome (asked (next (take n left))) met (drop n left) ]) met.told
    by None k = λ x e. absurd cc
    by (Some n) k = k n
nested-so P begun (Put cleanup part d) h met left = nested-so P begun d h met left
nested-so P begun (Finish part d) h met left = nested-so P begun d h met left
nested-so P begun (Close part d) h met left = nested-so P begun d h met left
nested-so P begun (HangUp d) h met left = nested-so P begun d h met left
nested-so {T} P begun (Call q refused next) h met left = by met.told (λ o r more k. nested-so P o (next r) k (record { replies = met.replies; told = more }) left)
  where
    out : Reply → List Reply → Outcome DeskCall (Result T Error)
    out r more = outcome (asked (next r)) (record { replies = met.replies; told = more }) left

    on : (r : Reply) (more : List Reply) → ((o : List ℕ) → Nested P o (next r) → Left P o (out r more) more) → (o : Option (List ℕ)) → IsSomeAnd o (λ o. Nested P o (next r)) →
        IsSomeAnd (option_and_then (λ o. under_way o (zip (out r more).asked more)) o) (λ left. (x : Result T Error) → (out r more).answer ≡ Some x → P left x)
    on r more k None n = absurd n
    on r more k (Some o) n = k o n

    by : (told : List Reply) → ((o : List ℕ) (r : Reply) (more : List Reply) → Nested P o (next r) → Left P o (out r more) more) →
        Left P begun (elim told as (λ _. Outcome DeskCall (Result T Error)) [ [] ↦ nothing_yet | r ∷ more ↦ with_question q (outcome (asked (next r)) (record { replies = met.replies; told = more }) left) ]) told
    by [] k = λ x e. absurd cc
    by (r ∷ more) k = on r more (λ o n. k o r more n) (begun_behind q r begun) (h r)
nested-so P begun (Hear next) h met left = absurd h

-- one behind another
nested-behind : {A T : Type 0} (Q : List ℕ → Result A Error → Type 0) (P : List ℕ → Result T Error → Type 0) (extra : List Cleanup) (f : Result A Error → Dialogue T) → ((o : List ℕ) (r : Result A Error) → Q o r → Nested P o (f r)) →
    (begun : List ℕ) (d : Dialogue A) → Nested Q begun d → Nested P begun (behind extra d f)
nested-behind Q P extra f later begun (Answer r) h = later begun r h
nested-behind Q P extra f later begun (Ask copying part d) h = nested-behind Q P extra f later begun d h
nested-behind Q P extra f later begun (Send part refused d) h = nested-behind Q P extra f later begun d h
nested-behind Q P extra f later begun (Leave id d) h = nested-behind Q P extra f later begun d h
nested-behind Q P extra f later begun (Read cleanup decides next) h = λ ms. nested-behind Q P extra f later begun (next ms) (h ms)
nested-behind Q P extra f later begun (Put cleanup part d) h = nested-behind Q P extra f later begun d h
nested-behind Q P extra f later begun (Finish part d) h = nested-behind Q P extra f later begun d h
nested-behind Q P extra f later begun (Close part d) h = nested-behind Q P extra f later begun d h
nested-behind Q P extra f later begun (HangUp d) h = nested-behind Q P extra f later begun d h
nested-behind Q P extra f later begun (Call q refused next) h =
    λ r. some-more (λ o. Nested Q o (next r)) (λ o. Nested P o (behind extra (next r) f)) (λ o n. nested-behind Q P extra f later o (next r) n) (begun_behind q r begun) (h r)
nested-behind Q P extra f later begun (Hear next) h = absurd h

-- ---- what leaves no lookup under way

-- a value leaves these, and an error too but where a type must be known
abbrev Leaves : {A : Type 0} → List ℕ → List ℕ → Result A Error → Type 0
Leaves begun o (Ok x) = o ≡ begun
Leaves begun o (Err e) = (o ≡ begun) ⊎ (e ≡ UnexpectedMessage)

-- a value does
abbrev Ends : {A : Type 0} → List ℕ → List ℕ → Result A Error → Type 0
Ends begun o (Ok x) = o ≡ begun
Ends begun o (Err e) = Unit {0}

leaves-then : {A T : Type 0} (begun : List ℕ) (d : Dialogue A) (f : A → Dialogue T) → Nested (Leaves begun) begun d → ((x : A) → Nested (Leaves begun) begun (f x)) → Nested (Leaves begun) begun (then_do d f)
leaves-then {A} {T} begun d f h later = nested-behind (Leaves begun) (Leaves begun) [] (or_answer f) by begun d h
  where
    by : (o : List ℕ) (r : Result A Error) → Leaves begun o r → Nested (Leaves begun) o (or_answer f r)
    by o (Ok x) same = subst (λ (z : List ℕ). Nested (Leaves begun) z (f x)) (sym same) (later x)
    by o (Err e) left = left

-- what leaves them, and then one that ends others
leaves-end : {A T : Type 0} (ends begun : List ℕ) (d : Dialogue A) (f : A → Dialogue T) → Nested (Leaves begun) begun d → ((x : A) → Nested (Ends ends) begun (f x)) → Nested (Ends ends) begun (then_do d f)
leaves-end {A} {T} ends begun d f h later = nested-behind (Leaves begun) (Ends ends) [] (or_answer f) by begun d h
  where
    by : (o : List ℕ) (r : Result A Error) → Leaves begun o r → Nested (Ends ends) o (or_answer f r)
    by o (Ok x) same = subst (λ (z : List ℕ). Nested (Ends ends) z (f x)) (sym same) (later x)
    by o (Err e) left = tt

ends-end : {A T : Type 0} (ends begun : List ℕ) (d : Dialogue A) (f : A → Dialogue T) → Nested (Ends begun) begun d → ((x : A) → Nested (Ends ends) begun (f x)) → Nested (Ends ends) begun (then_do d f)
ends-end {A} {T} ends begun d f h later = nested-behind (Ends begun) (Ends ends) [] (or_answer f) by begun d h
  where
    by : (o : List ℕ) (r : Result A Error) → Ends begun o r → Nested (Ends ends) o (or_answer f r)
    by o (Ok x) same = subst (λ (z : List ℕ). Nested (Ends ends) z (f x)) (sym same) (later x)
    by o (Err e) left = tt

booked : {T : Type 0} (begun : List ℕ) (part : Result (List ℕ) Error) (d : Dialogue T) → Nested (Leaves begun) begun d → Nested (Leaves begun) begun (asks_for part d)
booked begun (Ok part) d h = h
booked begun (Err e) d h = inl refl

ended : {T : Type 0} (begun : List ℕ) (stops : Bool) (o : Option (Result T Error)) → Nested (Leaves begun) begun (ends stops o)
ended begun true (Some (Ok x)) = refl
ended begun false (Some (Ok x)) = refl
ended begun stops (Some (Err e)) = inl refl
ended begun stops None = inl refl

read : {T : Type 0} (begun : List ℕ) (stops : Bool) (reading : List RawMessage → Option (Result T Error)) → Nested (Leaves begun) begun (reads stops reading)
read begun stops reading = λ ms. ended begun stops (reading ms)

module _ (begun : List ℕ) where
  -- ---- a text is prepared

  number-told : (r : Reply) → Nested (Leaves begun) begun (number_told r)
  number-told (reply.Number n) = refl
  number-told other = inl refl

  abbrev described_as : ℕ → Description → Dialogue NewStatement
  described_as n d = Answer (Ok (record { number = n; described = d }))

  abbrev sent_as : (text oids : List ℕ) → ℕ → Dialogue NewStatement
  sent_as text oids n = then_do (asks_for (or_encode (prepare_request n text oids)) (reads true description)) (described_as n)

  describing : (text oids : List ℕ) → Nested (Leaves begun) begun (describes text oids)
  describing text oids = leaves-then begun draws (sent_as text oids) number-told (λ n.
      leaves-then begun (asks_for (or_encode (prepare_request n text oids)) (reads true description)) (described_as n)
      (booked begun (or_encode (prepare_request n text oids)) (reads true description) (read begun true description)) (λ d. refl))

  abbrev stated : NewStatement → List PgType → Dialogue Statement
  stated s types = Answer (Ok (statement_of s types))

  abbrev typed_by : (List ℕ → Dialogue (List PgType)) → NewStatement → Dialogue Statement
  typed_by search s = then_do (search (oids_in s.described)) (stated s)

  -- ---- types that must be known

  abbrev known_next : List ℕ → List PgType → Option PgType → Dialogue (List PgType)
  known_next oids found = needs_type (λ ty. known_types oids (found ++ ty ∷ []))

  known-told : (oid : ℕ) (next : Option PgType → Dialogue (List PgType)) → ((ty : PgType) → Nested (Leaves begun) begun (next (Some ty))) → Nested (Leaves begun) (oid ∷ begun) (next None) →
      (r : Reply) → IsSomeAnd (begun_behind (TypeOf oid) r begun) (λ o. Nested (Leaves begun) o (type_told next r))
  known-told oid next h n (reply.Type (Some ty)) = h ty
  known-told oid next h n (reply.Type None) = n
  known-told oid next h n other = inl refl

  known-by : (oid : ℕ) (o : Option PgType) (next : Option PgType → Dialogue (List PgType)) → ((ty : PgType) → Nested (Leaves begun) begun (next (Some ty))) → Nested (Leaves begun) (oid ∷ begun) (next None) →
      Nested (Leaves begun) begun (known_or oid o next)
  known-by oid (Some ty) next h n = h ty
  known-by oid None next h n = known-told oid next h n

  all-known : (oids : List ℕ) (found : List PgType) → Nested (Leaves begun) begun (known_types oids found)
  all-known [] found = refl
  all-known (oid ∷ oids) found = known-by oid (built_in_type oid) (known_next oids found) (λ ty. all-known oids (found ++ ty ∷ [])) (inr refl)

  -- ---- the statements that look types up

  statement-told : (r : Reply) → Nested (Leaves begun) begun (statement_told r)
  statement-told (reply.Statement (Some s)) = refl
  statement-told (reply.Statement None) = inl refl
  statement-told other = inl refl

  keeping-statement : (which : Lookup) (s : Statement) → Nested (Leaves begun) begun (keeps_statement which s)
  keeping-statement which s = statement-told

  preparing-lookup : (which : Lookup) (first : Bool) → Nested (Leaves begun) begun (prepared which first)
  preparing-lookup which first =
      leaves-then begun (describes (lookup_text which first) []) (typed_by (λ found. known_types found [])) (describing (lookup_text which first) [])
      (λ s. leaves-then begun (known_types (oids_in s.described) []) (stated s) (all-known (oids_in s.described) []) (λ types. refl))

  or-second : (which : Lookup) (o : List ℕ) (r : Result Statement Error) → Leaves begun o r → Nested (Leaves begun) o (or_second which r)
  or-second which o (Ok s) same = subst (λ (z : List ℕ). Nested (Leaves begun) z (keeps_statement which s)) (sym same) (keeping-statement which s)
  or-second which o (Err e) (inl same) = subst (λ (z : List ℕ). Nested (Leaves begun) z (or_second which (Err e))) (sym same) (by (is_unknown (unknown_code which) e))
    where
      by : (b : Bool) → Nested (Leaves begun) begun (if b then then_do (prepared which false) (keeps_statement which) else Answer (Err e))
      by true = leaves-then begun (prepared which false) (keeps_statement which) (preparing-lookup which false) (keeping-statement which)
      by false = inl refl
  or-second which o (Err e) (inr known) = subst (λ (z : Error). Nested (Leaves begun) o (or_second which (Err z))) (sym known) (unexpected which)
    where
      unexpected : (which : Lookup) → Nested (Leaves begun) o (or_second which (Err UnexpectedMessage))
      unexpected Info = inr refl
      unexpected Enum = inr refl
      unexpected Composite = inr refl

  or-prepared : (which : Lookup) (r : Reply) → Nested (Leaves begun) begun (or_prepared which r)
  or-prepared which (reply.Statement (Some s)) = refl
  or-prepared which (reply.Statement None) = nested-behind (Leaves begun) (Leaves begun) [] (or_second which) (or-second which) begun (prepared which true) (preparing-lookup which true)
  or-prepared which other = inl refl

  looking-up : (which : Lookup) → Nested (Leaves begun) begun (lookup_statement which)
  looking-up which = or-prepared which

  asking : {T : Type 0} (s : Statement) (oid : ℕ) (d : Dialogue T) → Nested (Leaves begun) begun d → Nested (Leaves begun) begun (asks_oid s oid d)
  asking s oid d h = booked begun (oid_request s.name s.params oid) d h

  -- ---- a type's own row, labels and fields

  abbrev row_by : ℕ → Statement → Dialogue TypeRow
  row_by oid s = asks_oid s oid (reads true (first_row (type_row s.columns) (length s.columns)))

  finding-row : (oid : ℕ) → Nested (Leaves begun) begun (row_of oid)
  finding-row oid = leaves-then begun (lookup_statement Info) (row_by oid) (looking-up Info) (λ s.
      asking s oid (reads true (first_row (type_row s.columns) (length s.columns))) (read begun true (first_row (type_row s.columns) (length s.columns))))

  abbrev label_in : Statement → Cells → Result (List ℕ) Error
  label_in s cells = value_at text_in s.columns cells 0

  abbrev labels_by : ℕ → Statement → Dialogue (List (List ℕ))
  labels_by oid s = asks_oid s oid (reads false (all_rows (label_in s) (length s.columns)))

  finding-labels : (oid : ℕ) → Nested (Leaves begun) begun (labels_of oid)
  finding-labels oid = leaves-then begun (lookup_statement Enum) (labels_by oid) (looking-up Enum) (λ s.
      asking s oid (reads false (all_rows (label_in s) (length s.columns))) (read begun false (all_rows (label_in s) (length s.columns))))

  abbrev as_it_is : Cells → Result Cells Error
  as_it_is cells = Ok cells

  abbrev with_columns : Statement → List Cells → Dialogue FieldRows
  with_columns s rows = Answer (Ok (record { columns = s.columns; rows = rows }))

  abbrev rows_by : ℕ → Statement → Dialogue FieldRows
  rows_by relation s = then_do (asks_oid s relation (reads false (all_rows as_it_is (length s.columns)))) (with_columns s)

  finding-rows : (relation : ℕ) → Nested (Leaves begun) begun (field_rows relation)
  finding-rows relation = leaves-then begun (lookup_statement Composite) (rows_by relation) (looking-up Composite) (λ s.
      leaves-then begun (asks_oid s relation (reads false (all_rows as_it_is (length s.columns)))) (with_columns s)
      (asking s relation (reads false (all_rows as_it_is (length s.columns))) (read begun false (all_rows as_it_is (length s.columns)))) (λ rows. refl))

-- ---- types

-- a type is kept, which ends its lookup
module _ (begun : List ℕ) (oid : ℕ) where
  kept-told : (r : Reply) → Nested (Ends begun) begun (kept_told r)
  kept-told (reply.Type (Some ty)) = refl
  kept-told (reply.Type None) = tt
  kept-told other = tt

  keeping : (row : TypeRow) (kind : Kind) → Nested (Ends begun) (oid ∷ begun) (keeps oid row kind)
  keeping row kind = λ r. subst (λ (b : Bool). IsSomeAnd (if b then Some begun else None) (λ o. Nested (Ends begun) o (kept_told r))) (sym (eq-eqb oid oid refl)) (kept-told r)

  module _ (search : ℕ → Dialogue PgType) (h : (inner : ℕ) → Nested (Ends (oid ∷ begun)) (oid ∷ begun) (search inner)) where
    finding-fields : (columns : List desk.Column) (rows : List Cells) (found : List Field) (done : List Field → Dialogue PgType) → ((fields : List Field) → Nested (Ends begun) (oid ∷ begun) (done fields)) →
        Nested (Ends begun) (oid ∷ begun) (fields_by search columns rows found done)
    finding-fields columns [] found done last = last found
    finding-fields columns (cells ∷ rows) found done last = by (λ f ty. finding-fields columns rows (found ++ record { name = f.name; type_ = ty } ∷ []) done last) (field_row columns cells)
      where
        rest : FieldRow → PgType → Dialogue PgType
        rest f ty = fields_by search columns rows (found ++ record { name = f.name; type_ = ty } ∷ []) done

        each : FieldRow → Dialogue PgType
        each f = then_do (search f.type_oid) (rest f)

        by : ((f : FieldRow) (ty : PgType) → Nested (Ends begun) (oid ∷ begun) (rest f ty)) → (r : Result FieldRow Error) → Nested (Ends begun) (oid ∷ begun) (or_answer each r)
        by again (Ok f) = ends-end begun (oid ∷ begun) (search f.type_oid) (rest f) (h f.type_oid) (again f)
        by again (Err e) = tt

    making : (row : TypeRow) (sort : Sort) → Nested (Ends begun) (oid ∷ begun) (made_by search oid row sort)
    making row (lookup.Is kind) = keeping row kind
    making row lookup.Labels = leaves-end begun (oid ∷ begun) (labels_of oid) (λ labels. keeps oid row (EnumKind labels)) (finding-labels (oid ∷ begun) oid) (λ labels. keeping row (EnumKind labels))
    making row (lookup.Of wrap inner) = ends-end begun (oid ∷ begun) (search inner) (λ ty. keeps oid row (wraps wrap ty)) (h inner) (λ ty. keeping row (wraps wrap ty))
    making row (lookup.Fields relation) = leaves-end begun (oid ∷ begun) (field_rows relation) (λ f. fields_by search f.columns f.rows [] (λ fields. keeps oid row (CompositeKind fields))) (finding-rows (oid ∷ begun) relation)
        (λ f. finding-fields f.columns f.rows [] (λ fields. keeps oid row (CompositeKind fields)) (λ fields. keeping row (CompositeKind fields)))

  -- a type that is known, or one that is searched for
  module _ (may : Bool) (search : Dialogue PgType) (h : Nested (Ends begun) (oid ∷ begun) search) where
    unknown : (b : Bool) → Nested (Ends begun) (oid ∷ begun) (unless_known b search None)
    unknown true = h
    unknown false = tt

    type-told-so : (r : Reply) → IsSomeAnd (begun_behind (TypeOf oid) r begun) (λ o. Nested (Ends begun) o (type_told (unless_known may search) r))
    type-told-so (reply.Type (Some ty)) = refl
    type-told-so (reply.Type None) = unknown may
    type-told-so other = tt

    searching : (o : Option PgType) → Nested (Ends begun) begun (known_or oid o (unless_known may search))
    searching (Some ty) = refl
    searching None = type-told-so

finding : (more : ℕ) (busy : List ℕ) (oid : ℕ) (begun : List ℕ) → Nested (Ends begun) begun (find more busy oid)
finding zero busy oid begun = searching begun oid false (Answer (Err UnexpectedMessage)) tt (built_in_type oid)
finding (suc more) busy oid begun = searching begun oid (not (is_among oid busy)) (then_do (row_of oid) search)
    (leaves-end begun (oid ∷ begun) (row_of oid) search (finding-row (oid ∷ begun) oid) (λ row. making begun oid (find more (oid ∷ busy)) (λ inner. finding more (oid ∷ busy) inner (oid ∷ begun)) row (sort_of row))) (built_in_type oid)
  where
    search : TypeRow → Dialogue PgType
    search row = made_by (find more (oid ∷ busy)) oid row (sort_of row)

finding-each : (begun oids : List ℕ) (found : List PgType) → Nested (Ends begun) begun (find_each (find 64 []) oids found)
finding-each begun [] found = refl
finding-each begun (oid ∷ oids) found = ends-end begun begun (find 64 [] oid) (λ ty. find_each (find 64 []) oids (found ++ ty ∷ [])) (finding 64 [] oid begun) (λ ty. finding-each begun oids (found ++ ty ∷ []))

preparing : (begun text oids : List ℕ) → Nested (Ends begun) begun (prepare text oids)
preparing begun text oids = leaves-end begun begun (describes text oids) (typed_by begun find_all) (describing begun text oids) (λ s.
    ends-end begun begun (find_all (oids_in s.described)) (stated begun s) (finding-each begun (oids_in s.described) []) (λ types. refl))

-- ---- what comes of them

kept-by : {T : Type 0} (d : Dialogue T) → Nested (Ends []) [] d → (met : Met Reply) → KeepsByLookups d met
kept-by {T} d h met = record { nested = (by (under_way [] (told_in d met)) (nested-so (Ends []) [] d h met [])).0; ended = (by (under_way [] (told_in d met)) (nested-so (Ends []) [] d h met [])).1 }
  where
    by : (o : Option (List ℕ)) → IsSomeAnd o (λ left. (r : Result T Error) → (comes_of d met).answer ≡ Some r → Ends [] left r) → IsSome o × ((x : T) → (comes_of d met).answer ≡ Some (Ok x) → o ≡ Some [])
    by None k = absurd k
    by (Some left) k = (refl, λ x e. ap (λ (l : List ℕ). let some : Option (List ℕ) = Some l in some) (k (Ok x) e))

pub find-nests : (more : ℕ) (busy : List ℕ) (oid : ℕ) (met : Met Reply) → KeepsByLookups (find more busy oid) met
find-nests more busy oid met = kept-by (find more busy oid) (finding more busy oid []) met

pub find-all-nests : (oids : List ℕ) (met : Met Reply) → KeepsByLookups (find_all oids) met
find-all-nests oids met = kept-by (find_all oids) (finding-each [] oids []) met

pub prepare-nests : (text oids : List ℕ) (met : Met Reply) → KeepsByLookups (prepare text oids) met
prepare-nests text oids met = kept-by (prepare text oids) (preparing [] text oids) met

-- ---- typed queries, which ask for types before they look any up

abbrev Any : {A : Type 0} → List ℕ → Result A Error → Type 0
Any o r = Unit {0}

leaves-any : {A T : Type 0} (begun : List ℕ) (d : Dialogue A) (f : A → Dialogue T) → Nested (Leaves begun) begun d → ((o : List ℕ) (x : A) → Nested Any o (f x)) → Nested Any begun (then_do d f)
leaves-any {A} {T} begun d f h later = nested-behind (Leaves begun) Any [] (or_answer f) by begun d h
  where
    by : (o : List ℕ) (r : Result A Error) → Leaves begun o r → Nested Any o (or_answer f r)
    by o (Ok x) same = later o x
    by o (Err e) left = tt

ends-any : {A T : Type 0} (begun : List ℕ) (d : Dialogue A) (f : A → Dialogue T) → Nested (Ends begun) begun d → ((o : List ℕ) (x : A) → Nested Any o (f x)) → Nested Any begun (then_do d f)
ends-any {A} {T} begun d f h later = nested-behind (Ends begun) Any [] (or_answer f) by begun d h
  where
    by : (o : List ℕ) (r : Result A Error) → Ends begun o r → Nested Any o (or_answer f r)
    by o (Ok x) same = later o x
    by o (Err e) left = tt

ended-any : {T : Type 0} (begun : List ℕ) (stops : Bool) (o : Option (Result T Error)) → Nested Any begun (ends stops o)
ended-any begun true (Some (Ok x)) = tt
ended-any begun false (Some (Ok x)) = tt
ended-any begun stops (Some (Err e)) = tt
ended-any begun stops None = tt

all-known-any : {T : Type 0} (later : Dialogue T) (next : List PgType → Dialogue T) → ((o : List ℕ) → Nested Any o later) → ((o : List ℕ) (types : List PgType) → Nested Any o (next types)) → (oids : List ℕ) (found : List PgType) (begun : List ℕ) →
    Nested Any begun (all_known later next oids found)
all-known-any later next l h [] found begun = h begun found
all-known-any {T} later next l h (oid ∷ oids) found begun = by (λ ty. all-known-any later next l h oids (found ++ ty ∷ []) begun) (built_in_type oid)
  where
    more : Option PgType → Dialogue T
    more = or_else later (λ ty. all_known later next oids (found ++ ty ∷ []))

    told : ((ty : PgType) → Nested Any begun (all_known later next oids (found ++ ty ∷ []))) → (r : Reply) → IsSomeAnd (begun_behind (TypeOf oid) r begun) (λ o. Nested Any o (typed.type_told more r))
    told k (reply.Type (Some ty)) = k ty
    told k (reply.Type None) = l (oid ∷ begun)
    told k other = tt

    by : ((ty : PgType) → Nested Any begun (all_known later next oids (found ++ ty ∷ []))) → (o : Option PgType) → Nested Any begun (typed.known_or oid o more)
    by k (Some ty) = k ty
    by k None = told k

taking-rest : (how : HowMany) (fields : List Column) (begun : List ℕ) → Nested Any begun (takes_rest find_all how fields)
taking-rest how fields begun = λ ms. ends-any begun (find_all (map (λ f. f.type_oid) fields)) (rows_of ms) (finding-each begun (map (λ f. f.type_oid) fields) []) (λ o types. tt)
  where
    rows_of : List RawMessage → List PgType → Dialogue ResultSet
    rows_of ms types = Answer (told_or (typed_rows how fields types ms))

heading : (how : HowMany) (fields : List Column) (begun : List ℕ) → Nested Any begun (behind_head find_all how fields)
heading how fields begun = all-known-any (takes_rest find_all how fields) (λ types. reads false (typed_rows how fields types)) (taking-rest how fields) (λ o types ms. ended-any o false (typed_rows how fields types ms)) (map (λ f. f.type_oid) fields) [] begun

booked-any : {T : Type 0} (begun : List ℕ) (part : Result (List ℕ) Error) (d : Dialogue T) → Nested Any begun d → Nested Any begun (asks_for part d)
booked-any begun (Ok part) d h = h
booked-any begun (Err e) d h = tt

pub typed-nests : (how : HowMany) (text : List ℕ) (types : List PgType) (vs : Params) (met : Met Reply) → IsSome (under_way [] (told_in (query_typed find_all how text types vs) met))
typed-nests how text types vs met =
    by (under_way [] (told_in (query_typed find_all how text types vs) met)) (nested-so Any [] (query_typed find_all how text types vs)
    (booked-any [] (typed_request text types vs) (then_do (reads false head) (behind_head find_all how)) (leaves-any [] (reads false head) (behind_head find_all how) (read [] false head) (λ o fields. heading how fields o))) met [])
  where
    by : (o : Option (List ℕ)) → IsSomeAnd o (λ left. (r : Result ResultSet Error) → (comes_of (query_typed find_all how text types vs) met).answer ≡ Some r → Unit {0}) → IsSome o
    by None k = absurd k
    by (Some left) k = refl
