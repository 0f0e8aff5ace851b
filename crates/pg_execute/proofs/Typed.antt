-- The parts of a typed query, put together, are what it asks and answers.
use Rattle.std.proofs.Common.{◌≡◌, ℕ, suc, List, [], ◌∷◌, ◌++◌, length, map, Bool, true, false, if◌then◌else◌, Option, Some, None, option_map, Result, Ok, Err, refl, sym, ap, ◌∙◌, arith}
use Rattle.pg_spec.specs.Bodies.{Field}
use Rattle.pg_spec.specs.Faults as spec
use Rattle.pg_spec.specs.RawMessages.{RawMessage}
use Rattle.pg_spec.specs.Readings.{Next, GoesOn, Answers, Decision, decision, decided_by, one_later}
use Rattle.pg_types.specs.declared.pg_type.PgType.{PgType}
use Rattle.pg_types.specs.BuiltIns.{built_in_type}
use Rattle.pg_types.specs.declared.error.Error.{Error}
use Rattle.pg_desk.specs.declared.statement.Described.{Described as Statement}
use Rattle.pg_query.specs.declared.desk_call.Cleanup.TheVariants.{Release}
use Rattle.pg_query.specs.declared.desk_call.DeskCall.TheVariants as desk_call
use Rattle.pg_query.specs.declared.desk_call.Reply.{Reply}
use Rattle.pg_query.specs.declared.desk_call.Reply.TheVariants as reply
use Rattle.pg_query.specs.Dialogue.{Dialogue, Answer, Call, HangUp, Read}
use Rattle.pg_query.specs.Reading.{reads}
use Rattle.pg_core.specs.Sequences.{then_do}
use Rattle.pg_core.specs.Composing.{asks_for}
use Rattle.pg_core.specs.Prepares.{columns_of}
use Rattle.pg_core.specs.QueryReplies.{Said, Bound, Row, Complete, Empty, Suspended, Ready, Fails, said_by, told_by}
use Rattle.pg_execute.specs.Executes.{whole_rows}
use Rattle.pg_execute.specs.Rows.{is_enough, may_have, rows_by, rows_read}
use Rattle.pg_execute.specs.Typed.{all_known, behind_head, columns_came, has_ended, head, known_or, or_else, takes_rest, told_or, type_told, typed_rows, unnamed}
use Rattle.pg_execute.specs.declared.got.Got.{Got}
use Rattle.pg_execute.specs.declared.how_many.HowMany.{HowMany}
use Rattle.pg_execute.specs.declared.result_set.ResultSet.{ResultSet}
use Rattle.pg_execute.specs.Knowing.{knows}
use Rattle.pg_execute.specs.Rests.{rows_told, takes_rest_of}
use Rattle.pg_execute.specs.Typing.{by_known, finds_typed, made, made_by}

-- ---- rows that were taken

-- a step, of whose answer something is made
abbrev made_next : {A : Type 0} → (Got → Result A Error) → Next Got (Result Got Error) → Next Got (Result A Error)
made_next makes (GoesOn g) = GoesOn g
made_next makes (Answers r) = Answers (made_by makes r)

-- the answer that stands
abbrev telling : {A : Type 0} → Option (Decision A) → Option A
telling o = option_map (λ d. d.answer) o

later-same : {A : Type 0} (o : Option (Decision A)) → telling (option_map one_later o) ≡ telling o
later-same None = refl
later-same (Some d) = refl

-- it is so of each step, so of all
told-made : {A : Type 0} (makes : Got → Result A Error) (next : Got → RawMessage → Next Got (Result Got Error)) (next' : Got → RawMessage → Next Got (Result A Error)) →
    ((g : Got) (m : RawMessage) → next' g m ≡ made_next makes (next g m)) → (g : Got) (ms : List RawMessage) → told_by next' g ms ≡ option_map (made_by makes) (told_by next g ms)
told-made makes next next' same g [] = refl
told-made {A} makes next next' same g (m ∷ ms) =
    ap (λ (n : Next Got (Result A Error)). telling (decided_by n (λ later. decision (λ s. None) next' later ms))) (same g m)
    ∙ by (next g m) (λ later. told-made makes next next' same later ms)
  where
    by : (n : Next Got (Result Got Error)) → ((later : Got) → told_by next' later ms ≡ option_map (made_by makes) (told_by next later ms)) →
        telling (decided_by (made_next makes n) (λ later. decision (λ s. None) next' later ms)) ≡ option_map (made_by makes) (telling (decided_by n (λ later. decision (λ s. None) next later ms)))
    by (Answers r) h = refl
    by (GoesOn later) h =
        later-same (decision (λ s. None) next' later ms) ∙ h later
        ∙ ap (λ (o : Option (Result Got Error)). option_map (made_by makes) o) (sym (later-same (decision (λ s. None) next later ms)))

-- what a message does by what it says
step-made : {A : Type 0} (how : HowMany) (makes : Got → Result A Error) (g : Got) (s : Said) → rows_by how makes g s ≡ made_next makes (rows_by how (λ g. Ok g) g s)
step-made how makes g Bound = refl
step-made {A} how makes g (Row cells) = by (may_have how (length later.rows))
  where
    later : Got
    later = record g { rows = g.rows ++ cells ∷ [] }

    refused : Result Got Error
    refused = Err spec.RowCount

    by : (b : Bool) → (if b then GoesOn later else Answers (Err spec.RowCount)) ≡ made_next makes (if b then GoesOn later else Answers refused)
    by true = refl
    by false = refl
step-made how makes g (Complete n) = refl
step-made how makes g Empty = refl
step-made how makes g Suspended = refl
step-made {A} how makes g Ready = by (is_enough how (length g.rows))
  where
    refused : Result A Error
    refused = Err spec.RowCount

    refused-so : Result Got Error
    refused-so = Err spec.RowCount

    by : (b : Bool) → Answers (if b then makes g else refused) ≡ made_next makes (Answers (if b then Ok g else refused-so))
    by true = refl
    by false = refl
step-made how makes g (Fails e) = refl

rows-made : {A : Type 0} (how : HowMany) (columns : ℕ) (makes : Got → Result A Error) (g : Got) (ms : List RawMessage) → rows_read how columns makes g ms ≡ option_map (made_by makes) (rows_told how columns g ms)
rows-made how columns makes g ms =
    told-made makes (λ g raw. rows_by how (λ g. Ok g) g (said_by g.bound columns raw)) (λ g raw. rows_by how makes g (said_by g.bound columns raw))
    (λ g m. step-made how makes g (said_by g.bound columns m)) g ms

or-made : {A : Type 0} (makes : Got → Result A Error) (o : Option (Result Got Error)) → told_or (option_map (made_by makes) o) ≡ made_by makes (told_or o)
or-made makes (Some r) = refl
or-made makes None = refl

rows-later : (how : HowMany) (fields : List Field) (types : List PgType) (taken : List RawMessage) → told_or (typed_rows how fields types taken) ≡ made fields types (told_or (rows_told how (length fields) columns_came taken))
rows-later how fields types taken =
    ap (λ (o : Option (Result ResultSet Error)). told_or o) (rows-made how (length fields) (whole_rows (unnamed fields types)) columns_came taken)
    ∙ or-made (whole_rows (unnamed fields types)) (rows_told how (length fields) columns_came taken)

-- the rest is taken, and then the types are found
rest-is : (find : List ℕ → Dialogue (List PgType)) (how : HowMany) (fields : List Field) → then_do (takes_rest_of how (length fields)) (finds_typed find fields) ≡ takes_rest find how fields
rest-is find how fields = λ i.
    Read (Release ∷ []) has_ended (λ taken. HangUp (then_do (find (map (λ f. f.type_oid) fields)) (λ types. Answer (sym (rows-later how fields types taken) i))))

-- the same of a script that stands there, behind so many columns
pub rest-at : (find : List ℕ → Dialogue (List PgType)) (how : HowMany) (fields : List Field) (count : ℕ) (d : Dialogue (Result Got Error)) → count ≡ length fields → d ≡ takes_rest_of how count →
    then_do d (finds_typed find fields) ≡ takes_rest find how fields
rest-at find how fields count d so is =
    ap (λ (x : Dialogue (Result Got Error)). then_do x (finds_typed find fields)) (is ∙ ap (λ (n : ℕ). takes_rest_of how n) so) ∙ rest-is find how fields

-- the search for the types stands there
pub found-at : (find : List ℕ → Dialogue (List PgType)) (fields : List Field) (told : Result Got Error) (oids : List ℕ) (d : Dialogue (List PgType)) → oids ≡ map (λ f. f.type_oid) fields → d ≡ find oids →
    then_do d (λ types. Answer (made fields types told)) ≡ finds_typed find fields told
found-at find fields told oids d are is =
    ap (λ (x : Dialogue (List PgType)). then_do x (λ types. Answer (made fields types told))) (is ∙ ap (λ (l : List ℕ). find l) are)

-- ---- columns of types

columns-long : (fields : List Field) (types : List PgType) → length types ≡ length fields → length (columns_of fields types) ≡ length fields
columns-long [] types e = refl
columns-long (f ∷ fs) [] e = absurd (omega (arith, e))
columns-long (f ∷ fs) (ty ∷ types) e =
    let fewer : length types ≡ length fs = omega (arith, e) in
    ap (λ (n : ℕ). suc n) (columns-long fs types fewer)

-- rows of a statement of these columns are read on
pub rows-at : (how : HowMany) (fields : List Field) (types : List PgType) (s : Statement) (told : List RawMessage → Option (Result ResultSet Error)) (d : Dialogue ResultSet) →
    length types ≡ length fields → s ≡ unnamed fields types → told ≡ rows_read how (length s.columns) (whole_rows s) columns_came → d ≡ reads false told → d ≡ reads false (typed_rows how fields types)
rows-at how fields types s told d long is said stands =
    stands
    ∙ ap (λ (t : List RawMessage → Option (Result ResultSet Error)). reads false t)
    (said ∙ ap (λ (x : Statement). rows_read how (length x.columns) (whole_rows x) columns_came) is
    ∙ ap (λ (n : ℕ). rows_read how n (whole_rows (unnamed fields types)) columns_came) (columns-long fields types long))

-- ---- types that are asked for

told-behind : {A T : Type 0} (f : A → Dialogue T) (n : Option PgType → Dialogue A) (m : Option PgType → Dialogue T) → ((o : Option PgType) → then_do (n o) f ≡ m o) → (r : Reply) →
    then_do (type_told n r) f ≡ type_told m r
told-behind f n m h (reply.Type found) = h found
told-behind f n m h (reply.Number k) = refl
told-behind f n m h reply.Spent = refl
told-behind f n m h reply.Cleared = refl
told-behind f n m h (reply.Statement found) = refl

or-behind : {A T : Type 0} (f : A → Dialogue T) (n : Option PgType → Dialogue A) (m : Option PgType → Dialogue T) → ((o : Option PgType) → then_do (n o) f ≡ m o) → (oid : ℕ) (o : Option PgType) →
    then_do (known_or oid o n) f ≡ known_or oid o m
or-behind f n m h oid (Some ty) = h (Some ty)
or-behind f n m h oid None = λ i. Call (desk_call.TypeOf oid) (λ e. HangUp (Answer (Err e))) (λ r. told-behind f n m h r i)

known-behind : {A T : Type 0} (later : Dialogue A) (next : List PgType → Dialogue A) (f : A → Dialogue T) (oids : List ℕ) (found : List PgType) →
    then_do (all_known later next oids found) f ≡ all_known (then_do later f) (λ types. then_do (next types) f) oids found
known-behind later next f [] found = refl
known-behind {A} {T} later next f (oid ∷ oids) found =
    or-behind f (or_else later (λ ty. all_known later next oids (found ++ ty ∷ []))) (or_else (then_do later f) (λ ty. all_known (then_do later f) (λ types. then_do (next types) f) oids (found ++ ty ∷ [])))
    (each (λ ty. known-behind later next f oids (found ++ ty ∷ []))) oid (built_in_type oid)
  where
    each : ((ty : PgType) → then_do (all_known later next oids (found ++ ty ∷ [])) f ≡ all_known (then_do later f) (λ types. then_do (next types) f) oids (found ++ ty ∷ [])) → (o : Option PgType) →
        then_do (or_else later (λ ty. all_known later next oids (found ++ ty ∷ [])) o) f ≡ or_else (then_do later f) (λ ty. all_known (then_do later f) (λ types. then_do (next types) f) oids (found ++ ty ∷ [])) o
    each h (Some ty) = h ty
    each h None = refl

-- the columns came, and a script stands at the asking for their types
pub head-at : (find : List ℕ → Dialogue (List PgType)) (how : HowMany) (fields : List Field) (oids : List ℕ) (d : Dialogue (Option (List PgType))) → oids ≡ map (λ f. f.type_oid) fields → d ≡ knows oids [] →
    then_do d (by_known find how fields) ≡ behind_head find how fields
head-at find how fields oids d are is =
    ap (λ (x : Dialogue (Option (List PgType))). then_do x (by_known find how fields)) (is ∙ ap (λ (l : List ℕ). knows l []) are)
    ∙ known-behind (Answer (Ok None)) (λ types. Answer (Ok (Some types))) (by_known find how fields) (map (λ f. f.type_oid) fields) []

-- ---- the request

asks-behind : {A T : Type 0} (f : A → Dialogue T) (d : Dialogue A) (request : Result (List ℕ) Error) → then_do (asks_for request d) f ≡ asks_for request (then_do d f)
asks-behind f d (Ok part) = refl
asks-behind f d (Err e) = refl

-- a script stands at the request
pub asked-at : (find : List ℕ → Dialogue (List PgType)) (how : HowMany) (request : Result (List ℕ) Error) (d : Dialogue (List Field)) → d ≡ asks_for request (reads false head) →
    then_do d (behind_head find how) ≡ asks_for request (then_do (reads false head) (behind_head find how))
asked-at find how request d is = ap (λ (x : Dialogue (List Field)). then_do x (behind_head find how)) is ∙ asks-behind (behind_head find how) (reads false head) request
