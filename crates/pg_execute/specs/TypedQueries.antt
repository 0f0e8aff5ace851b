-- Where a text stands that is queried with values of given types.
use Rattle.std.specs.Prelude.{ℕ, ◌+◌, ◌^◌, List, [], Option, Some, None, Result, Err}
use Rattle.pg_spec.specs.Bodies.{Field}
use Rattle.pg_types.specs.Texts.{sql_text}
use Rattle.pg_types.specs.declared.pg_type.PgType.{PgType}
use Rattle.pg_types.specs.declared.error.Error.{Error}
use Rattle.pg_types.specs.declared.error.Error.TheVariants.{Closed}
use Rattle.pg_query.specs.Dialogue.{Dialogue, Answer}
use Rattle.pg_query.specs.Scripts.{Falls, GoesOn, Nothing, Waiting, waiting_at}
use Rattle.pg_query.specs.SingleRequests.{dialogue_of, refuses_of, steps_of}
use Rattle.pg_query.specs.declared.script.Want.{Want}
use Rattle.pg_query.specs.declared.single_request.SingleRequest.{SingleRequest}
use Rattle.pg_core.specs.Sequences.{or_answer, then_do}
use Rattle.pg_core.specs.Thens.{waits_through}
use Rattle.pg_execute.specs.Executes.{whole_rows}
use Rattle.pg_execute.specs.Knowing.{knows_at, knows_refuses, knows_steps, knows_waits}
use Rattle.pg_execute.specs.Parameters.{Params}
use Rattle.pg_execute.specs.Reads.{reads_at, reads_refuses}
use Rattle.pg_execute.specs.Rests.{rest_at, rest_refuses}
use Rattle.pg_execute.specs.RowsReadings.{reading_of_rows}
use Rattle.pg_execute.specs.Typed.{behind_head, head, query_typed}
use Rattle.pg_execute.specs.Types.{types_in}
use Rattle.pg_execute.specs.Typing.{by_known, finds_typed, made}
use Rattle.pg_execute.specs.declared.got.Got.{Got}
use Rattle.pg_execute.specs.declared.head_reading.HeadReading.{HeadReading}
use Rattle.pg_execute.specs.declared.how_many.HowMany.{HowMany}
use Rattle.pg_execute.specs.declared.make.WholeRows.{WholeRows}
use Rattle.pg_execute.specs.declared.query_typed.QueryTyped.{QueryTyped}
use Rattle.pg_execute.specs.declared.query_typed.QueryTyped.TheVariants.{Begins, Finds, Heads, Knows, Rests, Rows, Spent}
use Rattle.pg_execute.specs.declared.reads_on.ReadsOn.{ReadsOn}
use Rattle.pg_execute.specs.declared.result_set.ResultSet.{ResultSet}
use Rattle.pg_execute.specs.declared.rows_reading.RowsReading.{RowsReading}
use Rattle.pg_execute.specs.declared.typed_requests.Unwritten.{Unwritten}

-- ---- its parts

-- the columns, which are read before the rows
abbrev pub head_at : SingleRequest HeadReading (List Field) → Dialogue (List Field)
head_at s = dialogue_of (λ _. head) s

-- the rows, where the types of their columns are known
abbrev pub rows_at : ReadsOn (RowsReading WholeRows) → Dialogue ResultSet
rows_at s = reads_at (reading_of_rows (λ (m : WholeRows). whole_rows)) s

-- rows are made of what was taken, with these types
abbrev pub makes : List Field → Result Got Error → List PgType → Dialogue ResultSet
makes columns told types = Answer (made columns types told)

-- ---- the whole

-- what is still asked and answered
abbrev pub query_at : {F S P : Type 0} → (F → List ℕ → Dialogue (List PgType)) → (S → Dialogue (List PgType)) → (P → Params) → QueryTyped F S P → Dialogue ResultSet
query_at finds searches given (Begins request how finder) = query_typed (finds finder) how (sql_text request.text) (types_in request.types) (given request.values)
query_at finds searches given (Heads asks how finder) = then_do (head_at asks) (behind_head (finds finder) how)
query_at finds searches given (Knows asks how columns finder) = then_do (knows_at asks) (by_known (finds finder) how columns)
query_at finds searches given (Rows rows) = rows_at rows
query_at finds searches given (Rests rest columns finder) = then_do (rest_at rest) (finds_typed (finds finder) columns)
query_at finds searches given (Finds search columns told) = then_do (searches search) (makes columns told)
query_at finds searches given Spent = Answer (Err Closed)

-- the same where the desk refuses what was sent or asked
abbrev pub query_refuses : {F S P : Type 0} → (F → List ℕ → Dialogue (List PgType)) → (S → Error → Dialogue (List PgType)) → QueryTyped F S P → Error → Dialogue ResultSet
query_refuses finds refuses (Begins request how finder) = λ e. Answer (Err e)
query_refuses finds refuses (Heads asks how finder) = λ e. then_do (refuses_of asks e) (behind_head (finds finder) how)
query_refuses finds refuses (Knows asks how columns finder) = λ e. then_do (knows_refuses asks e) (by_known (finds finder) how columns)
query_refuses finds refuses (Rows rows) = reads_refuses rows
query_refuses finds refuses (Rests rest columns finder) = λ e. then_do (rest_refuses rest e) (finds_typed (finds finder) columns)
query_refuses finds refuses (Finds search columns told) = λ e. then_do (refuses search e) (makes columns told)
query_refuses finds refuses Spent = λ e. Answer (Err e)

-- what is waited for
abbrev pub query_waits : {F S P : Type 0} (finds : F → List ℕ → Dialogue (List PgType)) (searches : S → Dialogue (List PgType)) → ((s : S) → Waiting (searches s)) → (given : P → Params) →
    (s : QueryTyped F S P) → Waiting (query_at finds searches given s)
query_waits finds searches waits given (Begins request how finder) = Nothing
query_waits finds searches waits given (Heads asks how finder) = waits_through [] (or_answer (behind_head (finds finder) how)) (head_at asks) (waiting_at (head_at asks))
query_waits finds searches waits given (Knows asks how columns finder) = waits_through [] (or_answer (by_known (finds finder) how columns)) (knows_at asks) (knows_waits asks)
query_waits finds searches waits given (Rows rows) = waiting_at (rows_at rows)
query_waits finds searches waits given (Rests rest columns finder) = waits_through [] (or_answer (finds_typed (finds finder) columns)) (rest_at rest) (waiting_at (rest_at rest))
query_waits finds searches waits given (Finds search columns told) = waits_through [] (or_answer (makes columns told)) (searches search) (waits search)
query_waits finds searches waits given Spent = Nothing

-- how many steps are left
abbrev pub query_steps : {F S P : Type 0} → (F → ℕ) → (S → ℕ) → QueryTyped F S P → ℕ
query_steps most steps (Begins request how finder) = 2 + (2 ^ 64 + most finder)
query_steps most steps (Heads asks how finder) = steps_of asks + (2 ^ 64 + most finder)
query_steps most steps (Knows asks how columns finder) = knows_steps asks + most finder
query_steps most steps (Rows rows) = 0
query_steps most steps (Rests rest columns finder) = most finder
query_steps most steps (Finds search columns told) = steps search
query_steps most steps Spent = 0

-- a script that stood at this dialogue wants this, and stands behind it
abbrev pub QueryGoes : {F S P : Type 0} → (F → List ℕ → Dialogue (List PgType)) → (searches : S → Dialogue (List PgType)) → (S → Error → Dialogue (List PgType)) → ((s : S) → Waiting (searches s)) → (P → Params) →
    Dialogue ResultSet → Want ResultSet → QueryTyped F S P → Type 0
QueryGoes finds searches refuses waits given d w new = GoesOn (query_at finds searches given) (query_refuses finds refuses) (query_waits finds searches waits given) d w new

-- ---- what comes behind a part

-- what is made of what stands there; Closed where nothing does
abbrev pub or_closed : {K T : Type 0} → (K → Dialogue T) → Option K → Dialogue T
or_closed makes (Some k) = makes k
or_closed makes None = Answer (Err Closed)

-- how many steps that has; none where nothing stands there
abbrev pub or_none : {K : Type 0} → (K → ℕ) → Option K → ℕ
or_none steps (Some k) = steps k
or_none steps None = 0

-- the request that isn't written yet, and what comes behind it
abbrev pub unwritten : {F S P : Type 0} → QueryTyped F S P → Option (Unwritten P × HowMany × F)
unwritten (Begins request how finder) = Some (request, how, finder)
unwritten _ = None

-- what is asked by it
abbrev pub begun : {F S P : Type 0} → (F → List ℕ → Dialogue (List PgType)) → (P → Params) → QueryTyped F S P → Dialogue ResultSet
begun {F = F} {P = P} finds given s = or_closed (λ (k : Unwritten P × HowMany × F). query_typed (finds k.2) k.1 (sql_text k.0.text) (types_in k.0.types) (given k.0.values)) (unwritten s)

-- how many steps that is at most
abbrev pub begun_most : {F S P : Type 0} → (F → ℕ) → QueryTyped F S P → ℕ
begun_most {F = F} {P = P} most s = or_none (λ (k : Unwritten P × HowMany × F). 2 + (2 ^ 64 + most k.2)) (unwritten s)

-- ---- the reading of the columns

-- what stands behind it
abbrev pub after_head : {F S P : Type 0} → QueryTyped F S P → Option (HowMany × F)
after_head (Heads asks how finder) = Some (how, finder)
after_head _ = None

-- the whole, where it stands at this dialogue
abbrev pub head_with : {F S P : Type 0} → (F → List ℕ → Dialogue (List PgType)) → QueryTyped F S P → Dialogue (List Field) → Dialogue ResultSet
head_with {F = F} finds s d = or_closed (λ (k : HowMany × F). then_do d (behind_head (finds k.1) k.0)) (after_head s)

-- it stood at this dialogue, wants this, and stands behind it
abbrev pub HeadWants : {F S P : Type 0} → Dialogue (List Field) → Want (List Field) → QueryTyped F S P → Type 0
HeadWants d w (Heads asks how finder) = GoesOn head_at refuses_of (λ one. waiting_at (head_at one)) d w asks
HeadWants d w _ = ⊥

-- what it wants was one of so many steps
abbrev pub HeadFalls : {F S P : Type 0} → Want (List Field) → ℕ → QueryTyped F S P → Type 0
HeadFalls w n (Heads asks how finder) = Falls w n (steps_of asks)
HeadFalls w n _ = ⊥

-- the steps behind it are at most these
abbrev pub head_most : {F S P : Type 0} → (F → ℕ) → QueryTyped F S P → ℕ
head_most {F = F} most s = or_none (λ (k : HowMany × F). 2 ^ 64 + most k.1) (after_head s)

-- ---- the asking for types

-- what stands behind it
abbrev pub after_know : {F S P : Type 0} → QueryTyped F S P → Option (HowMany × List Field × F)
after_know (Knows asks how columns finder) = Some (how, columns, finder)
after_know _ = None

-- the whole, where it stands at this dialogue
abbrev pub know_with : {F S P : Type 0} → (F → List ℕ → Dialogue (List PgType)) → QueryTyped F S P → Dialogue (Option (List PgType)) → Dialogue ResultSet
know_with {F = F} finds s d = or_closed (λ (k : HowMany × List Field × F). then_do d (by_known (finds k.2) k.0 k.1)) (after_know s)

-- it stood at this dialogue, wants this, and stands behind it
abbrev pub KnowWants : {F S P : Type 0} → Dialogue (Option (List PgType)) → Want (Option (List PgType)) → QueryTyped F S P → Type 0
KnowWants d w (Knows asks how columns finder) = GoesOn knows_at knows_refuses knows_waits d w asks
KnowWants d w _ = ⊥

-- what it wants was one of so many steps
abbrev pub KnowFalls : {F S P : Type 0} → Want (Option (List PgType)) → ℕ → QueryTyped F S P → Type 0
KnowFalls w n (Knows asks how columns finder) = Falls w n (knows_steps asks)
KnowFalls w n _ = ⊥

-- the steps behind it are at most these
abbrev pub know_most : {F S P : Type 0} → (F → ℕ) → QueryTyped F S P → ℕ
know_most {F = F} most s = or_none (λ (k : HowMany × List Field × F). most k.2) (after_know s)

-- ---- the taking of the rest

-- what stands behind it
abbrev pub after_rest : {F S P : Type 0} → QueryTyped F S P → Option (List Field × F)
after_rest (Rests rest columns finder) = Some (columns, finder)
after_rest _ = None

-- the whole, where it stands at this dialogue
abbrev pub rest_with : {F S P : Type 0} → (F → List ℕ → Dialogue (List PgType)) → QueryTyped F S P → Dialogue (Result Got Error) → Dialogue ResultSet
rest_with {F = F} finds s d = or_closed (λ (k : List Field × F). then_do d (finds_typed (finds k.1) k.0)) (after_rest s)

-- it stood at this dialogue, wants this, and stands behind it
abbrev pub RestWants : {F S P : Type 0} → Dialogue (Result Got Error) → Want (Result Got Error) → QueryTyped F S P → Type 0
RestWants d w (Rests rest columns finder) = GoesOn rest_at rest_refuses (λ s. waiting_at (rest_at s)) d w rest
RestWants d w _ = ⊥

-- what it wants was one of so many steps
abbrev pub RestFalls : {F S P : Type 0} → Want (Result Got Error) → ℕ → QueryTyped F S P → Type 0
RestFalls w n (Rests rest columns finder) = Falls w n 0
RestFalls w n _ = ⊥

-- the steps behind it are at most these
abbrev pub rest_most : {F S P : Type 0} → (F → ℕ) → QueryTyped F S P → ℕ
rest_most {F = F} most s = or_none (λ (k : List Field × F). most k.1) (after_rest s)

-- ---- the search

-- what stands behind it
abbrev pub after_find : {F S P : Type 0} → QueryTyped F S P → Option (List Field × Result Got Error)
after_find (Finds search columns told) = Some (columns, told)
after_find _ = None

-- the whole, where it stands at this dialogue
abbrev pub find_with : {F S P : Type 0} → QueryTyped F S P → Dialogue (List PgType) → Dialogue ResultSet
find_with s d = or_closed (λ (k : List Field × Result Got Error). then_do d (makes k.0 k.1)) (after_find s)

-- it stood at this dialogue, wants this, and stands behind it
abbrev pub FindWants : {F S P : Type 0} → (searches : S → Dialogue (List PgType)) → (S → Error → Dialogue (List PgType)) → ((s : S) → Waiting (searches s)) →
    Dialogue (List PgType) → Want (List PgType) → QueryTyped F S P → Type 0
FindWants searches refuses waits d w (Finds search columns told) = GoesOn searches refuses waits d w search
FindWants searches refuses waits d w _ = ⊥

-- what it wants was one of so many steps
abbrev pub FindFalls : {F S P : Type 0} → (S → ℕ) → Want (List PgType) → ℕ → QueryTyped F S P → Type 0
FindFalls steps w n (Finds search columns told) = Falls w n (steps search)
FindFalls steps w n _ = ⊥
