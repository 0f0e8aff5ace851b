-- The rows of a reply have as many cells as there are columns.
use Rattle.std.proofs.Common.{◌≡◌, ℕ, List, [], ◌∷◌, ◌++◌, length, Bool, true, false, ◌==◌, if◌then◌else◌, Option, Some, None, option_map, Result, Ok, Err, refl, sym, ap, subst, ◌∙◌, append_assoc, append-nil, eq-eqb}
use Rattle.std.specs.List.{AllByRecursion}
use Rattle.std.specs.Str.{is_utf8}
use Rattle.std.proofs.lemmas.Bool.{eqb-true}
use Rattle.pg_spec.specs.Bodies.{cells_of}
use Rattle.pg_spec.specs.Faults as spec
use Rattle.pg_spec.specs.Faults.{◌>>=◌}
use Rattle.pg_spec.specs.Messages.{Message, BindComplete, CommandComplete, DataRow, EmptyQueryResponse, ErrorResponse, PortalSuspended, ReadyForQuery, message_of}
use Rattle.pg_spec.specs.RawMessages.{RawMessage}
use Rattle.pg_spec.specs.Readings.{Next, GoesOn, Answers, Decision, decided_by, decision, one_later}
use Rattle.pg_spec.specs.SimpleQuery.{affected}
use Rattle.pg_types.specs.declared.error.Error.{Error}
use Rattle.pg_desk.specs.declared.column.Column.{Column}
use Rattle.pg_desk.specs.declared.statement.Described.{Described as Statement}
use Rattle.pg_core.specs.Cells.{Cells}
use Rattle.pg_core.specs.QueryReplies.{Said, Bound, Row, Complete, Empty, Suspended, Ready, Fails, query_said, row_said, said_by, told_by}
use Rattle.pg_rows.specs.Rows.{RowOf, row_of}
use Rattle.pg_execute.specs.Executes.{first_queried, queried, whole_rows}
use Rattle.pg_execute.specs.ResultRows.{rows_behind, rows_with}
use Rattle.pg_execute.specs.Rows.{at_end, first_rows_by, has_so_many, is_enough, may_have, nothing_got, rows_by, up_to}
use Rattle.pg_execute.specs.declared.got.Got.{Got}
use Rattle.pg_execute.specs.declared.how_many.HowMany.{HowMany}
use Rattle.pg_execute.specs.declared.how_many.HowMany.TheVariants.{Any}
use Rattle.pg_execute.specs.declared.result_set.ResultSet.{ResultSet}

-- each row has so many cells
abbrev pub Wide : ℕ → List Cells → Type 0
Wide columns rows = AllByRecursion (λ (cells : Cells). length cells ≡ columns) rows

wide-more : (columns : ℕ) (rows : List Cells) (cells : Cells) → Wide columns rows → length cells ≡ columns → Wide columns (rows ++ cells ∷ [])
wide-more columns [] cells wide is = (is, tt)
wide-more columns (row ∷ rows) cells wide is = (wide.0, wide-more columns rows cells wide.1 is)

-- ---- rows that are so wide make rows

-- what cells make, by whether there are as many as columns
abbrev made : List Column → Cells → Bool → Result (RowOf Column) Error
made columns cells wide = elim (if wide then None else Some (spec.Parse spec.FieldCount)) as (λ _. Result (RowOf Column) Error) [
  | None ↦ Ok (record { columns = columns; cells = cells })
  | Some e ↦ Err e
]

makes-row : (columns : List Column) (cells : Cells) → length cells ≡ length columns → row_of columns (Ok cells) ≡ Ok (record { columns = columns; cells = cells })
makes-row columns cells wide = ap (made columns cells) (eq-eqb (length cells) (length columns) wide)

-- the rows behind one, by what it makes
abbrev behind-one : List Column → List (RowOf Column) → List Cells → Result (RowOf Column) Error → Result (List (RowOf Column)) Error
behind-one columns found rows one = one >>= λ row. rows_behind columns (found ++ row ∷ []) rows

makes-behind : (columns : List Column) (found : List (RowOf Column)) (rows : List Cells) → Wide (length columns) rows → rows_behind columns found rows ≡ Ok (found ++ rows_with columns rows)
makes-behind columns found [] wide = ap (λ (l : List (RowOf Column)). Ok l) (sym (append-nil found))
makes-behind columns found (cells ∷ rows) wide =
    let row : RowOf Column = record { columns = columns; cells = cells } in
    ap (behind-one columns found rows) (makes-row columns cells wide.0)
    ∙ makes-behind columns (found ++ row ∷ []) rows wide.1
    ∙ ap (λ (l : List (RowOf Column)). Ok l) (append_assoc found (row ∷ []) (rows_with columns rows))

-- ---- a row that is said is so wide

row-wide : (columns : ℕ) (b : Bool) (cells found : Cells) → (length found == columns) ≡ b → (if b then Row found else Fails (spec.Parse spec.FieldCount)) ≡ Row cells → length cells ≡ columns
row-wide columns true cells found test is = let same : found ≡ cells = cc in sym (ap length same) ∙ eqb-true (length found) columns test
row-wide columns false cells found test is = absurd cc

cells-wide : (columns : ℕ) (r : Result Cells spec.WireFault) (cells : Cells) → row_said columns r ≡ Row cells → length cells ≡ columns
cells-wide columns (Ok found) cells is = row-wide columns (length found == columns) cells found refl is
cells-wide columns (Err fault) cells is = absurd cc

complete-no-row : (b : Bool) (n : ℕ) (cells : Cells) → (if b then Complete n else Fails (spec.Parse spec.NotText)) ≡ Row cells → ⊥
complete-no-row true n cells is = cc
complete-no-row false n cells is = cc

message-wide : (bound : Bool) (columns : ℕ) (m : Message) (cells : Cells) → query_said bound columns m ≡ Row cells → length cells ≡ columns
message-wide true columns (DataRow count bytes) cells is = cells-wide columns (cells_of count bytes) cells is
message-wide true columns (CommandComplete tag) cells is = absurd (complete-no-row (is_utf8 tag) (affected tag) cells is)
message-wide true columns EmptyQueryResponse cells is = absurd cc
message-wide true columns PortalSuspended cells is = absurd cc
message-wide true columns (ReadyForQuery status) cells is = absurd cc
message-wide true columns (ErrorResponse fields) cells is = absurd cc
message-wide true columns other cells is = absurd cc
message-wide false columns BindComplete cells is = absurd cc
message-wide false columns (ErrorResponse fields) cells is = absurd cc
message-wide false columns other cells is = absurd cc

said-wide : (bound : Bool) (columns : ℕ) (raw : RawMessage) (cells : Cells) → said_by bound columns raw ≡ Row cells → length cells ≡ columns
said-wide bound columns raw cells is = by (message_of raw) is
  where
    by : (r : Result Message spec.WireFault) → (elim r as (λ _. Said) [ Ok m ↦ query_said bound columns m | Err fault ↦ Fails (spec.Parse (spec.Wire fault)) ]) ≡ Row cells → length cells ≡ columns
    by (Ok m) k = message-wide bound columns m cells k
    by (Err fault) k = absurd cc

-- ---- the rows of a reply

-- rows of this statement, as wide as it has columns
record IsWide (s : Statement) (set : ResultSet) : Type 0 where
  statement : set.statement ≡ s
  rows : Wide (length s.columns) set.rows

abbrev Step : Type 0
Step = Next Got (Result ResultSet Error)

-- the rows so far are so wide, and those of an answer
abbrev StaysWide : Statement → Step → Type 0
StaysWide s (GoesOn g) = Wide (length s.columns) g.rows
StaysWide s (Answers (Ok set)) = IsWide s set
StaysWide s (Answers (Err e)) = Unit {0}

end-wide : (s : Statement) (g : Got) (b : Bool) → Wide (length s.columns) g.rows → StaysWide s (Answers (if b then whole_rows s g else Err spec.RowCount))
end-wide s g true wide = record { statement = refl; rows = wide }
end-wide s g false wide = tt

next-wide : (s : Statement) (g : Got) (b : Bool) → Wide (length s.columns) g.rows → StaysWide s (if b then GoesOn g else Answers (Err spec.RowCount))
next-wide s g true wide = wide
next-wide s g false wide = tt

rows-wide : (how : HowMany) (s : Statement) (g : Got) (said : Said) → Wide (length s.columns) g.rows → ((cells : Cells) → said ≡ Row cells → length cells ≡ length s.columns) →
    StaysWide s (rows_by how (whole_rows s) g said)
rows-wide how s g Bound wide row = wide
rows-wide how s g (Row cells) wide row =
    let later : Got = record g { rows = g.rows ++ cells ∷ [] } in
    next-wide s later (may_have how (length later.rows)) (wide-more (length s.columns) g.rows cells wide (row cells refl))
rows-wide how s g (Complete n) wide row = wide
rows-wide how s g Empty wide row = wide
rows-wide how s g Suspended wide row = wide
rows-wide how s g Ready wide row = end-wide s g (is_enough how (length g.rows)) wide
rows-wide how s g (Fails e) wide row = tt

stop-wide : (how : HowMany) (s : Statement) (g : Got) (b : Bool) → Wide (length s.columns) g.rows → StaysWide s (if b then Answers (at_end how (whole_rows s) g) else GoesOn g)
stop-wide how s g true wide = end-wide s g (is_enough how (length g.rows)) wide
stop-wide how s g false wide = wide

up-wide : (take : ℕ) (how : HowMany) (s : Statement) (step : Step) → StaysWide s step → StaysWide s (up_to take (at_end how (whole_rows s)) step)
up-wide take how s (GoesOn g) wide = stop-wide how s g (has_so_many take g) wide
up-wide take how s (Answers r) wide = wide

-- ---- up to the answer

-- the answer that stands
abbrev told_in : Option (Decision (Result ResultSet Error)) → Option (Result ResultSet Error)
told_in o = option_map (λ d. d.answer) o

later-same : (o : Option (Decision (Result ResultSet Error))) → told_in (option_map one_later o) ≡ told_in o
later-same None = refl
later-same (Some d) = refl

-- each step keeps it
abbrev KeepsWide : Statement → (Got → RawMessage → Step) → Type 0
KeepsWide s next = (g : Got) (raw : RawMessage) → Wide (length s.columns) g.rows → StaysWide s (next g raw)

told-wide : (s : Statement) (next : Got → RawMessage → Step) → KeepsWide s next → (g : Got) (ms : List RawMessage) (set : ResultSet) → Wide (length s.columns) g.rows →
    told_by next g ms ≡ Some (Ok set) → IsWide s set
told-wide s next keeps g [] set wide is = absurd cc
told-wide s next keeps g (m ∷ ms) set wide is = by (next g m) (keeps g m wide) is (λ later. told-wide s next keeps later ms set)
  where
    by : (step : Step) → StaysWide s step → told_in (decided_by step (λ later. decision (λ s. None) next later ms)) ≡ Some (Ok set) →
        ((later : Got) → Wide (length s.columns) later.rows → told_by next later ms ≡ Some (Ok set) → IsWide s set) → IsWide s set
    by (Answers (Ok x)) stays k f = let same : x ≡ set = cc in subst (λ (r : ResultSet). IsWide s r) same stays
    by (Answers (Err e)) stays k f = absurd cc
    by (GoesOn later) stays k f = f later stays (sym (later-same (decision (λ s. None) next later ms)) ∙ k)

-- so they make rows
makes-all : (s : Statement) (set : ResultSet) → IsWide s set → rows_behind set.statement.columns [] set.rows ≡ Ok (rows_with set.statement.columns set.rows)
makes-all s set wide =
    makes-behind set.statement.columns [] set.rows (subst (λ (t : Statement). Wide (length t.columns) set.rows) (sym wide.statement) wide.rows)

pub all-make : (how : HowMany) (s : Statement) (ms : List RawMessage) (set : ResultSet) → queried how whole_rows s ms ≡ Some (Ok set) →
    rows_behind set.statement.columns [] set.rows ≡ Ok (rows_with set.statement.columns set.rows)
all-make how s ms set told =
    makes-all s set
    (told-wide s (λ g raw. rows_by how (whole_rows s) g (said_by g.bound (length s.columns) raw))
    (λ g raw wide. rows-wide how s g (said_by g.bound (length s.columns) raw) wide (said-wide g.bound (length s.columns) raw)) nothing_got ms set tt told)

pub first-make : (take : ℕ) (s : Statement) (ms : List RawMessage) (set : ResultSet) → first_queried take whole_rows s ms ≡ Some (Ok set) →
    rows_behind set.statement.columns [] set.rows ≡ Ok (rows_with set.statement.columns set.rows)
first-make take s ms set told =
    makes-all s set
    (told-wide s (λ g raw. first_rows_by take Any (whole_rows s) g (said_by g.bound (length s.columns) raw))
    (λ g raw wide. up-wide take Any s (rows_by Any (whole_rows s) g (said_by g.bound (length s.columns) raw))
    (rows-wide Any s g (said_by g.bound (length s.columns) raw) wide (said-wide g.bound (length s.columns) raw)))
    nothing_got ms set tt told)
