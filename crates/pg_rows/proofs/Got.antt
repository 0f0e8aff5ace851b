-- Values of columns.
use Rattle.std.proofs.Common.{◌≡◌, ◌⊎◌, inl, inr, ℕ, Bool, true, false, cond, List, [], get_or, Option, Some, None, Result, Ok, Err, refl, sym, ap, subst, ◌∙◌, MatchBool, MatchResult}
use Rattle.std.specs.Prelude.{slice_get, option_map}
use Rattle.std.specs.Str.{is_utf8}
use denote.Bor.{Bor}
use Rattle.std.proofs.lemmas.Option.{slice_get-get_or}
use Rattle.pg_types.specs.Values.{Reads, may_lack, wrong_type}
use Rattle.pg_types.specs.declared.pg_type.PgType.{PgType}
use Rattle.pg_types.specs.declared.fault.ValueFault.{ValueFault}
use Rattle.pg_types.specs.declared.fault.ValueFault.TheVariants as fault
use Rattle.pg_types.specs.declared.fault.RustType.TheVariants as rust
use Rattle.pg_types.specs.declared.memory.OutOfMemory.{OutOfMemory as Lack}
use Rattle.pg_types.specs.declared.error.Error.{Error}
use Rattle.pg_types.specs.declared.error.Error.TheVariants.{Column as NoColumn, OutOfMemory}
use Rattle.pg_desk.specs.declared.column.Column.{Column}
use Rattle.pg_rows.specs.declared.row_index.RowIndex.{RowIndex}
use Rattle.pg_rows.specs.declared.simple_column.SimpleColumn.{SimpleColumn}
use Rattle.pg_rows.specs.Places.{index_text}
use Rattle.pg_rows.specs.Rows.{RowOf, cell_at}
use Rattle.pg_rows.proofs.Found.{column-within}
use Rattle.pg_rows.specs.Values.{AnswersAt, AnswersBy, CanGet, CanGetText, Gets, GetsText, GetsValue, ReadsText, ReadsUnder, error_at, place_in, simple_place_in, text_in, text_meant}

-- a column is meant
pub got-at : {C T : Type 0} (reads : C → Option (List ℕ) → Result T ValueFault → Type 0) (row : RowOf C) (index : RowIndex) (found : Option ℕ) (place : ℕ) (column : C) (r : Result T Error) →
    found ≡ Some place → slice_get row.columns place ≡ Some column → AnswersAt place (reads column (cell_at row.cells place)) r → AnswersBy reads row index found r
got-at {C} {T} reads row index found place column r is there answers =
    subst (λ (o : Option ℕ). AnswersBy reads row index o r) (sym is) (column, there, answers)

-- what was read is answered
answer-at : {T : Type 0} (reads : Result T ValueFault → Type 0) (place : ℕ) (read : Result T ValueFault) (r : Result T Error) →
    reads read → MatchResult read (λ value. r ≡ Ok value) (λ f. r ≡ Err (error_at place f)) → AnswersAt place reads r
answer-at {T} reads place (Ok value) r says is = subst (λ (x : Result T Error). AnswersAt place reads x) (sym is) says
answer-at {T} reads place (Err f) r says is = subst (λ (x : Result T Error). AnswersAt place reads x) (sym is) (f, says, refl)

-- a cell was read under the type of the column that is meant
pub row-got : {T : Type 0} (reads : PgType → Option (List ℕ) → Result T ValueFault → Type 0) (row : RowOf Column) (index : RowIndex) (place : ℕ) (column : Column) (ty : PgType) (raw : Option (List ℕ)) (read : Result T ValueFault) (r : Result T Error) →
    place_in row index ≡ Some place → slice_get row.columns place ≡ Some column → ty ≡ column.type_ → raw ≡ cell_at row.cells place → reads ty raw read →
    MatchResult read (λ value. r ≡ Ok value) (λ f. r ≡ Err (error_at place f)) → Gets reads row index r
row-got {T} reads row index place column ty raw read r meant there type-is raw-is says is =
    let typed : reads column.type_ raw read = subst (λ (t : PgType). reads t raw read) type-is says in
    let read-so : reads column.type_ (cell_at row.cells place) read = subst (λ (o : Option (List ℕ)). reads column.type_ o read) raw-is typed in
    got-at {T = T} (λ (c : Column). reads c.type_) row index (place_in row index) place column r meant there (answer-at (reads column.type_ (cell_at row.cells place)) place read r read-so is)

-- the text of a cell was read
pub simple-row-got : (row : RowOf SimpleColumn) (index : RowIndex) (place : ℕ) (raw : Option (List ℕ)) (read : Result (Option (Bor (List ℕ))) ValueFault) (r : Result (Option (Bor (List ℕ))) Error) →
    simple_place_in row index ≡ Some place → raw ≡ cell_at row.cells place → ReadsText raw read →
    MatchResult read (λ value. r ≡ Ok value) (λ f. r ≡ Err (error_at place f)) → GetsText row index r
simple-row-got row index place raw read r meant raw-is says is =
    let column : SimpleColumn = get_or row.columns place (record { name = [] }) in
    let there : slice_get row.columns place ≡ Some column = slice_get-get_or row.columns place (record { name = [] }) (column-within (λ (k : SimpleColumn). k.name) index row.columns place meant) in
    let read-so : ReadsText (cell_at row.cells place) read = subst (λ (o : Option (List ℕ)). ReadsText o read) raw-is says in
    got-at (λ (c : SimpleColumn). ReadsText) row index (simple_place_in row index) place column r meant there (answer-at (ReadsText (cell_at row.cells place)) place read r read-so is)

-- none is
pub got-none : {C T : Type 0} (reads : C → Option (List ℕ) → Result T ValueFault → Type 0) (row : RowOf C) (index : RowIndex) (found : Option ℕ) (e : Error) →
    found ≡ None → (e ≡ OutOfMemory) ⊎ (e ≡ NoColumn (index_text index)) → AnswersBy reads row index found (Err e)
got-none {C} {T} reads row index found e is says =
    subst (λ (o : Option ℕ). AnswersBy {C = C} {T = T} reads row index o (Err e)) (sym is) says

-- what is said of the column that is meant
record MeansColumn {T : Type 0} (reads : PgType → Option (List ℕ) → Result T ValueFault → Type 0) (row : RowOf Column) (place : ℕ) (column : Column) (r : Result T Error) : Type 0 where
  answers : AnswersAt place (reads column.type_ (cell_at row.cells place)) r

means-column : {T : Type 0} (reads : PgType → Option (List ℕ) → Result T ValueFault → Type 0) (row : RowOf Column) (index : RowIndex) (place : ℕ) (column : Column) (r : Result T Error) →
    place_in row index ≡ Some place → slice_get row.columns place ≡ Some column → Gets reads row index r → MeansColumn reads row place column r
means-column {T} reads row index place column r meant there gets =
    let found : AnswersBy (λ (c : Column). reads c.type_) row index (Some place) r = subst (λ (o : Option ℕ). AnswersBy (λ (c : Column). reads c.type_) row index o r) meant gets in
    let same : found.0 ≡ column = cc (found.1) in
    record { answers = subst (λ (c : Column). AnswersAt place (reads c.type_ (cell_at row.cells place)) r) same found.2 }

-- the Rust type stands for the type
under : {T : Type 0} (owns : Bool) (stands : PgType → Bool) (spelled : PgType → Option (List ℕ) → T → Type 0) (refused : PgType → Option (List ℕ) → Option ValueFault → Type 0) (ty : PgType) (raw : Option (List ℕ)) (r : Result T ValueFault) →
    stands ty ≡ true → ReadsUnder owns stands spelled refused ty raw r → Reads owns (spelled ty) (refused ty) raw r
under {T} owns stands spelled refused ty raw r is reads =
    subst (λ (b : Bool). MatchBool b (Reads owns (spelled ty) (refused ty) raw r) (r ≡ Err (fault.WrongType (wrong_type ty.oid rust.Other)))) is reads

pub got-value : {T : Type 0} (owns : Bool) (stands : PgType → Bool) (spelled : PgType → Option (List ℕ) → T → Type 0) (refused : PgType → Option (List ℕ) → Option ValueFault → Type 0) (row : RowOf Column) (index : RowIndex) (value : T) →
    CanGet stands refused row index → Gets (ReadsUnder owns stands spelled refused) row index (Ok value) → GetsValue owns spelled row index (Ok value)
got-value {T} owns stands spelled refused row index value can gets =
    let says = means-column (ReadsUnder owns stands spelled refused) row index can.place can.column (Ok value) can.meant can.there gets in
    let read = under owns stands spelled refused can.column.type_ (cell_at row.cells can.place) (Ok value) can.stands_for says.answers in
    (can.place, can.column, can.meant, can.there, read.1)

lacks : {T : Type 0} (owns : Bool) (spelled : Option (List ℕ) → T → Type 0) (refused : Option (List ℕ) → Option ValueFault → Type 0) (raw : Option (List ℕ)) (f : ValueFault) →
    ((g : ValueFault) → refused raw (Some g) → ⊥) → Reads {A = T} owns spelled refused raw (Err f) → may_lack owns raw ≡ true
lacks {T} owns spelled refused raw f kept (inl lack) = lack.0
lacks {T} owns spelled refused raw f kept (inr says) = absurd (kept f says)

pub got-lack : {T : Type 0} (owns : Bool) (stands : PgType → Bool) (spelled : PgType → Option (List ℕ) → T → Type 0) (refused : PgType → Option (List ℕ) → Option ValueFault → Type 0) (row : RowOf Column) (index : RowIndex) (e : Error) (lack : Lack) →
    CanGet stands refused row index → Gets {T = T} (ReadsUnder owns stands spelled refused) row index (Err e) → GetsValue {T = T} owns spelled row index (Err lack)
got-lack {T} owns stands spelled refused row index e lack can gets =
    let says = means-column {T = T} (ReadsUnder owns stands spelled refused) row index can.place can.column (Err e) can.meant can.there gets in
    let f : ValueFault = says.answers.0 in
    let read = under owns stands spelled refused can.column.type_ (cell_at row.cells can.place) (Err f) can.stands_for says.answers.1 in
    (can.place, can.meant, lacks owns (spelled can.column.type_) (refused can.column.type_) (cell_at row.cells can.place) f can.kept read)

-- ---- texts

-- what a cell of these bytes is read as, by whether they are UTF-8
abbrev by-utf8 : List ℕ → Bool → Result (Option (List ℕ)) ValueFault
by-utf8 bytes b = cond b (Ok (Some bytes)) (Err fault.BadValue)

pub text-read : (raw : Option (Bor (List ℕ))) (bytes text : Bor (List ℕ)) → raw ≡ Some bytes → is_utf8 bytes.now ≡ true → text.now ≡ bytes.now →
    text_in (option_map (λ r. r.now) raw) ≡ Ok (Some text.now)
text-read raw bytes text is valid same =
    ap (λ (o : Option (Bor (List ℕ))). text_in (option_map (λ r. r.now) o)) is ∙ ap (by-utf8 bytes.now) valid ∙ ap (λ (t : List ℕ). Ok (Some t)) (sym same)

pub text-invalid : (raw : Option (Bor (List ℕ))) (bytes : Bor (List ℕ)) → raw ≡ Some bytes → is_utf8 bytes.now ≡ false → text_in (option_map (λ r. r.now) raw) ≡ Err fault.BadValue
text-invalid raw bytes is invalid = ap (λ (o : Option (Bor (List ℕ))). text_in (option_map (λ r. r.now) o)) is ∙ ap (by-utf8 bytes.now) invalid

-- the place of the cell of a row of which a text can be read
same-place : (row : RowOf SimpleColumn) (index : RowIndex) (place : ℕ) → CanGetText row index → simple_place_in row index ≡ Some place → text_in (cell_at row.cells place) ≡ Ok (cell_at row.cells place)
same-place row index place can meant =
    let same : can.0 ≡ place = cc (can.1) in
    subst (λ p. text_in (cell_at row.cells p) ≡ Ok (cell_at row.cells p)) same can.2

pub text-got : (row : RowOf SimpleColumn) (index : RowIndex) (place : ℕ) (text : Option (Bor (List ℕ))) → CanGetText row index → simple_place_in row index ≡ Some place →
    ReadsText (cell_at row.cells place) (Ok text) → text_meant row index ≡ Some (option_map (λ t. t.now) text)
text-got row index place text can meant reads =
    let kept = same-place row index place can meant in
    let same : cell_at row.cells place ≡ option_map (λ t. t.now) text = cc in
    ap (option_map (λ (p : ℕ). cell_at row.cells p)) meant ∙ ap (λ (o : Option (List ℕ)). Some o) same

pub text-refused : (row : RowOf SimpleColumn) (index : RowIndex) (place : ℕ) (f : ValueFault) → CanGetText row index → simple_place_in row index ≡ Some place →
    ReadsText (cell_at row.cells place) (Err f) → ⊥
text-refused row index place f can meant reads = let kept = same-place row index place can meant in cc

pub text-missed : (row : RowOf SimpleColumn) (index : RowIndex) → CanGetText row index → simple_place_in row index ≡ None → ⊥
text-missed row index can none = let some = can.1 in cc
