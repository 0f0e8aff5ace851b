-- A message that does what was told of it is read so.
use Rattle.std.proofs.Common.{◌≡◌, ℕ, List, [], ◌∷◌, length, Bool, Option, Some, None, option_map, Result, Ok, Err, IfOk, refl, sym, ap, ◌∙◌, subst}
use Rattle.std.specs.declared.alloc.AllocError.{AllocError}
use Rattle.pg_spec.specs.RawMessages.{RawMessage}
use Rattle.pg_spec.specs.Readings.{Next, GoesOn, Answers, Decision, decision, decided_by, one_later}
use Rattle.pg_types.specs.declared.error.Error.{Error}
use Rattle.pg_desk.specs.declared.statement.Described.{Described as Statement}
use Rattle.pg_query.specs.Reading.{ReadsOn}
use Rattle.pg_core.specs.Cells.{Cells}
use Rattle.pg_core.specs.Lookups.{TypeRow, type_row}
use Rattle.pg_core.specs.QueryReplies.{Said, Collected, said_by, told_by, first_row_by, all_rows_by}
use Rattle.pg_search.specs.CatalogReadings.{row_next, reading_of_row, label_of, labels_next, labels_so_far, reading_of_labels, whole_row, fields_next, rows_so_far, reading_of_fields}
use Rattle.pg_search.specs.Saying.{Does}
use Rattle.pg_search.specs.declared.row_reading.RowReading.{RowReading}
use Rattle.pg_search.specs.declared.labels_reading.LabelsReading.{LabelsReading}
use Rattle.pg_search.specs.declared.fields_reading.FieldsReading.{FieldsReading}

-- the answer of what was decided
abbrev answer-of : {A : Type 0} → Option (Decision A) → Option A
answer-of d = option_map (λ k. k.answer) d

later-same : {A : Type 0} (d : Option (Decision A)) → answer-of (option_map one_later d) ≡ answer-of d
later-same None = refl
later-same (Some d) = refl

-- what a message does, and the later ones
abbrev told-behind : {S T : Type 0} → (S → RawMessage → Next S (Result T Error)) → List RawMessage → Next S (Result T Error) → Option (Result T Error)
told-behind next ms n = answer-of (decided_by n (λ later. decision (λ s. None) next later ms))

-- it answers
told-answers : {S T : Type 0} (next : S → RawMessage → Next S (Result T Error)) (old : S) (raw : RawMessage) (r : Result T Error) →
    next old raw ≡ Answers r → told_by next old (raw ∷ []) ≡ Some r
told-answers next old raw r does = ap (told-behind next []) does

-- it goes on
told-later : {S T : Type 0} (next : S → RawMessage → Next S (Result T Error)) (old new : S) (raw : RawMessage) (ms : List RawMessage) →
    next old raw ≡ GoesOn new → told_by next old (raw ∷ ms) ≡ told_by next new ms
told-later next old new raw ms does = ap (told-behind next ms) does ∙ later-same (decision (λ s. None) next new ms)

-- ---- a type's own row

row-reads : (old new : RowReading) (raw : RawMessage) (told : Option (Result TypeRow Error)) → new.statement ≡ old.statement →
    Does (row_next old.statement old.bound raw) told new.bound → ReadsOn reading_of_row old raw told new
row-reads old new raw (Some r) same does = told-answers (row_next old.statement) old.bound raw r does
row-reads old new raw None same does = (
  told-later (row_next old.statement) old.bound new.bound raw [] does,
  λ ms. told-later (row_next old.statement) old.bound new.bound raw ms does ∙ ap (λ (s : Statement). told_by (row_next s) new.bound ms) (sym same),
)

pub row-message : (old new : RowReading) (raw : RawMessage) (said : Said) (r : Result (Option (Result TypeRow Error)) AllocError) → new.statement ≡ old.statement →
    said ≡ said_by old.bound (length old.statement.columns) raw → IfOk r (λ told. Does (first_row_by (type_row old.statement.columns) old.bound said) told new.bound) →
    IfOk r (λ told. ReadsOn reading_of_row old raw told new)
row-message old new raw said (Ok told) same says does =
    row-reads old new raw told same (subst (λ (s : Said). Does (first_row_by (type_row old.statement.columns) old.bound s) told new.bound) says does)
row-message old new raw said (Err e) same says does = tt

-- ---- labels

labels-reads : (old new : LabelsReading) (raw : RawMessage) (told : Option (Result (List (List ℕ)) Error)) → new.statement ≡ old.statement →
    Does (labels_next old.statement (labels_so_far old) raw) told (labels_so_far new) → ReadsOn reading_of_labels old raw told new
labels-reads old new raw (Some r) same does = told-answers (labels_next old.statement) (labels_so_far old) raw r does
labels-reads old new raw None same does = (
  told-later (labels_next old.statement) (labels_so_far old) (labels_so_far new) raw [] does,
  λ ms. told-later (labels_next old.statement) (labels_so_far old) (labels_so_far new) raw ms does ∙ ap (λ (s : Statement). told_by (labels_next s) (labels_so_far new) ms) (sym same),
)

pub labels-message : (old new : LabelsReading) (raw : RawMessage) (said : Said) (r : Result (Option (Result (List (List ℕ)) Error)) AllocError) → new.statement ≡ old.statement →
    said ≡ said_by old.bound (length old.statement.columns) raw → IfOk r (λ told. Does (all_rows_by (label_of old.statement) (labels_so_far old) said) told (labels_so_far new)) →
    IfOk r (λ told. ReadsOn reading_of_labels old raw told new)
labels-message old new raw said (Ok told) same says does =
    labels-reads old new raw told same (subst (λ (s : Said). Does (all_rows_by (label_of old.statement) (labels_so_far old) s) told (labels_so_far new)) says does)
labels-message old new raw said (Err e) same says does = tt

-- ---- rows of fields

fields-reads : (old new : FieldsReading) (raw : RawMessage) (told : Option (Result (List Cells) Error)) → new.columns ≡ old.columns →
    Does (fields_next old.columns (rows_so_far old) raw) told (rows_so_far new) → ReadsOn reading_of_fields old raw told new
fields-reads old new raw (Some r) same does = told-answers (fields_next old.columns) (rows_so_far old) raw r does
fields-reads old new raw None same does = (
  told-later (fields_next old.columns) (rows_so_far old) (rows_so_far new) raw [] does,
  λ ms. told-later (fields_next old.columns) (rows_so_far old) (rows_so_far new) raw ms does ∙ ap (λ (n : ℕ). told_by (fields_next n) (rows_so_far new) ms) (sym same),
)

pub fields-message : (old new : FieldsReading) (raw : RawMessage) (said : Said) (r : Result (Option (Result (List Cells) Error)) AllocError) → new.columns ≡ old.columns →
    said ≡ said_by old.bound old.columns raw → IfOk r (λ told. Does (all_rows_by whole_row (rows_so_far old) said) told (rows_so_far new)) →
    IfOk r (λ told. ReadsOn reading_of_fields old raw told new)
fields-message old new raw said (Ok told) same says does =
    fields-reads old new raw told same (subst (λ (s : Said). Does (all_rows_by whole_row (rows_so_far old) s) told (rows_so_far new)) says does)
fields-message old new raw said (Err e) same says does = tt
