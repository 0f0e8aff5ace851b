-- What the readings of replies from the catalog tell from here on.
use Rattle.std.specs.Prelude.{ℕ, List, length, Bool, Option, Result, Ok}
use Rattle.pg_spec.specs.RawMessages.{RawMessage}
use Rattle.pg_spec.specs.Readings.{Next}
use Rattle.pg_types.specs.declared.error.Error.{Error}
use Rattle.pg_desk.specs.declared.statement.Described.{Described as Statement}
use Rattle.pg_core.specs.Cells.{Cells, value_at, text_in}
use Rattle.pg_core.specs.Lookups.{TypeRow, type_row}
use Rattle.pg_core.specs.QueryReplies.{Collected, said_by, told_by, first_row_by, all_rows_by}
use Rattle.pg_search.specs.declared.row_reading.RowReading.{RowReading}
use Rattle.pg_search.specs.declared.labels_reading.LabelsReading.{LabelsReading}
use Rattle.pg_search.specs.declared.fields_reading.FieldsReading.{FieldsReading}

-- ---- a type's own row

-- what a message does
abbrev pub row_next : Statement → Bool → RawMessage → Next Bool (Result TypeRow Error)
row_next s bound raw = first_row_by (type_row s.columns) bound (said_by bound (length s.columns) raw)

-- what is told
abbrev pub reading_of_row : RowReading → List RawMessage → Option (Result TypeRow Error)
reading_of_row r = told_by (row_next r.statement) r.bound

-- ---- labels

-- the label of a row
abbrev pub label_of : Statement → Cells → Result (List ℕ) Error
label_of s cells = value_at text_in s.columns cells 0

-- what a message does
abbrev pub labels_next : Statement → Collected (List ℕ) → RawMessage → Next (Collected (List ℕ)) (Result (List (List ℕ)) Error)
labels_next s c raw = all_rows_by (label_of s) c (said_by c.bound (length s.columns) raw)

-- the labels so far
abbrev pub labels_so_far : LabelsReading → Collected (List ℕ)
labels_so_far r = record { bound = r.bound; items = r.labels }

-- what is told
abbrev pub reading_of_labels : LabelsReading → List RawMessage → Option (Result (List (List ℕ)) Error)
reading_of_labels r = told_by (labels_next r.statement) (labels_so_far r)

-- ---- rows of fields

-- a row as it is
abbrev pub whole_row : Cells → Result Cells Error
whole_row cells = Ok cells

-- what a message does
abbrev pub fields_next : (columns : ℕ) → Collected Cells → RawMessage → Next (Collected Cells) (Result (List Cells) Error)
fields_next columns c raw = all_rows_by whole_row c (said_by c.bound columns raw)

-- the rows so far
abbrev pub rows_so_far : FieldsReading → Collected Cells
rows_so_far r = record { bound = r.bound; items = r.rows }

-- what is told
abbrev pub reading_of_fields : FieldsReading → List RawMessage → Option (Result (List Cells) Error)
reading_of_fields r = told_by (fields_next r.columns) (rows_so_far r)
