-- The text of a report, line by line.
use Rattle.std.specs.Prelude.{ℕ, List, [], ◌∷◌, ◌++◌, length, map, flat_map, true, false, Option, Some, None, codes, decimal}
use Rattle.std.specs.List.{enumerate_from}
use Rattle.hex.specs.Hex.{encode_lower}
use Rattle.pg_spec.specs.ReportText.{line, signed, quoted, failure_words, item_line, async_line, book_line, turn_line}
use Rattle.pg_spec.specs.SimpleQuery.{Item, Row}
use Rattle.pg_errors.specs.Views.{async_of}
use Rattle.pg_types.specs.declared.pg_type.PgType.{PgType}
use Rattle.pg_types.specs.declared.value.Value.{Value}
use Rattle.pg_types.specs.declared.value.Value.TheVariants.{Bool, Bytes, Int, Null, Text}
use Rattle.pg_desk.specs.declared.column.Column.{Column}
use Rattle.pg_text.specs.declared.command.Answer.{Answer}
use Rattle.pg_text.specs.declared.command.Answer.TheVariants.{Count, Done, Failed, Messages, Rows, Scalars, Statement}
use Rattle.pg_text.specs.declared.report.Report.{Report}
use Rattle.pg_text.specs.Views.{booking_of, item_of}

-- how many rows were affected, where a command ended
abbrev pub affected_word : Option ℕ → List ℕ
affected_word (Some n) = decimal n
affected_word None = codes "-"

-- what stands in an answer's first line
abbrev pub answer_words : Answer → List (List ℕ)
answer_words Done = codes "done" ∷ []
answer_words (Messages messages) = codes "messages" ∷ decimal (length messages) ∷ []
answer_words (Statement s) = codes "statement" ∷ quoted s.name ∷ []
answer_words (Rows s rows affected) = codes "rows" ∷ decimal (length rows) ∷ affected_word affected ∷ []
answer_words (Scalars values) = codes "scalars" ∷ decimal (length values) ∷ []
answer_words (Count n) = codes "count" ∷ decimal n ∷ []
answer_words (Failed e) = codes "failed" ∷ failure_words e

-- the messages in it
abbrev pub answer_items : Answer → List Item
answer_items (Messages messages) = map item_of messages
answer_items other = []

-- the type of a parameter
abbrev pub param_line : PgType → List ℕ
param_line param = line (codes "param" ∷ decimal param.oid ∷ [])

-- a column of the rows that a statement gives: its name and its type
abbrev pub column_line : Column → List ℕ
column_line column = line (codes "column" ∷ quoted column.name ∷ decimal column.type_.oid ∷ [])

-- a row of a statement
abbrev pub row_line : List (Option (List ℕ)) → List ℕ
row_line cells = item_line (Row cells)

-- a value as a line of a session text has it
abbrev pub value_word : Value → List ℕ
value_word Null = codes "null"
value_word (Bool true) = codes "true"
value_word (Bool false) = codes "false"
value_word (Int z) = signed z
value_word (Text text) = quoted text
value_word (Bytes bytes) = codes "x" ++ encode_lower bytes

-- a value of one column
abbrev pub value_line : Value → List ℕ
value_line value = line (codes "value" ∷ value_word value ∷ [])

-- the lines that follow it
abbrev pub further_lines : Answer → List ℕ
further_lines (Statement s) = flat_map param_line s.params ++ flat_map column_line s.columns
further_lines (Rows s rows affected) = flat_map column_line s.columns ++ flat_map row_line rows
further_lines (Scalars values) = flat_map value_line values
further_lines other = flat_map item_line (answer_items other)

-- the lines of the answer to a command
abbrev pub answer_lines : ℕ → ℕ × Answer → List ℕ
answer_lines handle (command, answer) =
    line (codes "answer" ∷ decimal handle ∷ decimal command ∷ answer_words answer) ++ further_lines answer

-- the lines of the answers of a handle
abbrev pub script_lines : ℕ × List Answer → List ℕ
script_lines (handle, answers) = flat_map (answer_lines handle) (enumerate_from 0 answers)

-- the whole text
abbrev pub report_text : Report → List ℕ
report_text r =
    line (codes "status" ∷ codes "ok" ∷ [])
    ++ line (codes "process" ∷ signed r.process_id ∷ signed r.secret_key ∷ [])
    ++ flat_map (λ (pair : List ℕ × List ℕ). line (codes "parameter" ∷ quoted pair.0 ∷ quoted pair.1 ∷ [])) (map (λ p. (p.name, p.value)) r.parameters)
    ++ flat_map async_line (map async_of r.asynchronous)
    ++ flat_map script_lines (enumerate_from 0 r.answers)
    ++ flat_map book_line (enumerate_from 0 (map booking_of r.book))
    ++ flat_map turn_line r.trace
    ++ line (codes "sent" ∷ encode_lower r.sent ∷ [])
