-- What a report comes to, in eight lines.
use Rattle.std.specs.Prelude.{ℕ, ◌-◌, ◌^◌, min, Bool, true, false, List, [], ◌∷◌, length, flat_map, count_by, sum_by, codes, decimal}
use Rattle.pg_spec.specs.ReportText.{line}
use Rattle.pg_spec.specs.SimpleQuery.{Item, Row, Complete}
use Rattle.pg_text.specs.ReportText.{answer_items}
use Rattle.pg_text.specs.declared.command.Answer.{Answer}
use Rattle.pg_text.specs.declared.command.Answer.TheVariants.{Failed}
use Rattle.pg_text.specs.declared.report.Report.{Report}

-- the answers of all scripts
abbrev pub answers_of : Report → List Answer
answers_of r = flat_map (λ answers. answers) r.answers

-- the messages in them
abbrev pub items_of : List Answer → List Item
items_of answers = flat_map answer_items answers

-- it failed
abbrev pub is_failed : Answer → Bool
is_failed (Failed e) = true
is_failed other = false

-- it is a row
abbrev pub is_row : Item → Bool
is_row (Row cells) = true
is_row other = false

-- how many rows a command affected, by a message
abbrev pub affected_by : Item → ℕ
affected_by (Complete affected) = affected
affected_by other = 0

-- a sum that stays at the largest number of 64 bits where it would pass it
abbrev pub saturated : ℕ → ℕ
saturated n = min n (2 ^ 64 - 1)

-- each number with its name
abbrev pub summary : Report → List (List ℕ × ℕ)
summary r =
    (codes "commands", length (answers_of r))
    ∷ (codes "failed", count_by is_failed (answers_of r))
    ∷ (codes "messages", length (items_of (answers_of r)))
    ∷ (codes "rows", count_by is_row (items_of (answers_of r)))
    ∷ (codes "complete", saturated (sum_by affected_by (items_of (answers_of r))))
    ∷ (codes "async", length r.asynchronous)
    ∷ (codes "requests", length r.book)
    ∷ (codes "sent", length r.sent)
    ∷ []

-- a line for each
abbrev pub number_line : List ℕ × ℕ → List ℕ
number_line row = line (row.0 ∷ decimal row.1 ∷ [])

-- the report's eight lines
abbrev pub summary_text : Report → List ℕ
summary_text r = flat_map number_line (summary r)
