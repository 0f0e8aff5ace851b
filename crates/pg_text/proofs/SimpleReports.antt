-- A report on simple queries alone prints as the definition on these says.
use Rattle.std.proofs.Common.{◌≡◌, ℕ, ◌+◌, List, [], ◌∷◌, ◌++◌, map, flat_map, codes, decimal, refl, ap, ◌∙◌}
use Rattle.std.specs.List.{enumerate_from}
use Rattle.hex.specs.Hex.{encode_lower}
use Rattle.std.proofs.lemmas.List.{length-map}
use Rattle.pg_spec.specs.Report as said
use Rattle.pg_spec.specs.ReportText as simply
use Rattle.pg_spec.specs.ReportText.{line, signed, quoted, failure_words, item_line, async_line, book_line, turn_line}
use Rattle.pg_spec.specs.SimpleQuery.{Columns, Complete, Item, Row}
use Rattle.pg_errors.specs.Views.{async_of}
use Rattle.pg_text.specs.declared.command.Answer.{Answer}
use Rattle.pg_text.specs.declared.report.Report.{Report}
use Rattle.pg_text.specs.ReportText.{answer_lines, report_text, script_lines}
use Rattle.pg_text.specs.Views.{as_answer, as_answers, as_message, booking_of, item_of, simple_report}

item-back : (x : Item) → item_of (as_message x) ≡ x
item-back (Columns names) = refl
item-back (Row cells) = refl
item-back (Complete n) = refl

items-back : (xs : List Item) → map item_of (map as_message xs) ≡ xs
items-back [] = refl
items-back (x ∷ xs) = λ i. item-back x i ∷ items-back xs i

answer-same : (handle command : ℕ) (a : said.Answer) → answer_lines handle (command, as_answer a) ≡ simply.answer_lines handle (command, a)
answer-same handle command (said.Items items) =
    λ i. line (codes "answer" ∷ decimal handle ∷ decimal command ∷ codes "messages" ∷ decimal (length-map items as_message i) ∷ []) ++ flat_map item_line (items-back items i)
answer-same handle command (said.Failed e) = refl

answers-same : (handle n : ℕ) (answers : List said.Answer) → flat_map (answer_lines handle) (enumerate_from n (map as_answer answers)) ≡ flat_map (simply.answer_lines handle) (enumerate_from n answers)
answers-same handle n [] = refl
answers-same handle n (a ∷ answers) = λ i. answer-same handle n a i ++ answers-same handle (n + 1) answers i

scripts-same : (n : ℕ) (answers : List (List said.Answer)) → flat_map script_lines (enumerate_from n (as_answers answers)) ≡ flat_map simply.script_lines (enumerate_from n answers)
scripts-same n [] = refl
scripts-same n (script ∷ answers) = λ i. answers-same n 0 script i ++ scripts-same (n + 1) answers i

-- the text of a report, with these lines for its answers
abbrev with_answers : Report → List ℕ → List ℕ
with_answers r lines =
    line (codes "status" ∷ codes "ok" ∷ [])
    ++ line (codes "process" ∷ signed r.process_id ∷ signed r.secret_key ∷ [])
    ++ flat_map (λ (pair : List ℕ × List ℕ). line (codes "parameter" ∷ quoted pair.0 ∷ quoted pair.1 ∷ [])) (map (λ p. (p.name, p.value)) r.parameters)
    ++ flat_map async_line (map async_of r.asynchronous)
    ++ lines
    ++ flat_map book_line (enumerate_from 0 (map booking_of r.book))
    ++ flat_map turn_line r.trace
    ++ line (codes "sent" ∷ encode_lower r.sent ∷ [])

pub prints-simply : (r : Report) (answers : List (List said.Answer)) → r.answers ≡ as_answers answers → report_text r ≡ simply.report_text (simple_report r answers)
prints-simply r answers is =
    ap (λ (x : List (List Answer)). with_answers r (flat_map script_lines (enumerate_from 0 x))) is
    ∙ ap (with_answers r) (scripts-same 0 answers)
