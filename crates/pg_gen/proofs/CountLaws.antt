-- What counts come to, number by number.
use Rattle.std.proofs.Common.{◌≡◌, ℕ, ◌+◌, ◌-◌, ◌^◌, ◌≤◌, cond, List, [], ◌∷◌, ◌++◌, length, map, fold, flat_map, count_by, sum_by, refl, sym, ap, ◌∙◌, arith, codes, append-nil}
use Rattle.std.proofs.lemmas.List.{length-append}
use Rattle.std.proofs.lemmas.List.Concat.{flat_map-append}
use Rattle.std.proofs.lemmas.List.Sums.{sum_by-append}
use Rattle.pg_spec.specs.SimpleQuery.{Item, Columns, Row, Complete}
use Rattle.pg_text.specs.ReportText.{answer_items}
use Rattle.pg_text.specs.Views.{item_of}
use Rattle.pg_text.specs.declared.command.Answer.{Answer}
use Rattle.pg_text.specs.declared.command.Answer.TheVariants.{Count, Done, Failed, Messages, Rows, Scalars, Statement}
use Rattle.pg_text.specs.declared.report.Report.{Report}
use Rattle.pg_gen.specs.Counting.{count_lines, link_lines, none, with_answer, with_item, with_script}
use Rattle.pg_gen.specs.Summaries.{affected_by, answers_of, is_failed, is_row, items_of, number_line, saturated, summary_text}
use Rattle.pg_gen.specs.declared.counts.Counts.{Counts}

-- ---- messages

record ItemsCounted (old new : Counts) (items : List Item) : Type 0 where
  commands : new.commands ≡ old.commands
  failed : new.failed ≡ old.failed
  messages : new.messages ≡ old.messages + length items
  rows : new.rows ≡ old.rows + count_by is_row items
  complete : old.complete ≤ 2 ^ 64 - 1 → new.complete ≡ saturated (old.complete + sum_by affected_by items)

ItemsCounted-append : (a b c : Counts) (xs ys : List Item) → ItemsCounted a b xs → ItemsCounted b c ys → ItemsCounted a c (xs ++ ys)
ItemsCounted-append a b c xs ys h k = record {
  commands = k.commands ∙ h.commands;
  failed = k.failed ∙ h.failed;
  messages = omega (arith, h.messages, k.messages, length-append xs ys);
  rows = omega (arith, h.rows, k.rows, sum_by-append (λ x. cond (is_row x) 1 0) xs ys);
  complete = λ fits.
      let first = h.complete fits in
      let second = k.complete (omega (arith, first)) in
      omega (arith, first, second, sum_by-append affected_by xs ys);
}

one_item : (c : Counts) (item : Item) → ItemsCounted c (with_item c item) (item ∷ [])
one_item c (Columns names) = record { commands = refl; failed = refl; messages = omega arith; rows = omega arith; complete = λ fits. omega arith }
one_item c (Row cells) = record { commands = refl; failed = refl; messages = omega arith; rows = omega arith; complete = λ fits. omega arith }
one_item c (Complete affected) = record { commands = refl; failed = refl; messages = omega arith; rows = omega arith; complete = λ fits. omega arith }

all_items : (c : Counts) (items : List Item) → ItemsCounted c (fold with_item c items) items
all_items c [] = record { commands = refl; failed = refl; messages = omega arith; rows = omega arith; complete = λ fits. omega arith }
all_items c (item ∷ items) =
    ItemsCounted-append c (with_item c item) (fold with_item (with_item c item) items) (item ∷ []) items (one_item c item) (all_items (with_item c item) items)

-- ---- answers

record Counted (old new : Counts) (answers : List Answer) : Type 0 where
  commands : new.commands ≡ old.commands + length answers
  failed : new.failed ≡ old.failed + count_by is_failed answers
  messages : new.messages ≡ old.messages + length (items_of answers)
  rows : new.rows ≡ old.rows + count_by is_row (items_of answers)
  complete : old.complete ≤ 2 ^ 64 - 1 → new.complete ≡ saturated (old.complete + sum_by affected_by (items_of answers))

Counted-append : (a b c : Counts) (xs ys : List Answer) → Counted a b xs → Counted b c ys → Counted a c (xs ++ ys)
Counted-append a b c xs ys h k =
    let joined : items_of (xs ++ ys) ≡ items_of xs ++ items_of ys = flat_map-append answer_items xs ys in
    record {
      commands = omega (arith, h.commands, k.commands, length-append xs ys);
      failed = omega (arith, h.failed, k.failed, sum_by-append (λ x. cond (is_failed x) 1 0) xs ys);
      messages = omega (arith, h.messages, k.messages, ap length joined, length-append (items_of xs) (items_of ys));
      rows = omega (arith, h.rows, k.rows, ap (count_by is_row) joined, sum_by-append (λ x. cond (is_row x) 1 0) (items_of xs) (items_of ys));
      complete = λ fits.
          let first = h.complete fits in
          let second = k.complete (omega (arith, first)) in
          omega (arith, first, second, ap (sum_by affected_by) joined, sum_by-append affected_by (items_of xs) (items_of ys));
    }

one_answer : (c : Counts) (answer : Answer) → Counted c (with_answer c answer) (answer ∷ [])
one_answer c Done = record { commands = omega arith; failed = omega arith; messages = omega arith; rows = omega arith; complete = λ fits. omega arith }
one_answer c (Messages messages) =
    let items : List Item = map item_of messages in
    let h = all_items (record c { commands = c.commands + 1 }) items in
    let same : items ++ [] ≡ items = append-nil items in
    record {
      commands = omega (arith, h.commands);
      failed = omega (arith, h.failed);
      messages = omega (arith, h.messages, ap length same);
      rows = omega (arith, h.rows, ap (count_by is_row) same);
      complete = λ fits. omega (arith, h.complete fits, ap (sum_by affected_by) same);
    }
one_answer c (Statement s) = record { commands = omega arith; failed = omega arith; messages = omega arith; rows = omega arith; complete = λ fits. omega arith }
one_answer c (Rows s rows affected) = record { commands = omega arith; failed = omega arith; messages = omega arith; rows = omega arith; complete = λ fits. omega arith }
one_answer c (Scalars values) = record { commands = omega arith; failed = omega arith; messages = omega arith; rows = omega arith; complete = λ fits. omega arith }
one_answer c (Count n) = record { commands = omega arith; failed = omega arith; messages = omega arith; rows = omega arith; complete = λ fits. omega arith }
one_answer c (Failed failure) = record { commands = omega arith; failed = omega arith; messages = omega arith; rows = omega arith; complete = λ fits. omega arith }

all_answers : (c : Counts) (answers : List Answer) → Counted c (with_script c answers) answers
all_answers c [] = record { commands = omega arith; failed = omega arith; messages = omega arith; rows = omega arith; complete = λ fits. omega arith }
all_answers c (answer ∷ answers) =
    Counted-append c (with_answer c answer) (with_script (with_answer c answer) answers) (answer ∷ []) answers (one_answer c answer) (all_answers (with_answer c answer) answers)

all_scripts : (c : Counts) (scripts : List (List Answer)) → Counted c (fold with_script c scripts) (flat_map (λ answers. answers) scripts)
all_scripts c [] = record { commands = omega arith; failed = omega arith; messages = omega arith; rows = omega arith; complete = λ fits. omega arith }
all_scripts c (script ∷ scripts) =
    Counted-append c (with_script c script) (fold with_script (with_script c script) scripts) script (flat_map (λ answers. answers) scripts)
    (all_answers c script) (all_scripts (with_script c script) scripts)

-- ---- the lines

-- five numbers with their names
abbrev five : (a b c d e : ℕ) → List (List ℕ × ℕ)
five a b c d e = (codes "commands", a) ∷ (codes "failed", b) ∷ (codes "messages", c) ∷ (codes "rows", d) ∷ (codes "complete", e) ∷ []

-- and three
abbrev three : (a b c : ℕ) → List (List ℕ × ℕ)
three a b c = (codes "async", a) ∷ (codes "requests", b) ∷ (codes "sent", c) ∷ []

-- the numbers of some answers, and their lines
abbrev counted : List Answer → List (List ℕ × ℕ)
counted answers = five (length answers) (count_by is_failed answers) (length (items_of answers)) (count_by is_row (items_of answers)) (saturated (sum_by affected_by (items_of answers)))

abbrev lines_on : List Answer → List ℕ
lines_on answers = flat_map number_line (counted answers)

lines_are : (c : Counts) (answers : List Answer) → Counted none c answers → count_lines c ≡ lines_on answers
lines_are c answers h =
    let a : c.commands ≡ length answers = omega (arith, h.commands) in
    let b : c.failed ≡ count_by is_failed answers = omega (arith, h.failed) in
    let m : c.messages ≡ length (items_of answers) = omega (arith, h.messages) in
    let r : c.rows ≡ count_by is_row (items_of answers) = omega (arith, h.rows) in
    let e : c.complete ≡ saturated (sum_by affected_by (items_of answers)) = omega (arith, h.complete (omega arith)) in
    λ i. flat_map number_line (five (a i) (b i) (m i) (r i) (e i))

-- the text of a summary: the lines on the answers, and those on what crossed the link
pub summary_is : (r : Report) → count_lines (fold with_script none r.answers) ++ link_lines (length r.asynchronous) (length r.book) (length r.sent) ≡ summary_text r
summary_is r =
    ap (λ l. l ++ link_lines (length r.asynchronous) (length r.book) (length r.sent))
    (lines_are (fold with_script none r.answers) (answers_of r) (all_scripts none r.answers))
    ∙ sym (flat_map-append number_line (counted (answers_of r)) (three (length r.asynchronous) (length r.book) (length r.sent)))
