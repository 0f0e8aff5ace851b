-- What answers come to, one after another.
use Rattle.std.specs.Prelude.{ℕ, ◌+◌, List, [], ◌∷◌, flat_map, fold, map, codes}
use Rattle.pg_spec.specs.SimpleQuery.{Item, Columns, Row, Complete}
use Rattle.pg_text.specs.Views.{item_of}
use Rattle.pg_text.specs.declared.command.Answer.{Answer}
use Rattle.pg_text.specs.declared.command.Answer.TheVariants.{Count, Done, Failed, Messages, Rows, Scalars, Statement}
use Rattle.pg_gen.specs.Summaries.{number_line, saturated}
use Rattle.pg_gen.specs.declared.counts.Counts.{Counts}

-- with one more message
abbrev pub with_item : Counts → Item → Counts
with_item c (Columns names) = record c { messages = c.messages + 1 }
with_item c (Row cells) = record c { messages = c.messages + 1; rows = c.rows + 1 }
with_item c (Complete affected) = record c { messages = c.messages + 1; complete = saturated (c.complete + affected) }

-- with one more answer
abbrev pub with_answer : Counts → Answer → Counts
with_answer c Done = record c { commands = c.commands + 1 }
with_answer c (Messages messages) = fold with_item (record c { commands = c.commands + 1 }) (map item_of messages)
with_answer c (Statement s) = record c { commands = c.commands + 1 }
with_answer c (Rows s rows affected) = record c { commands = c.commands + 1 }
with_answer c (Scalars values) = record c { commands = c.commands + 1 }
with_answer c (Count n) = record c { commands = c.commands + 1 }
with_answer c (Failed failure) = record c { commands = c.commands + 1; failed = c.failed + 1 }

-- with the answers of a script
abbrev pub with_script : Counts → List Answer → Counts
with_script c answers = fold with_answer c answers

-- nothing is counted
abbrev pub none : Counts
none = record { commands = 0; failed = 0; messages = 0; rows = 0; complete = 0 }

-- the lines on the answers
abbrev pub count_lines : Counts → List ℕ
count_lines c = flat_map number_line (
    (codes "commands", c.commands) ∷ (codes "failed", c.failed) ∷ (codes "messages", c.messages)
    ∷ (codes "rows", c.rows) ∷ (codes "complete", c.complete) ∷ [])

-- and those on what crossed the link
abbrev pub link_lines : (async requests sent : ℕ) → List ℕ
link_lines async requests sent = flat_map number_line ((codes "async", async) ∷ (codes "requests", requests) ∷ (codes "sent", sent) ∷ [])
