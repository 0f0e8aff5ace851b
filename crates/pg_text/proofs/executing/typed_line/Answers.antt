use Rattle.pg_text.proofs.LineLaws.{typed_pairless, typed_some, typed_textless}
use Rattle.pg_text.proofs.executing.typed_line.Goals as goal

pub returns-in_default-clause-line : goal.returns-in_default-clause-line
returns-in_default-clause-line c = typed_textless c.args.execution c.args.words.now c.utf8_text.new.words (rw c.in_default.is at c.in_ok-text.ensures)

pub returns-in_default-2-clause-line : goal.returns-in_default-2-clause-line
returns-in_default-2-clause-line c =
    let quoted = rw c.in-Some.is at c.in_ok-text.ensures in
    typed_pairless c.args.execution c.args.words.now c.utf8_text.new.words c.in-Some.text quoted (rw c.in_default-2.is at c.in_ok-pairs.ensures)

pub returns-clause-line : goal.returns-clause-line
returns-clause-line c =
    let quoted = rw c.in-Some.is at c.in_ok-text.ensures in
    let read = rw c.in-Some-2.is at c.in_ok-pairs.ensures in
    rw c.command.ensures (typed_some c.args.execution c.args.words.now c.utf8_text.new.words c.in-Some.text read.0 c.in-Some-2.pairs.types c.in-Some-2.pairs.values read.2.types read.2.values quoted read.1)
