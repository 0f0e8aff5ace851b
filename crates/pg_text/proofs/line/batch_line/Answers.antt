use Rattle.pg_text.proofs.LineLaws.{batch_none, batch_some}
use Rattle.pg_text.proofs.line.batch_line.Goals as goal

pub returns-in-Some-clause-line : goal.returns-in-Some-clause-line
returns-in-Some-clause-line c = batch_some c.args.words.now c.in-Some.text (rw c.in-Some.is at c.in_ok-text.ensures)

pub returns-in-None-clause-line : goal.returns-in-None-clause-line
returns-in-None-clause-line c = batch_none c.args.words.now (rw c.in-None.is at c.in_ok-text.ensures)
