use Rattle.pg_text.proofs.LineLaws.{close_none, close_some}
use Rattle.pg_text.proofs.line.close_line.Goals as goal

pub returns-in-Some-clause-line : goal.returns-in-Some-clause-line
returns-in-Some-clause-line c = close_some c.args.words.now c.in-Some.slot c.in-Some.ensures

pub returns-in-None-clause-line : goal.returns-in-None-clause-line
returns-in-None-clause-line c = close_none c.args.words.now c.in-None.ensures
