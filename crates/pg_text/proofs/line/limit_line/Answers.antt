use Rattle.pg_text.proofs.LineLaws.{limit_some}
use Rattle.pg_text.proofs.line.limit_line.Goals as goal

pub returns-in-Some-clause-line : goal.returns-in-Some-clause-line
returns-in-Some-clause-line c = limit_some c.args.words.now c.in-Some.limit c.in-Some.ensures
