use Rattle.std.proofs.Common.{arith}
use Rattle.pg_text.proofs.LineLaws.{cut_some}
use Rattle.pg_text.proofs.line.cut_line.Goals as goal

pub returns-in-Some-clause-line : goal.returns-in-Some-clause-line
returns-in-Some-clause-line c = cut_some c.args.words.now c.in-Some.cut (omega arith) c.in-Some.ensures
