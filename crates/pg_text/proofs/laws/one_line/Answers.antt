use Rattle.pg_text.proofs.LineLaws.{one_line}
use Rattle.pg_text.proofs.laws.one_line.Goals as goal

pub returns : goal.returns
returns c = one_line
