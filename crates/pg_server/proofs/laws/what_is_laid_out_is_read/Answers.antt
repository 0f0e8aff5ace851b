use Rattle.pg_server.proofs.ParsedLaws.{laid-out}
use Rattle.pg_server.proofs.laws.what_is_laid_out_is_read.Goals as goal

pub returns : goal.returns
returns c bytes rest frame at none text = laid-out bytes rest frame at none text
