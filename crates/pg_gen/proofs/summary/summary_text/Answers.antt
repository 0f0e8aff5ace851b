use Rattle.std.proofs.Common.{arith}
use Rattle.std.proofs.lemmas.Grind.{common_steps}
use Rattle.pg_gen.proofs.CountLaws.{summary_is}
use Rattle.pg_gen.proofs.summary.summary_text.Goals as goal

pub returns : goal.returns
returns c = rw (← summary_is c.args.report.now) (grind (arith, common_steps))
