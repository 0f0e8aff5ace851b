use Rattle.std.proofs.Common.{arith}
use Rattle.std.proofs.lemmas.Grind.{common_steps}
use Rattle.pg_text.proofs.Texts.{encode_with-append, encode_with-nil}
use Rattle.pg_text.proofs.print.put_parts.Goals as goal

pub loop-part-preserved : goal.loop-part-preserved
loop-part-preserved c = grind (arith, common_steps, encode_with-append)

pub returns : goal.returns
returns c = grind (arith, common_steps, encode_with-nil)
