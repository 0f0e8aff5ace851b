use Rattle.std.proofs.Common.{arith, codes}
use Rattle.std.proofs.lemmas.Grind.{common_steps}
use Rattle.pg_spec.specs.ReportText.{quoted}
use Rattle.pg_text.proofs.Texts.{join_behind}
use Rattle.pg_text.proofs.print.put_columns.Goals as goal

pub returns : goal.returns
returns c = rw (join_behind quoted (codes "columns") c.args.names.now) (grind (arith, common_steps))
