use Rattle.std.proofs.Common.{arith, codes}
use Rattle.std.proofs.lemmas.Grind.{common_steps}
use Rattle.pg_spec.specs.ReportText.{cell}
use Rattle.pg_text.proofs.Texts.{join_behind}
use Rattle.pg_text.proofs.print.put_shared_row.Goals as goal

pub returns : goal.returns
returns c = rw (join_behind cell (codes "row") c.args.cells.now) (grind (arith, common_steps))
