use Rattle.std.proofs.Common.{length, ap, ◌∙◌}
use Rattle.pg_rows.proofs.Walked.{cells-take}
use Rattle.pg_rows.proofs.cells.size.Goals as goal

pub returns : goal.returns
returns c = ap length c.buffer.ensures ∙ cells-take c.args.body.now.count c.args.body.now.cells _ c.requires
