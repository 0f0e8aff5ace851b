use Rattle.std.proofs.Common.{◌∙◌}
use Rattle.pg_gen.specs.Messages.{one_cell}
use Rattle.pg_gen.proofs.ReplyBytes.{one_row_more}
use Rattle.pg_gen.proofs.reply.put_rows.Goals as goal

pub loop-row-preserved : goal.loop-row-preserved
loop-row-preserved c =
    c.in_ok-put_row.ensures ∙ one_row_more c.loop-row.row (one_cell c.args.value.now) c.args.out.now.items c.loop-row.out.items c.loop-row.invariant
