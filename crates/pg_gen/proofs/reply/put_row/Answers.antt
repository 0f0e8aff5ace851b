use Rattle.pg_gen.proofs.ReplyBytes.{row_written}
use Rattle.pg_gen.proofs.reply.put_row.Goals as goal

pub returns : goal.returns
returns c =
    row_written c.args.out.now.items c.args.value.now c.extend_from_slice.new.self.items c.extend_from_slice-2.new.self.items
    c.requires c.in_ok-extend_from_slice.ensures.items c.in_ok-extend_from_slice-2.ensures.items
