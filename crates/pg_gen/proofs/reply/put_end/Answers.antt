use Rattle.pg_gen.proofs.ReplyBytes.{end_written}
use Rattle.pg_gen.proofs.reply.put_end.Goals as goal

pub returns : goal.returns
returns c =
    end_written c.args.out.now.items c.extend_from_slice.new.self.items c.extend_from_slice-2.new.self.items
    c.args.rows c.requires c.in_ok-extend_from_slice.ensures.items c.in_ok-extend_from_slice-2.ensures.items
