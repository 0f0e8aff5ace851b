use Rattle.std.proofs.Common.{◌+◌, ◌-◌, arith}
use Rattle.pg_server.proofs.TrafficLaws.{lengthens}
use Rattle.pg_server.proofs.copies.copy_more.Goals as goal

pub returns-clause-copied : goal.returns-clause-copied
returns-clause-copied c =
    lengthens c.args.piece.now c.args.out.now c.copy_from_slice.new.self c.args.n c.min-count.result (c.args.n + c.min-count.result - c.args.n) c.requires c.min-count.ensures
    c.copy_from_slice.ensures.after (omega arith)
