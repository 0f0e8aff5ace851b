use Rattle.pg_wire.proofs.Counts.{counted_more}
use Rattle.pg_wire.proofs.front.count.Goals as goal

pub loop-len-preserved : goal.loop-len-preserved
loop-len-preserved c = counted_more c.args.s.now c.loop-len.at c.in-Whole.len c.loop-len.n c.loop-len.invariant c.in-Whole.ensures
