use Rattle.std.proofs.Common.{true, false, eq-eqb}
use Rattle.std.proofs.lemmas.Bool.{ne_eqb}
use Rattle.pg_wire.proofs.Cuts.{cut_in_loop, cut_complete}
use Rattle.pg_wire.proofs.front.batch_end.Goals as goal

pub returns-then-tag-eq90 : goal.returns-then-tag-eq90
returns-then-tag-eq90 c =
    cut_complete _ _ (cut_in_loop _ _ _ true c.loop-n.invariant c.in-Whole.ensures c.if-is_aside.ensures (eq-eqb _ _ c.if-tag-eq90.true))

pub loop-n-preserved : goal.loop-n-preserved
loop-n-preserved c =
    cut_in_loop _ _ _ false c.loop-n.invariant c.in-Whole.ensures c.if-is_aside.ensures (ne_eqb _ _ c.if-tag-eq90.false)
