use Rattle.pg_diagnostics.proofs.Heads.{grows}
use Rattle.pg_diagnostics.proofs.front.Head.add.Goals as goal

pub returns : goal.returns
returns c =
    grows c.self.inside.bytes c.args.self.now c.args.piece.now c.copy_from_slice.new.self c.self.inside.len c.min-n.result
    c.self.invariant c.self.ranges.0.1.0.1 c.self.view_is c.min-n.ensures c.copy_from_slice.ensures.after
