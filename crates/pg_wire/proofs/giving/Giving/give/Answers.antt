use Rattle.std.proofs.Common.{◌≡◌, ◌-◌, length, drop, arith}
use Rattle.std.proofs.lemmas.List.{length-take, length-drop}
use Rattle.pg_wire.proofs.GivingLaws.{give-piece}
use Rattle.pg_wire.proofs.giving.Giving.give.Goals as goal

pub loop-n-preserved : goal.loop-n-preserved
loop-n-preserved c =
    let long : length c.piece-piece.new.out ≡ length c.loop-n.out - c.loop-n.n = let keep = c.piece-piece.auto.out in
    omega (arith, length-take (length c.loop-n.out - c.loop-n.n) (drop c.loop-n.n c.loop-n.out), length-drop c.loop-n.n c.loop-n.out) in
    give-piece c.args.turns c.args.self.now c.loop-n.self c.piece-piece.new.self c.loop-n.out c.piece-piece.new.out c.loop-n.n c.piece-piece.result c.loop-n.invariant c.piece-piece.ensures long
