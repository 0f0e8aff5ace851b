use Rattle.pg_wire.proofs.TurnCounts.{counts-all, next-none}
use Rattle.pg_wire.proofs.turning.Turning.advance.Goals as goal

pub returns-clause-turns : goal.returns-clause-turns
returns-clause-turns c =
    counts-all c.args.sent.now c.loop-next.turning c.loop-next.invariant
    (next-none c.args.sent.now c.loop-next.turning c.next.result c.in_default.not-Some c.next.ensures)
