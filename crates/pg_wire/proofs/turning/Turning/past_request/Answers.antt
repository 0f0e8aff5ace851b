use Rattle.pg_wire.proofs.TurnCounts.{past_tls}
use Rattle.pg_wire.proofs.turning.Turning.past_request.Goals as goal

pub returns-then-branch : goal.returns-then-branch
returns-then-branch c =
    past_tls c.args.sent.now c.args.self c.in_ok-asks_for_tls.field-0 c.requires.counts c.requires.stage c.in_ok-asks_for_tls.ensures c.if-branch.true
