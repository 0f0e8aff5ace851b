use Rattle.std.proofs.Common.{rules}
use Rattle.pg_shares.proofs.Sends.{event_send}
use Rattle.pg_shares.proofs.fn.event_there.scope.Goals as goal

pub spawn-requires-send-T : goal.spawn-requires-send-T
spawn-requires-send-T g c = λ κs. search (event_send, rules)
