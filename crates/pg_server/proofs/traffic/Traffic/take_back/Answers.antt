use Rattle.std.proofs.Common.{ap, ◌∙◌}
use Rattle.pg_server.specs.ByteLists.{are_bytes}
use Rattle.pg_server.proofs.ByteLaws.{bytes-take}
use Rattle.pg_server.proofs.traffic.Traffic.take_back.Goals as goal

pub invariant_of-self-clause-bytes : goal.invariant_of-self-clause-bytes
invariant_of-self-clause-bytes c = ap are_bytes c.truncate.ensures.items ∙ bytes-take _ c.args.self.now.taken.items c.args.self.now.bytes
