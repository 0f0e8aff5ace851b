use Rattle.std.proofs.Common.{arith}
use Rattle.pg_server.proofs.ByteLaws.{bytes-from, extended-bytes}
use Rattle.pg_server.proofs.traffic.Traffic.offer.Goals as goal

pub invariant_of-self-clause-bytes : goal.invariant_of-self-clause-bytes
invariant_of-self-clause-bytes c =
    extended-bytes c.extend_from_slice.result c.settle.new.self.taken.items c.args.bytes.now c.extend_from_slice.new.self.items c.extend_from_slice.ensures.ok c.extend_from_slice.ensures.err
    c.settle.new.self.bytes (bytes-from c.args.bytes.now (λ i. omega (arith, c.type_inv.bytes i)))
