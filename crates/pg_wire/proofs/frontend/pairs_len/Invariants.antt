use Rattle.std.proofs.Common.{◌≡◌, ◌^◌, ◌-◌, min, take, length}
use Rattle.pg_wire.specs.Writes.{pairs_bytes}
use Rattle.pg_wire.proofs.frontend.pairs_len.Given as goal

abbrev pub invariant-loop-name : goal.invariant-loop-name
invariant-loop-name l = l.len ≡ min (length (pairs_bytes (take l.name-index l.pairs))) (2 ^ 64 - 1)
