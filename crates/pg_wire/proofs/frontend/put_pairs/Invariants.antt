use Rattle.std.proofs.Common.{◌≡◌, ◌+◌, ◌++◌, take, length}
use Rattle.pg_wire.specs.Writes.{pairs_bytes}
use Rattle.pg_wire.proofs.frontend.put_pairs.Given as goal

abbrev pub invariant-loop-name : goal.invariant-loop-name
invariant-loop-name l = record {
  items : l.out.items ≡ l.initial.out.items ++ pairs_bytes (take l.name-index l.pairs);
  spare : l.out.spare + length (pairs_bytes (take l.name-index l.pairs)) ≡ l.initial.out.spare;
}
