use Rattle.std.proofs.Common.{◌≡◌, ◌+◌, ◌*◌, ◌++◌, take}
use Rattle.pg_wire.specs.Items.{oid_bytes}
use Rattle.pg_wire.proofs.frame_items.put_oids.Given as goal

abbrev pub invariant-loop-oid : goal.invariant-loop-oid
invariant-loop-oid l = record {
  items : l.out.items ≡ l.initial.out.items ++ oid_bytes (take l.oid-index l.oids);
  spare : l.out.spare + 4 * l.oid-index ≡ l.initial.out.spare;
}
