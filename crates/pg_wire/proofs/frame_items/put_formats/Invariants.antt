use Rattle.std.proofs.Common.{◌≡◌, ◌+◌, ◌*◌, ◌++◌, take}
use Rattle.pg_wire.specs.Items.{format_bytes}
use Rattle.pg_wire.proofs.frame_items.put_formats.Given as goal

abbrev pub invariant-loop-format : goal.invariant-loop-format
invariant-loop-format l = record {
  items : l.out.items ≡ l.initial.out.items ++ format_bytes (take l.format-index l.formats);
  spare : l.out.spare + 2 * l.format-index ≡ l.initial.out.spare;
}
