use Rattle.std.proofs.Common.{◌≡◌, ◌++◌, flat_map, drop, string_bytes}
use Rattle.pg_spec.specs.ReportText.{quoted_byte}
use Rattle.pg_text.proofs.put.put_quoted.Given as goal

abbrev pub invariant-loop-byte : goal.invariant-loop-byte
invariant-loop-byte l =
    string_bytes l.out ++ flat_map quoted_byte (drop l.byte-index l.bytes) ≡ string_bytes l.initial.out ++ flat_map quoted_byte l.bytes
