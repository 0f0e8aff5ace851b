use Rattle.std.proofs.Common.{◌≡◌, ◌++◌, drop, string_bytes}
use Rattle.std.specs.List.{concat}
use Rattle.hex.specs.Hex.{encode_lower}
use Rattle.pg_text.proofs.print.put_parts.Given as goal

abbrev pub invariant-loop-part : goal.invariant-loop-part
invariant-loop-part l = string_bytes l.out ++ encode_lower (concat (drop l.part-index l.parts)) ≡ string_bytes l.initial.out ++ encode_lower (concat l.parts)
