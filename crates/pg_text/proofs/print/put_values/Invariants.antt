use Rattle.std.proofs.Common.{◌≡◌, ◌++◌, flat_map, drop, string_bytes}
use Rattle.pg_text.specs.ReportText.{value_line}
use Rattle.pg_text.proofs.print.put_values.Given as goal

abbrev pub invariant-loop-value : goal.invariant-loop-value
invariant-loop-value l = string_bytes l.out ++ flat_map value_line (drop l.value-index l.values) ≡ string_bytes l.initial.out ++ flat_map value_line l.values
