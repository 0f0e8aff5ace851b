use Rattle.std.proofs.Common.{◌≡◌, ◌++◌, flat_map, drop, string_bytes}
use Rattle.pg_spec.specs.ReportText.{turn_line}
use Rattle.pg_text.proofs.print.put_trace.Given as goal

abbrev pub invariant-loop-mark : goal.invariant-loop-mark
invariant-loop-mark l = string_bytes l.out ++ flat_map turn_line (drop l.mark-index l.trace) ≡ string_bytes l.initial.out ++ flat_map turn_line l.trace
