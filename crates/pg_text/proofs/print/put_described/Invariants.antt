use Rattle.std.proofs.Common.{◌≡◌, ◌++◌, flat_map, drop, string_bytes}
use Rattle.pg_text.specs.ReportText.{column_line}
use Rattle.pg_text.proofs.print.put_described.Given as goal

abbrev pub invariant-loop-column : goal.invariant-loop-column
invariant-loop-column l = string_bytes l.out ++ flat_map column_line (drop l.column-index l.columns) ≡ string_bytes l.initial.out ++ flat_map column_line l.columns
