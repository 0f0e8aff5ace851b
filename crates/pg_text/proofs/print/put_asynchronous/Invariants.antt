use Rattle.std.proofs.Common.{◌≡◌, ◌++◌, map, flat_map, drop, string_bytes}
use Rattle.pg_spec.specs.ReportText.{async_line}
use Rattle.pg_errors.specs.Views.{async_of}
use Rattle.pg_text.proofs.print.put_asynchronous.Given as goal

abbrev pub invariant-loop-message : goal.invariant-loop-message
invariant-loop-message l = string_bytes l.out ++ flat_map async_line (map async_of (drop l.message-index l.messages)) ≡ string_bytes l.initial.out ++ flat_map async_line (map async_of l.messages)
