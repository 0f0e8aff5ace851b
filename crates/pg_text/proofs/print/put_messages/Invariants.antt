use Rattle.std.proofs.Common.{◌≡◌, ◌++◌, map, flat_map, drop, string_bytes}
use Rattle.pg_spec.specs.ReportText.{item_line}
use Rattle.pg_text.specs.Views.{item_of}
use Rattle.pg_text.proofs.print.put_messages.Given as goal

abbrev pub invariant-loop-message : goal.invariant-loop-message
invariant-loop-message l = string_bytes l.out ++ flat_map item_line (map item_of (drop l.message-index l.messages)) ≡ string_bytes l.initial.out ++ flat_map item_line (map item_of l.messages)
