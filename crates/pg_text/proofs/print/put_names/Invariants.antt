use Rattle.std.proofs.Common.{◌≡◌, ◌++◌, drop, string_bytes}
use Rattle.pg_spec.specs.ReportText.{quoted}
use Rattle.pg_text.specs.Written.{behind_spaces}
use Rattle.pg_text.proofs.print.put_names.Given as goal

abbrev pub invariant-loop-name : goal.invariant-loop-name
invariant-loop-name l = string_bytes l.out ++ behind_spaces quoted (drop l.name-index l.names) ≡ string_bytes l.initial.out ++ behind_spaces quoted l.names
