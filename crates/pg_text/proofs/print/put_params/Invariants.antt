use Rattle.std.proofs.Common.{◌≡◌, ◌++◌, flat_map, drop, string_bytes}
use Rattle.pg_text.specs.ReportText.{param_line}
use Rattle.pg_text.proofs.print.put_params.Given as goal

abbrev pub invariant-loop-param : goal.invariant-loop-param
invariant-loop-param l = string_bytes l.out ++ flat_map param_line (drop l.param-index l.params) ≡ string_bytes l.initial.out ++ flat_map param_line l.params
