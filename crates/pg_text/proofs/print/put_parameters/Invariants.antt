use Rattle.std.proofs.Common.{◌≡◌, ◌++◌, drop, string_bytes}
use Rattle.pg_text.specs.Written.{parameter_lines}
use Rattle.pg_text.proofs.print.put_parameters.Given as goal

abbrev pub invariant-loop-pair : goal.invariant-loop-pair
invariant-loop-pair l = string_bytes l.out ++ parameter_lines (drop l.pair-index l.pairs) ≡ string_bytes l.initial.out ++ parameter_lines l.pairs
