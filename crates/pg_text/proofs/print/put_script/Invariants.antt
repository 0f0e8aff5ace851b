use Rattle.std.proofs.Common.{◌≡◌, ◌++◌, drop, string_bytes}
use Rattle.pg_text.specs.Written.{answers_from}
use Rattle.pg_text.proofs.print.put_script.Given as goal

abbrev pub invariant-loop-command : goal.invariant-loop-command
invariant-loop-command l = string_bytes l.out ++ answers_from l.fn.handle l.command (drop l.command l.answers) ≡ string_bytes l.initial.out ++ answers_from l.fn.handle 0 l.answers
