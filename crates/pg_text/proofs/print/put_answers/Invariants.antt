use Rattle.std.proofs.Common.{◌≡◌, ◌++◌, drop, string_bytes}
use Rattle.pg_text.specs.Written.{scripts_from}
use Rattle.pg_text.proofs.print.put_answers.Given as goal

abbrev pub invariant-loop-handle : goal.invariant-loop-handle
invariant-loop-handle l = string_bytes l.out ++ scripts_from l.handle (drop l.handle l.answers) ≡ string_bytes l.initial.out ++ scripts_from 0 l.answers
