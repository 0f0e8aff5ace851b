use Rattle.pg_scram.proofs.VerdictLaws.{Compares}
use Rattle.pg_scram.proofs.verdict.are_equal.Given as goal

-- the bytes up to here are compared
abbrev pub invariant-loop-i : goal.invariant-loop-i
invariant-loop-i l = Compares l.given l.signature l.i l.differing
