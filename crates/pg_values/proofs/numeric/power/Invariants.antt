use Rattle.std.proofs.Common.{◌≡◌, ◌^◌}
use Rattle.pg_values.proofs.numeric.power.Given as goal

abbrev pub invariant-loop : goal.invariant-loop
invariant-loop l = l.n ≡ 10 ^ l.counter
