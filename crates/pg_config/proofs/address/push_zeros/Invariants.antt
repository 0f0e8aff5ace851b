use Rattle.std.proofs.Common.{◌≡◌, ◌++◌, replicate}
use Rattle.pg_config.proofs.address.push_zeros.Given as goal

abbrev pub invariant-loop-pushed : goal.invariant-loop-pushed
invariant-loop-pushed l = l.groups.items ≡ l.fn.groups.items ++ replicate l._pushed 0
