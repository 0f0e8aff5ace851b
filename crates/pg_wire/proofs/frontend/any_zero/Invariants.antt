use Rattle.std.proofs.Common.{◌≡◌, false, take}
use Rattle.std.specs.List.{list_any}
use Rattle.pg_wire.specs.Writes.{pair_has_zero}
use Rattle.pg_wire.proofs.frontend.any_zero.Given as goal

abbrev pub invariant-loop-name : goal.invariant-loop-name
invariant-loop-name l = list_any pair_has_zero (take l.name-index l.pairs) ≡ false
