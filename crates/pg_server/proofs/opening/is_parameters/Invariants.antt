use Rattle.std.proofs.Common.{◌≡◌, length}
use Rattle.pg_spec.specs.Bytes.{items_of}
use Rattle.pg_spec.specs.ClientFrames.{pair_at}
use Rattle.pg_server.proofs.opening.is_parameters.Given as goal

abbrev pub invariant-loop-behind : goal.invariant-loop-behind
invariant-loop-behind l = (items_of pair_at l.bytes).1 ≡ (items_of pair_at l.rest).1

abbrev pub decreases-loop-behind : goal.decreases-loop-behind
decreases-loop-behind l = length l.rest
