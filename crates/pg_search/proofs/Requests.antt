-- A command of one request takes few steps.
use Rattle.std.proofs.Common.{◌≤◌, arith}
use Rattle.pg_query.specs.SingleRequests.{steps_at}
use Rattle.pg_query.specs.declared.single_request.Phase.{Phase}
use Rattle.pg_query.specs.declared.single_request.Phase.TheVariants.{Fresh, Skips, Leaves, Reads, Ends}

-- wherever it stands
pub few-steps : {T : Type 0} (p : Phase T) → steps_at p ≤ 2
few-steps (Fresh frame) = omega arith
few-steps (Skips frame r) = omega arith
few-steps (Leaves r) = omega arith
few-steps Reads = omega arith
few-steps (Ends r) = omega arith
