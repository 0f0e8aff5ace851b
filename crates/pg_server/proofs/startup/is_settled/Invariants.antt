use Rattle.std.proofs.Common.{◌≡◌, length}
use Rattle.pg_server.specs.Startups.{is_settled}
use Rattle.pg_server.proofs.startup.is_settled.Given as goal

abbrev pub invariant-loop-n : goal.invariant-loop-n
invariant-loop-n l = is_settled l.bytes ≡ is_settled l.rest

abbrev pub decreases-loop-n : goal.decreases-loop-n
decreases-loop-n l = length l.rest
