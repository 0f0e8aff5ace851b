use Rattle.std.proofs.Common.{◌≡◌}
use Rattle.pg_spec.specs.Bodies.{oids_of}
use Rattle.pg_query.proofs.Counting.{behind}
use Rattle.pg_core.proofs.description_reading.param_oids.Given as goal

-- these oids were read, and the others are left
abbrev pub invariant-loop-oid : goal.invariant-loop-oid
invariant-loop-oid l = oids_of l.body.count l.body.oids ≡ behind l.oids (oids_of l.params.count l.params.bytes)

abbrev pub decreases-loop-oid : goal.decreases-loop-oid
decreases-loop-oid l = l.params.count
