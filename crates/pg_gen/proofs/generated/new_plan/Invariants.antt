use Rattle.std.proofs.Common.{◌≡◌, ◌*◌, map}
use Rattle.pg_wire.specs.Giving.{lists}
use Rattle.pg_gen.specs.Draws.{number_after}
use Rattle.pg_gen.specs.Generated.{replies}
use Rattle.pg_gen.specs.Messages.{bytes_of}
use Rattle.pg_gen.proofs.generated.new_plan.Given as goal

abbrev pub invariant-loop-k : goal.invariant-loop-k
invariant-loop-k l = record {
  entries : lists l.plan.items ≡ map bytes_of (replies l.k l.seed);
  drawn : l.draws.number ≡ number_after l.seed (2 * l.k);
}
