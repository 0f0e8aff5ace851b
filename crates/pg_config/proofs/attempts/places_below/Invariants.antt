use Rattle.std.proofs.Common.{◌≡◌}
use Rattle.pg_config.specs.Attempts.{places_below}
use Rattle.pg_config.proofs.attempts.places_below.Given as goal

abbrev pub invariant-loop-place : goal.invariant-loop-place
invariant-loop-place l = l.places.items ≡ places_below l.place
