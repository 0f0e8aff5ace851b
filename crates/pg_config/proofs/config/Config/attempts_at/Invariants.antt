use Rattle.std.proofs.Common.{◌≡◌, take}
use Rattle.std.specs.List.{filter_map}
use Rattle.pg_config.specs.Attempts.{attempt_at}
use Rattle.pg_config.proofs.config.Config.attempts_at.Given as goal

abbrev pub invariant-loop-place : goal.invariant-loop-place
invariant-loop-place l = l.attempts ≡ filter_map (attempt_at l.self) (take l.place-index l.places)
