use Rattle.std.proofs.Common.{◌≡◌, option_map}
use Rattle.pg_config.specs.Pieces.{pieces}
use Rattle.pg_config.specs.Reading.{pieces_left}
use Rattle.pg_config.specs.UrlReading.{each_place}
use Rattle.pg_config.proofs.ReadAll.{left_size}
use Rattle.pg_config.proofs.config.Config.each_place.Given as goal

abbrev pub invariant-loop-rest : goal.invariant-loop-rest
invariant-loop-rest l = each_place (pieces_left 44 (option_map (λ t. t.now) l.rest)) l.self ≡ each_place (pieces 44 l.fn.text) l.fn.self

abbrev pub decreases-loop-rest : goal.decreases-loop-rest
decreases-loop-rest l = left_size (option_map (λ t. t.now) l.rest)
