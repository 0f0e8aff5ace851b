use Rattle.std.proofs.Common.{◌≡◌, option_map}
use Rattle.pg_config.specs.Addresses.{groups_in}
use Rattle.pg_config.specs.Pieces.{pieces}
use Rattle.pg_config.specs.Reading.{pieces_left}
use Rattle.pg_config.proofs.GroupLaws.{with_groups}
use Rattle.pg_config.proofs.ReadAll.{left_size}
use Rattle.pg_config.proofs.address.read_groups.Given as goal

abbrev pub invariant-loop-rest : goal.invariant-loop-rest
invariant-loop-rest l = with_groups l.groups.items (groups_in l.tail (pieces_left 58 (option_map (λ t. t.now) l.rest))) ≡ groups_in l.tail (pieces 58 l.fn.text)

abbrev pub decreases-loop-rest : goal.decreases-loop-rest
decreases-loop-rest l = left_size (option_map (λ t. t.now) l.rest)
