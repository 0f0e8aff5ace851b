use Rattle.std.proofs.Common.{◌≡◌, option_map}
use Rattle.pg_config.specs.Options.{port_of}
use Rattle.pg_config.specs.Pieces.{all_of, pieces}
use Rattle.pg_config.specs.Reading.{pieces_left}
use Rattle.pg_config.proofs.ReadAll.{left_size, with_read}
use Rattle.pg_config.proofs.option.read_ports.Given as goal

abbrev pub invariant-loop-rest : goal.invariant-loop-rest
invariant-loop-rest l = with_read l.ports.items (all_of port_of (pieces_left 44 (option_map (λ t. t.now) l.rest))) ≡ all_of port_of (pieces 44 l.fn.text)

abbrev pub decreases-loop-rest : goal.decreases-loop-rest
decreases-loop-rest l = left_size (option_map (λ t. t.now) l.rest)
