use Rattle.std.proofs.Common.{◌≡◌, Some, option_map}
use Rattle.pg_config.proofs.ReadAll.{left_size, with_hosts}
use Rattle.pg_config.proofs.config.Config.add_hosts.Given as goal

abbrev pub invariant-loop-rest : goal.invariant-loop-rest
invariant-loop-rest l = with_hosts l.self (option_map (λ t. t.now) l.rest) ≡ with_hosts l.fn.self (Some l.fn.text)

abbrev pub decreases-loop-rest : goal.decreases-loop-rest
decreases-loop-rest l = left_size (option_map (λ t. t.now) l.rest)
