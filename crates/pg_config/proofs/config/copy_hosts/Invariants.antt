use Rattle.std.proofs.Common.{◌≡◌, take}
use Rattle.pg_config.proofs.config.copy_hosts.Given as goal

abbrev pub invariant-loop-host : goal.invariant-loop-host
invariant-loop-host l = l.copied ≡ take l.host-index l.hosts
