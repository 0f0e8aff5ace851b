use Rattle.std.proofs.Common.{◌≡◌, ◌++◌, take}
use Rattle.pg_config.proofs.config.Config.add_addresses.Given as goal

abbrev pub invariant-loop-address : goal.invariant-loop-address
invariant-loop-address l = l.self ≡ record l.fn.self { hostaddrs = l.fn.self.hostaddrs ++ take l.address-index l.addresses }
