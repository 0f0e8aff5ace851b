use Rattle.std.proofs.Common.{◌≡◌, ◌++◌, take}
use Rattle.pg_config.proofs.config.Config.add_ports.Given as goal

abbrev pub invariant-loop-port : goal.invariant-loop-port
invariant-loop-port l = l.self ≡ record l.fn.self { ports = l.fn.self.ports ++ take l.port-index l.ports }
