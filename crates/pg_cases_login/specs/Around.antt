-- What is known of the links and the connector of a case.
use Rattle.std.specs.Prelude.{⊤}
use Rattle.pg_wire.specs.Memory.{Memory, link_of}
use Rattle.pg_open.specs.Opening.{Outside, outside}
use Rattle.pg_cases_login.specs.declared.connector.Connector.{Connector}
use Rattle.pg_cases_login.specs.declared.connector.Handshake.{Handshake}
use Rattle.pg_cases_login.specs.declared.connector.HandshakeFault.{HandshakeFault}
use Rattle.pg_cases_login.specs.declared.connector.Stream.{Stream}

-- links in memory, and nothing of what a handshake does
abbrev pub around : Outside Memory Connector Handshake Stream HandshakeFault
around = outside link_of (λ c. c.can_connect) (λ c link handshake. ⊤) (λ old new answer. ⊤) (λ s. link_of s.inside) (λ s. s.hash)
