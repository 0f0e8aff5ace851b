-- Whether there is TLS (PostgreSQL documentation, "SSL Session Encryption" of the message flow; the settings `sslmode`
-- and `sslnegotiation` in "Parameter Key Words" of libpq).
use Rattle.std.specs.Prelude.{◌==◌, ℕ, Bool, true, false, if◌then◌else◌}
use Rattle.std.specs.Str.{byte}
use Rattle.pg_spec.specs.Faults.{PreferDirect, NoHostname, Refused}
use Rattle.pg_spec.specs.Settings.{Mode, Disable, Prefer, Require, Negotiation, Postgres, Direct}
pub use Rattle.pg_open.specs.declared.choice.TlsChoice.{TlsChoice}
pub use Rattle.pg_open.specs.declared.choice.TlsChoice.TheVariants.{Raw, Shakes, Fails, Asks}

-- a handshake, which needs the host's name
abbrev pub shakes : (hostname : Bool) → TlsChoice
shakes true = Shakes
shakes false = Fails NoHostname

-- before a byte; `can`: the connector can connect
abbrev pub first_choice : Mode → Negotiation → (can hostname : Bool) → TlsChoice
first_choice Disable negotiation can hostname = Raw
first_choice Prefer negotiation false hostname = Raw
first_choice Prefer Direct true hostname = Fails PreferDirect
first_choice Prefer Postgres true hostname = Asks
first_choice Require Direct can hostname = shakes hostname
first_choice Require Postgres can hostname = Asks

-- the server has no TLS
abbrev pub without_tls : Mode → TlsChoice
without_tls Require = Fails Refused
without_tls mode = Raw

-- by the byte that answers the SSLRequest
abbrev pub after_byte : Mode → (hostname : Bool) → ℕ → TlsChoice
after_byte mode hostname b = if b == byte "S" then shakes hostname else without_tls mode
