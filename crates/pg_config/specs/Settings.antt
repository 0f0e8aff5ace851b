-- The settings of a connection (PostgreSQL documentation, "Parameter Key Words").
use Rattle.std.specs.Prelude.{◌==◌, ℕ, true, List, [], ◌∷◌, None, if◌then◌else◌}
use Rattle.std.specs.Str.{byte}
use Rattle.pg_config.specs.declared.config.Config.{Config}
use Rattle.pg_config.specs.declared.host.Host.{Host}
use Rattle.pg_config.specs.declared.host.Host.TheVariants.{Tcp, Unix}
use Rattle.pg_config.specs.declared.modes.ChannelBinding.TheVariants as binding
use Rattle.pg_config.specs.declared.modes.LoadBalanceHosts.TheVariants as balance
use Rattle.pg_config.specs.declared.modes.SslMode.TheVariants as ssl
use Rattle.pg_config.specs.declared.modes.SslNegotiation.TheVariants as negotiation
use Rattle.pg_config.specs.declared.modes.TargetSessionAttrs.TheVariants as session

-- nothing is said: the settings by default
abbrev pub defaults : Config
defaults = record {
  user = None;
  password = None;
  dbname = None;
  options = None;
  application_name = None;
  ssl_mode = ssl.Prefer;
  ssl_negotiation = negotiation.Postgres;
  hosts = [];
  hostaddrs = [];
  ports = [];
  connect_timeout = None;
  tcp_user_timeout = None;
  keepalives = true;
  keepalives_idle = 7200;
  keepalives_interval = None;
  keepalives_retries = None;
  target_session_attrs = session.Any;
  channel_binding = binding.Prefer;
  load_balance_hosts = balance.Disable;
}

-- the host of this text: one that begins with a slash is the path of a Unix socket
abbrev pub host_of : List ℕ → Host
host_of [] = Tcp []
host_of (b ∷ rest) = if b == byte "/" then Unix (b ∷ rest) else Tcp (b ∷ rest)
