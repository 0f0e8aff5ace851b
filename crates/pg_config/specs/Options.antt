-- What a setting's name and value mean (PostgreSQL documentation, "Parameter Key Words").
use Rattle.std.specs.Prelude.{◌==◌, ◌-◌, ◌^◌, ℕ, not, List, [], ◌∷◌, ◌++◌, map, length, Option, Some, None, option_map, Result, Ok, Err, if◌then◌else◌, codes}
use Rattle.std.specs.Str.{byte, bytes_eq}
use Rattle.pg_spec.specs.Faults.{Cause, InvalidValue, UnknownOption}
use Rattle.pg_config.specs.declared.config.Config.{Config}
use Rattle.pg_config.specs.declared.modes.ChannelBinding.{ChannelBinding}
use Rattle.pg_config.specs.declared.modes.ChannelBinding.TheVariants as binding
use Rattle.pg_config.specs.declared.modes.LoadBalanceHosts.{LoadBalanceHosts}
use Rattle.pg_config.specs.declared.modes.LoadBalanceHosts.TheVariants as balance
use Rattle.pg_config.specs.declared.modes.SslMode.{SslMode}
use Rattle.pg_config.specs.declared.modes.SslMode.TheVariants as ssl
use Rattle.pg_config.specs.declared.modes.SslNegotiation.{SslNegotiation}
use Rattle.pg_config.specs.declared.modes.SslNegotiation.TheVariants as negotiation
use Rattle.pg_config.specs.declared.modes.TargetSessionAttrs.{TargetSessionAttrs}
use Rattle.pg_config.specs.declared.modes.TargetSessionAttrs.TheVariants as session
use Rattle.pg_config.specs.Addresses.{address_of}
use Rattle.pg_config.specs.Numbers.{seconds_of, unsigned_of}
use Rattle.pg_config.specs.Pieces.{all_of, pieces}
use Rattle.pg_config.specs.Settings.{host_of}

-- a port; 5432 where nothing is said
abbrev pub port_of : List ℕ → Option ℕ
port_of text = if length text == 0 then Some 5432 else unsigned_of 65535 text

-- a time, where it is more than none; else what was set before
abbrev pub time_or : {A : Type 0} → (ℕ → A) → A → ℕ → A
time_or time before seconds = if seconds == 0 then before else time seconds

-- `sslmode`
abbrev pub ssl_mode_named : List ℕ → Option SslMode
ssl_mode_named name =
    if bytes_eq name (codes "disable") then Some ssl.Disable
    else if bytes_eq name (codes "prefer") then Some ssl.Prefer
    else if bytes_eq name (codes "require") then Some ssl.Require
    else None

-- `sslnegotiation`
abbrev pub ssl_negotiation_named : List ℕ → Option SslNegotiation
ssl_negotiation_named name =
    if bytes_eq name (codes "postgres") then Some negotiation.Postgres
    else if bytes_eq name (codes "direct") then Some negotiation.Direct
    else None

-- `target_session_attrs`
abbrev pub target_session_attrs_named : List ℕ → Option TargetSessionAttrs
target_session_attrs_named name =
    if bytes_eq name (codes "any") then Some session.Any
    else if bytes_eq name (codes "read-write") then Some session.ReadWrite
    else if bytes_eq name (codes "read-only") then Some session.ReadOnly
    else None

-- `channel_binding`
abbrev pub channel_binding_named : List ℕ → Option ChannelBinding
channel_binding_named name =
    if bytes_eq name (codes "disable") then Some binding.Disable
    else if bytes_eq name (codes "prefer") then Some binding.Prefer
    else if bytes_eq name (codes "require") then Some binding.Require
    else None

-- `load_balance_hosts`
abbrev pub load_balance_hosts_named : List ℕ → Option LoadBalanceHosts
load_balance_hosts_named name =
    if bytes_eq name (codes "disable") then Some balance.Disable
    else if bytes_eq name (codes "random") then Some balance.Random
    else None

-- A setting: its name, and the settings with a value of it; None: the value is out of form.
abbrev pub Setting : Type 0
Setting = List ℕ × (List ℕ → Config → Option Config)

-- settings that take any text
abbrev pub text_options : List Setting
text_options =
    (codes "user", λ value s. Some (record s { user = Some value }))
    ∷ (codes "password", λ value s. Some (record s { password = Some value }))
    ∷ (codes "dbname", λ value s. Some (record s { dbname = Some value }))
    ∷ (codes "options", λ value s. Some (record s { options = Some value }))
    ∷ (codes "application_name", λ value s. Some (record s { application_name = Some value }))
    ∷ []

-- settings that are added, between commas
abbrev pub place_options : List Setting
place_options =
    (codes "host", λ value s. Some (record s { hosts = s.hosts ++ map host_of (pieces (byte ",") value) }))
    ∷ (codes "hostaddr", λ value s. option_map (λ addresses. record s { hostaddrs = s.hostaddrs ++ addresses }) (all_of address_of (pieces (byte ",") value)))
    ∷ (codes "port", λ value s. option_map (λ ports. record s { ports = s.ports ++ ports }) (all_of port_of (pieces (byte ",") value)))
    ∷ []

-- settings that are times, in seconds; none and less set nothing
abbrev pub time_options : List Setting
time_options =
    (codes "connect_timeout", λ value s. option_map (λ n. record s { connect_timeout = time_or (λ n. Some n) s.connect_timeout n }) (seconds_of value))
    ∷ (codes "tcp_user_timeout", λ value s. option_map (λ n. record s { tcp_user_timeout = time_or (λ n. Some n) s.tcp_user_timeout n }) (seconds_of value))
    ∷ (codes "keepalives_idle", λ value s. option_map (λ n. record s { keepalives_idle = time_or (λ n. n) s.keepalives_idle n }) (seconds_of value))
    ∷ (codes "keepalives_interval", λ value s. option_map (λ n. record s { keepalives_interval = time_or (λ n. Some n) s.keepalives_interval n }) (seconds_of value))
    ∷ []

-- settings that are numbers
abbrev pub number_options : List Setting
number_options =
    (codes "keepalives", λ value s. option_map (λ n. record s { keepalives = not (n == 0) }) (unsigned_of (2 ^ 64 - 1) value))
    ∷ (codes "keepalives_retries", λ value s. option_map (λ n. record s { keepalives_retries = Some n }) (unsigned_of (2 ^ 32 - 1) value))
    ∷ []

-- settings that choose between words
abbrev pub choice_options : List Setting
choice_options =
    (codes "sslmode", λ value s. option_map (λ mode. record s { ssl_mode = mode }) (ssl_mode_named value))
    ∷ (codes "sslnegotiation", λ value s. option_map (λ mode. record s { ssl_negotiation = mode }) (ssl_negotiation_named value))
    ∷ (codes "target_session_attrs", λ value s. option_map (λ attrs. record s { target_session_attrs = attrs }) (target_session_attrs_named value))
    ∷ (codes "channel_binding", λ value s. option_map (λ mode. record s { channel_binding = mode }) (channel_binding_named value))
    ∷ (codes "load_balance_hosts", λ value s. option_map (λ order. record s { load_balance_hosts = order }) (load_balance_hosts_named value))
    ∷ []

-- every setting
abbrev pub options : List Setting
options = text_options ++ place_options ++ time_options ++ number_options ++ choice_options

-- the settings after this key and value, by the settings that there are; None: none has this name
abbrev pub said_by : List Setting → (key value : List ℕ) → Config → Option (Result Config Cause)
said_by [] key value s = None
said_by (setting ∷ more) key value s =
    if bytes_eq key setting.0 then Some (elim (setting.1 value s) [ None ↦ Err (InvalidValue key) | Some next ↦ Ok next ])
    else said_by more key value s

-- the settings after this key and value, or the fault
abbrev pub applies : (key value : List ℕ) → Config → Result Config Cause
applies key value s = elim (said_by options key value s) [ None ↦ Err (UnknownOption key) | Some said ↦ said ]
