-- The attempts to connect (PostgreSQL documentation, "Specifying Multiple Hosts").
use Rattle.std.specs.Prelude.{◌==◌, ◌&&◌, ◌||◌, ◌++◌, ◌∷◌, [], ℕ, zero, suc, Bool, not, List, length, max, Option, Some, None, option_map, nat_lt, slice_get, unwrap_or}
use Rattle.std.specs.List.{filter_map}
use Rattle.pg_config.specs.declared.attempts.Address.{Address}
use Rattle.pg_config.specs.declared.attempts.Address.TheVariants.{Ip, Name}
use Rattle.pg_config.specs.declared.attempts.Address.TheVariants as address
use Rattle.pg_config.specs.declared.attempts.Attempt.{Attempt}
use Rattle.pg_config.specs.declared.config.Config.{Config}
use Rattle.pg_config.specs.declared.host.Host.{Host}
use Rattle.pg_config.specs.declared.host.Host.TheVariants as host
use Rattle.pg_config.specs.declared.modes.LoadBalanceHosts.{LoadBalanceHosts}
use Rattle.pg_config.specs.declared.modes.LoadBalanceHosts.TheVariants as balance

-- how many places there are: the larger number of hosts and addresses
abbrev pub place_count : Config → ℕ
place_count s = max (length s.hosts) (length s.hostaddrs)

-- hosts, addresses and ports fit together: there is a host or an address; as many of both, if both are
-- there; and at most one port, or one for each
abbrev pub do_fit : Config → Bool
do_fit s = not (place_count s == 0)
    && (length s.hosts == 0 || length s.hostaddrs == 0 || length s.hosts == length s.hostaddrs)
    && (nat_lt (length s.ports) 2 || length s.ports == place_count s)

-- the address of a host
abbrev pub host_address : Host → Address
host_address (host.Tcp name) = Name name
host_address (host.Unix path) = address.Unix path

-- the name of a host
abbrev pub host_name : Host → Option (List ℕ)
host_name (host.Tcp name) = Some name
host_name (host.Unix path) = None

-- the name of the host there, if it has one
abbrev pub hostname_at : Config → ℕ → Option (List ℕ)
hostname_at s place = elim (slice_get s.hosts place) [ None ↦ None | Some h ↦ host_name h ]

-- the numeric address there, else the host's
abbrev pub address_at : Config → ℕ → Option Address
address_at s place = elim (slice_get s.hostaddrs place) [
  | Some ip ↦ Some (Ip ip)
  | None ↦ option_map host_address (slice_get s.hosts place)
]

-- the port there, else the first, else 5432
abbrev pub port_at : Config → ℕ → ℕ
port_at s place = elim (slice_get s.ports place) [
  | Some port ↦ port
  | None ↦ unwrap_or (slice_get s.ports 0) 5432
]

-- the attempt at a place; None: neither host nor address is there
abbrev pub attempt_at : Config → ℕ → Option Attempt
attempt_at s place = option_map (λ a. record { address = a; hostname = hostname_at s place; port = port_at s place }) (address_at s place)

-- the places below this number
abbrev pub places_below : ℕ → List ℕ
places_below zero = []
places_below (suc n) = places_below n ++ n ∷ []

-- the places in the order in which they are tried
abbrev pub places_in : LoadBalanceHosts → (count : ℕ) (order : List ℕ) → List ℕ
places_in balance.Random count order = order
places_in balance.Disable count order = places_below count

-- the attempts, in their order
abbrev pub attempts_of : Config → (order : List ℕ) → List Attempt
attempts_of s order = filter_map (attempt_at s) (places_in s.load_balance_hosts (place_count s) order)
