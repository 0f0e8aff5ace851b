-- What some connection strings say, as they are read from their front.
use Rattle.std.proofs.Common.{◌≡◌, [], ◌∷◌, None, Some, Ok, Err, inl, inr, refl, ap, ◌∙◌, codes}
use Rattle.std.specs.Str.{is_utf8, chars}
use Rattle.percent_encoding.specs.Percent.{percent_decode}
use lib.Utf8.{encode}
use Rattle.pg_config.specs.declared.config.Config.{Config}
use Rattle.pg_config.specs.declared.host.Host.TheVariants.{Tcp}
use Rattle.pg_config.specs.ConnectionStrings.{ConnectionStringMeans}
use Rattle.pg_config.specs.Settings.{defaults}
use Rattle.pg_config.specs.Views.{settings_of}
use Rattle.pg_config.proofs.Meanings.{written}
use Rattle.pg_spec.specs.Faults.{Syntax, UnknownOption, InvalidValue}
use Rattle.pg_spec.specs.Settings.{Settings, only_user}
use Rattle.pg_promises.specs.ConnectionStrings.{Means}
use Rattle.pg_promises.proofs.Strings.{means_one}

-- ---- a user alone

pub means_a : Means (codes "user=a") (only_user (codes "a"))
unfolding is_utf8 chars encode
means_a = (
  record defaults { user = Some (codes "a") },
  written (codes "user=a") (Ok (record defaults { user = Some (codes "a") })) ((codes "user", codes "a") ∷ [], ([], refl, inl (refl, refl))),
  refl,
)

pub means_user : Means (codes "user=postgres") (only_user (codes "postgres"))
unfolding is_utf8 chars encode
means_user = (
  record defaults { user = Some (codes "postgres") },
  written (codes "user=postgres") (Ok (record defaults { user = Some (codes "postgres") })) ((codes "user", codes "postgres") ∷ [], ([], refl, inl (refl, refl))),
  refl,
)

-- ---- what a startup doesn't read

-- a host and its port, and the user
abbrev placed : Config
placed = record defaults { user = Some (codes "postgres"); hosts = Tcp (codes "localhost") ∷ []; ports = 5432 ∷ [] }

pub means_keys : Means (codes "host=localhost port=5432 user=postgres") (only_user (codes "postgres"))
unfolding is_utf8 chars encode
means_keys = (
  placed,
  written (codes "host=localhost port=5432 user=postgres") (Ok placed) (
    (codes "host", codes "localhost") ∷ (codes "port", codes "5432") ∷ (codes "user", codes "postgres") ∷ [],
    (codes " port=5432 user=postgres", refl, (codes " user=postgres", refl, ([], refl, inl (refl, refl)))),
  ),
  refl,
)

pub means_url : Means (codes "postgres://postgres@localhost:5432") (only_user (codes "postgres"))
unfolding is_utf8 chars encode percent_decode
means_url = (
  placed,
  written (codes "postgres://postgres@localhost:5432") (Ok placed) ([], inl (refl, refl)),
  refl,
)

-- ---- no user, and a database

means_host : Means (codes "host=localhost") (settings_of defaults)
unfolding is_utf8 chars encode
means_host = (
  record defaults { hosts = Tcp (codes "localhost") ∷ [] },
  written (codes "host=localhost") (Ok (record defaults { hosts = Tcp (codes "localhost") ∷ [] })) ((codes "host", codes "localhost") ∷ [], ([], refl, inl (refl, refl))),
  refl,
)

pub no_user : (s : Settings) → Means (codes "host=localhost") s → s.user ≡ None
no_user s means = ap (λ (x : Settings). x.user) (means_one (codes "host=localhost") s (settings_of defaults) means means_host)

-- a user and a database
abbrev named : Config
named = record defaults { user = Some (codes "postgres"); dbname = Some (codes "x") }

means_database : Means (codes "postgres://postgres@/x") (settings_of named)
unfolding is_utf8 chars encode percent_decode
means_database = (named, written (codes "postgres://postgres@/x") (Ok named) ([], inl (refl, refl)), refl)

pub database : (s : Settings) → Means (codes "postgres://postgres@/x") s → s.database ≡ Some (codes "x")
database s means = ap (λ (x : Settings). x.database) (means_one (codes "postgres://postgres@/x") s (settings_of named) means means_database)

-- ---- faults

pub no_value : ConnectionStringMeans (codes "user") (Err Syntax)
unfolding is_utf8 chars encode
no_value = written (codes "user") (Err Syntax) ([], inr (refl, refl))

pub unknown_key : ConnectionStringMeans (codes "a=b") (Err (UnknownOption (codes "a")))
unfolding is_utf8 chars encode
unknown_key = written (codes "a=b") (Err (UnknownOption (codes "a"))) ((codes "a", codes "b") ∷ [], ([], refl, refl))

pub no_port : ConnectionStringMeans (codes "postgres://postgres@localhost:x") (Err (InvalidValue (codes "port")))
unfolding is_utf8 chars encode percent_decode
no_port = written (codes "postgres://postgres@localhost:x") (Err (InvalidValue (codes "port"))) refl
