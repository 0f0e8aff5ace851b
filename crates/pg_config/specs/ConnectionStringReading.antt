-- How connection strings are read from their front. What is in them is defined in `ConnectionStrings`.
use Rattle.std.specs.Prelude.{ℕ, List, drop, nat_eq, Option, Some, None, Result, if◌then◌else◌, codes}
use Rattle.std.specs.List.{starts_with}
use Rattle.std.specs.Str.{chars}
use Rattle.pg_spec.specs.Faults as spec
use Rattle.pg_config.specs.declared.config.Config.{Config}
use Rattle.pg_config.specs.KeyValueReading.{KeyValuesSay}
use Rattle.pg_config.specs.UrlReading.{UrlSays}

-- what stands behind the scheme of a URL
abbrev pub behind_scheme : List ℕ → Option (List ℕ)
behind_scheme text =
    if starts_with nat_eq text (codes "postgres://") then Some (drop 11 text)
    else if starts_with nat_eq text (codes "postgresql://") then Some (drop 13 text)
    else None

-- the settings that are read, or the first fault
abbrev pub ConnectionStringSays : List ℕ → Result Config spec.Cause → Type 0
ConnectionStringSays text said = elim (behind_scheme text) [
  | Some rest ↦ UrlSays rest said
  | None ↦ KeyValuesSay (chars text) said
]
