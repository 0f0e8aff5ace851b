-- Connection strings, in both forms (PostgreSQL documentation, "Connection Strings").
use Rattle.std.specs.Prelude.{◌≡◌, ◌⊎◌, ◌++◌, ℕ, List, Result, codes}
use Rattle.std.specs.Str.{chars}
use Rattle.pg_spec.specs.Faults.{Cause}
use Rattle.pg_config.specs.declared.config.Config.{Config}
use Rattle.pg_config.specs.KeyValue.{KeyValuesMean}
use Rattle.pg_config.specs.Urls.{UrlMeans}

-- the text is the scheme of a URL, and then the rest
abbrev pub IsSchemed : (text rest : List ℕ) → Type 0
IsSchemed text rest = (text ≡ codes "postgres://" ++ rest) ⊎ (text ≡ codes "postgresql://" ++ rest)

-- the text means these settings, or has this first fault: as a URL where it begins with a scheme, else as
-- keys and values
abbrev pub ConnectionStringMeans : List ℕ → Result Config Cause → Type 0
ConnectionStringMeans text said =
    ((rest : List ℕ) × IsSchemed text rest × UrlMeans rest said)
    ⊎ (((rest : List ℕ) → ¬ IsSchemed text rest) × KeyValuesMean (chars text) said)
