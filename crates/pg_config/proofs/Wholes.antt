-- What a whole text says is what its form says.
use Rattle.std.proofs.Common.{◌≡◌, ℕ, List, Option, Some, None, Result, Ok, Err, sym, subst, ap, ◌∙◌}
use Rattle.std.specs.Str.{chars}
use Rattle.pg_spec.specs.Faults.{Cause}
use Rattle.pg_config.specs.declared.config.Config.{Config}
use Rattle.pg_config.specs.ConnectionStringReading.{ConnectionStringSays, behind_scheme}
use Rattle.pg_config.specs.KeyValueReading.{KeyValuesSay}
use Rattle.pg_config.specs.ParameterReading.{Says}
use Rattle.pg_config.specs.UrlReading.{UrlSays, opening, parameter_at, query}
use Rattle.pg_config.specs.Urls.{parameter}
use Rattle.pg_config.specs.Settings.{defaults}

abbrev after_opening : List ℕ → Result Config Cause → Result Config Cause → Type 0
after_opening text said opened = elim opened [ Err fault ↦ said ≡ Err fault | Ok s ↦ Says parameter_at parameter (query text) s said ]

-- what stands before the parameters is known
pub url_rest : (text : List ℕ) (start s : Config) (said : Result Config Cause) → opening text start ≡ Ok s → start ≡ defaults → UrlSays text said → Says parameter_at parameter (query text) s said
url_rest text start s said opened is h = subst (after_opening text said) (sym (ap (opening text) is) ∙ opened) h

abbrev by_scheme : List ℕ → Result Config Cause → Option (List ℕ) → Type 0
by_scheme text said scheme = elim scheme [ Some rest ↦ UrlSays rest said | None ↦ KeyValuesSay (chars text) said ]

pub url_text : (text rest : List ℕ) (said : Result Config Cause) → Some rest ≡ behind_scheme text → ConnectionStringSays text said → UrlSays rest said
url_text text rest said is h = subst (by_scheme text said) (sym is) h

pub key_value_text : (text : List ℕ) (said : Result Config Cause) → None ≡ behind_scheme text → ConnectionStringSays text said → KeyValuesSay (chars text) said
key_value_text text said is h = subst (by_scheme text said) (sym is) h
