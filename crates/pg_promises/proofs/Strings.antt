-- Each connection string says one thing.
use Rattle.std.proofs.Common.{◌≡◌, ℕ, List, Result, Ok, Err, refl, sym, ap, ◌∙◌}
use Rattle.pg_config.specs.declared.config.Config.{Config}
use Rattle.pg_config.specs.ConnectionStrings.{ConnectionStringMeans}
use Rattle.pg_config.specs.Views.{settings_of}
use Rattle.pg_config.proofs.OneMeaning.{meaning_one}
use Rattle.pg_spec.specs.Faults.{Cause}
use Rattle.pg_spec.specs.Settings.{Settings}
use Rattle.pg_promises.specs.ConnectionStrings.{Means}

same_ok : (a b : Result Config Cause) (c d : Config) → a ≡ Ok c → b ≡ Ok d → a ≡ b → c ≡ d
same_ok a b c d e f same = cc

ok_not_err : (a b : Result Config Cause) (c : Config) (cause : Cause) → a ≡ Ok c → b ≡ Err cause → a ≡ b → ⊥
ok_not_err a b c cause e f same = cc

-- no text says two settings
pub means_one : (text : List ℕ) (s t : Settings) → Means text s → Means text t → s ≡ t
means_one text s t a b = a.2 ∙ ap settings_of (same_ok (Ok a.0) (Ok b.0) a.0 b.0 refl refl (meaning_one text (Ok a.0) (Ok b.0) a.1 b.1)) ∙ sym b.2

-- no text says settings and has a fault
pub no_fault : (text : List ℕ) (s : Settings) (cause : Cause) → Means text s → ConnectionStringMeans text (Err cause) → ⊥
no_fault text s cause a b = ok_not_err (Ok a.0) (Err cause) a.0 cause refl refl (meaning_one text (Ok a.0) (Err cause) a.1 b)
