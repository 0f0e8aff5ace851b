-- Where a startup's dialogue stands.
use Rattle.std.specs.Prelude.{◌≡◌, [], unwrap_or}
use Rattle.pg_spec.specs.Startup as startups
use Rattle.pg_config.specs.Views.{settings_of}
use Rattle.pg_scram.specs.Bindings.{binding_of}
use Rattle.pg_startup.specs.declared.phase.Login.{Login}
use Rattle.pg_startup.specs.declared.phase.Phase.{Phase}
use Rattle.pg_startup.specs.declared.phase.Phase.TheVariants as phase

-- what a login stands on
abbrev pub login_of : Login → startups.Login
login_of l = record { settings = settings_of l.config.now; nonce = l.nonce.now; channel = l.channel }

-- what the client waits for
abbrev pub phase_of : Phase → startups.Phase
phase_of phase.First = startups.First
phase_of (phase.Continue scram) = startups.Continue (binding_of scram.binding)
phase_of (phase.Final final) = startups.Final final.signature
phase_of phase.Accepted = startups.Accepted
phase_of phase.Info = startups.Info

-- a dialogue that was begun is that of the login
abbrev pub Holds : startups.Login → Phase → Type 0
Holds l (phase.Continue scram) = (scram.password ≡ unwrap_or l.settings.password []) × (scram.nonce ≡ l.nonce)
Holds l _ = Unit {0}

-- where a dialogue stands
pub record Stage : Type 0 where
  pub login : startups.Login
  pub phase : startups.Phase
