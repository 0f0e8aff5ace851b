-- How a session fails.
use Rattle.std.specs.Prelude.{◌≡◌, ◌⊎◌, ℕ, List, Err}
use Rattle.pg_spec.specs.Links.{LinkView}
use Rattle.pg_spec.specs.Settings.{Settings}
use Rattle.pg_startup.specs.Steps.{Made, frame_of}
use Rattle.pg_startup.specs.declared.startup.Startup.{Startup}
use Rattle.pg_types.specs.declared.error.Error.{Error}
use Rattle.pg_types.specs.declared.error.Error.TheVariants.{OutOfMemory}
use Rattle.pg_session.specs.Failures.{HasBroken, WasOpened, WasOver}
use Rattle.pg_promises.specs.Endings.{Report}
use Rattle.pg_session.specs.Sessions.{HasPlayed}
use Rattle.pg_session.specs.Speeches.{Speech}
use Rattle.pg_play.specs.Openings.{OpenEnds}

-- its startup failed, over a link that may give so many bytes
pub record StartFails (settings : Settings) (nonce : List ℕ) (limit : ℕ) (before after : LinkView) (e : Error) : Type 0 where
  pub startup : Startup
  pub limited : startup.bytes.max_bytes ≡ limit
  pub ends : OpenEnds settings nonce before after startup (Err e)

-- or it was opened, and failed later
pub record BreaksLater {C T A E : Type 0} (speech : Speech C T A E) (settings : Settings) (nonce : List ℕ) (scripts : List (List C)) (limit : ℕ) (before after : LinkView) (e : Error) : Type 0 where
  pub broken : HasBroken speech settings nonce scripts before after e
  pub limited : broken.startup.bytes.max_bytes ≡ limit

-- or memory lacked between its startup and its first turn, or behind its last
pub record LacksAround {C T A E : Type 0} (speech : Speech C T A E) (settings : Settings) (nonce : List ℕ) (scripts : List (List C)) (before after : LinkView) (e : Error) : Type 0 where
  pub memory : e ≡ OutOfMemory
  pub crossed : WasOpened settings nonce before after ⊎ WasOver speech settings nonce scripts before after

-- one of these, or the startup's frame can't be made
abbrev pub SessionFails : {C T A E : Type 0} → (speech : Speech C T A E) (settings : Settings) (nonce : List ℕ) (scripts : List (List C)) (limit : ℕ) (before after : LinkView) → Error → Type 0
SessionFails speech settings nonce scripts limit before after e =
    LacksAround speech settings nonce scripts before after e ⊎ ((Made (frame_of settings) (Err e) × (after ≡ before)) ⊎ (StartFails settings nonce limit before after e ⊎ BreaksLater speech settings nonce scripts limit before after e))

-- it was opened under this limit, and ended well
abbrev pub PlaysWithin : {C T A E : Type 0} → (speech : Speech C T A E) (settings : Settings) (nonce : List ℕ) (scripts : List (List C)) (given : List ℕ) (limit : ℕ) (before after : LinkView) → Report A → Type 0
PlaysWithin speech settings nonce scripts given limit before after report = (p : HasPlayed speech settings nonce scripts given before after report) × (p.startup.bytes.max_bytes ≡ limit)
