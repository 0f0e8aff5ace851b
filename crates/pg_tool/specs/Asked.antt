-- What a session is asked, and whether it starts up.
use Rattle.std.specs.Prelude.{◌≡◌, ℕ, IsTrue, IsFalse, IsSome, List, None, Result, Ok, Err}
use Rattle.pg_promises.specs.Causes.{Call}
use Rattle.pg_spec.specs.Passwords.{is_nonce}
use Rattle.pg_spec.specs.Report.{Command}
use Rattle.pg_spec.specs.Settings.{Settings}
use Rattle.pg_spec.specs.Links.{LinkView}
use Rattle.pg_types.specs.declared.cause.Cause.{Cause}
use Rattle.pg_types.specs.declared.cause.Cause.TheVariants as cause

-- whether a session starts up with these settings and this nonce; or the first reason why it doesn't: no user, or a nonce
-- out of form
abbrev pub MayStart : Settings → (nonce : List ℕ) → Result (Unit {0}) Cause → Type 0
MayStart s nonce (Ok x) = IsSome s.user × IsTrue (is_nonce nonce)
MayStart s nonce (Err cause.NoUser) = s.user ≡ None
MayStart s nonce (Err cause.Nonce) = IsSome s.user × IsFalse (is_nonce nonce)
MayStart s nonce (Err other) = ⊥

-- what a session of simple queries alone is asked, and its link before and after
abbrev pub call_of : (config nonce : List ℕ) → List (List Command) → (turns : List ℕ) → (limit : ℕ) → (before after : LinkView) → Call
call_of config nonce scripts turns limit before after = record {
  config = config;
  nonce = nonce;
  scripts = scripts;
  turns = turns;
  limit = limit;
  before = before;
  after = after;
}
