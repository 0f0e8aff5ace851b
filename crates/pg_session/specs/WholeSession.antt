-- The main theorem, of a session that was played, and how sessions leave their link.
use Rattle.std.specs.Prelude.{◌≡◌, ◌⊎◌, ℕ, IsFalse, IsTrue, List, ◌++◌}
use Rattle.pg_types.specs.declared.error.Error.{Error}
use Rattle.pg_types.specs.declared.error.Error.TheVariants.{OutOfMemory}
use Rattle.pg_promises.specs.Endings.{EndedWell, Report}
use Rattle.pg_spec.specs.Frames.{terminate_frame}
use Rattle.pg_spec.specs.Links.{LinkView, OfBytes}
use Rattle.pg_spec.specs.Settings.{Settings}
use Rattle.pg_session.specs.Speeches.{Speech, meaning_of}
use Rattle.pg_session.specs.Crossed.{session_of}

-- where the link tells its bytes, the session ended well
abbrev pub EndsWell : {C T A E : Type 0} → (speech : Speech C T A E) (settings : Settings) (nonce : List ℕ) (scripts : List (List C)) (given : List ℕ) (before after : LinkView) → Report A → Type 0
EndsWell speech settings nonce scripts given before after report = OfBytes before after (λ g t. EndedWell (meaning_of speech) (session_of settings nonce scripts given report g) t)

-- All that the link took is flushed, and it is shut down. Of a link that was shut down before nothing is known of flushes.
pub record IsClosed (before after : LinkView) : Type 0 where
  pub flushed : IsFalse before.shut → IsTrue after.flushed
  pub shut : IsTrue after.shut

-- The same, and where the link tells its bytes, the last that it took are Terminate.
pub record WasClosed (before after : LinkView) : Type 0 where
  pub closed : IsClosed before after
  pub sent : OfBytes before after (λ g t. (front : List ℕ) × (t ≡ front ++ terminate_frame))

-- A session that fails doesn't shut the link down, but where memory lacked behind its end.
abbrev pub LeavesOpen : (before after : LinkView) → Error → Type 0
LeavesOpen before after e = (after.shut ≡ before.shut) ⊎ ((e ≡ OutOfMemory) × WasClosed before after)
