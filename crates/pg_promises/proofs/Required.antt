-- Where TLS is required nothing crosses the link but an SSLRequest.
use Rattle.std.proofs.Common.{◌≡◌, ◌⊎◌, ◌≤◌, length, ℕ, List, [], ◌++◌, inl, inr, ap, sym, ◌∙◌}
use Rattle.pg_spec.specs.Frames.{ssl_request}
use Rattle.pg_spec.specs.Settings.{Direct, Postgres, Require, Settings}
use Rattle.pg_promises.specs.Causes.{Call, MustAskForTls, NeedsNoTls}
use Rattle.pg_promises.specs.Promises.{IsFront}

-- what may have been sent, whatever the rest of it says
pub asks-first : (call : Call) (s : Settings) (g t : List ℕ) {P : Type 0} → s.ssl_mode ≡ Require →
    (t ≡ []) ⊎ (MustAskForTls s × IsFront t ssl_request × (length g ≤ 1)) ⊎ (NeedsNoTls s × P) → IsFront t ssl_request
asks-first call s g t required (inl none) = (ssl_request, ap (λ (x : List ℕ). x ++ ssl_request) none)
asks-first call s g t required (inr (inl asked)) = asked.1
asks-first call s g t required (inr (inr plain)) = absurd (plain.0 required)

pub asks-nothing : (call : Call) (s : Settings) (g t : List ℕ) {P : Type 0} → s.ssl_mode ≡ Require → s.ssl_negotiation ≡ Direct →
    (t ≡ []) ⊎ (MustAskForTls s × IsFront t ssl_request × (length g ≤ 1)) ⊎ (NeedsNoTls s × P) → t ≡ []
asks-nothing call s g t required direct (inl none) = none
asks-nothing call s g t required direct (inr (inl asked)) = absurd (let no : Direct ≡ Postgres = sym direct ∙ asked.0.1 in cc)
asks-nothing call s g t required direct (inr (inr plain)) = absurd (plain.0 required)
