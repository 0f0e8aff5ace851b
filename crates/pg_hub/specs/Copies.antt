-- Which requests take parts.
use Rattle.std.specs.Prelude.{◌≡◌, ◌⊎◌, ◌<◌, ◌≤◌, ℕ, length, true, false}
use Rattle.pg_hub.specs.Mail.{is_gone, at}
use Rattle.pg_hub.specs.Rests.{rest_at}
use Rattle.pg_hub.specs.Standing.{InFlight}

-- the request is a copy that takes parts: it isn't ended, its reader didn't hang up, and nothing failed
pub record IsCopy (q : InFlight) (id : ℕ) : Type 0 where
  pub going : q.failed ≡ false
  pub booked : id < length q.mail
  pub copies : (rest_at q.outgoing id).copying ≡ true
  pub here : is_gone (at q.mail id) ≡ false

-- it is none
abbrev pub IsNoCopy : InFlight → ℕ → Type 0
IsNoCopy q id = (q.failed ≡ true) ⊎ (length q.mail ≤ id) ⊎ ((rest_at q.outgoing id).copying ≡ false) ⊎ ((id < length q.mail) × (is_gone (at q.mail id) ≡ true))
