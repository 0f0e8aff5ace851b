-- What a command that waits lacks.
use Rattle.std.specs.Prelude.{◌≡◌, ◌≤◌, ℕ, [], length, true}
use Rattle.pg_hub.specs.Mail.{at, waits}
use Rattle.pg_hub.specs.Rests.{rest_at}
use Rattle.pg_hub.specs.Standing.{Standing}
use Rattle.pg_query.specs.Meaning.{Place}
use Rattle.pg_query.specs.Scripts.{IsPut, IsRead}

-- no message of this request is there that its reader hasn't taken
abbrev pub LacksMessage : (hub : Standing) → (k : ℕ) → Type 0
LacksMessage hub k = waits (at hub.mail k) ≡ []

-- this request is a copy that isn't ended, and as many parts of it as may wait haven't gone out
pub record LacksRoom (hub : Standing) (k : ℕ) : Type 0 where
  pub copying : (rest_at hub.outgoing k).copying ≡ true
  pub full : 2 ≤ length (rest_at hub.outgoing k).parts

-- a command that stands here reads, and no message is there, or puts a part, and there is no room for it
pub data IsHeldUp {T : Type 0} (hub : Standing) (place : Place T) : Type 0 where
  ByMessage : IsRead place.dialogue → LacksMessage hub place.reads → IsHeldUp hub place
  ByRoom : IsPut place.dialogue → LacksRoom hub place.reads → IsHeldUp hub place
