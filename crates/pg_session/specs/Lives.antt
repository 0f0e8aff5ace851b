-- What came of a link behind a startup.
use Rattle.std.specs.Prelude.{◌≡◌, ℕ, List, ◌++◌, length}
use Rattle.pg_spec.specs.Links.{LinkView, Grew}
use Rattle.pg_spec.specs.RawMessages.{RawMessage, messages, sync_of}
use Rattle.pg_desk.specs.History.{IsFrontOf}

-- The link gave so many bytes, whose messages are those that the startup read and more, and what came is a front
-- of the synchronous ones among those.
pub record CameBehind (first : List RawMessage) (before after : LinkView) (all : List RawMessage) (count : ℕ) : Type 0 where
  pub got : List ℕ
  pub given : Grew before.given after.given got
  pub counted : count ≡ length got
  pub more : List RawMessage
  pub behind : messages got ≡ first ++ more
  pub front : IsFrontOf all (sync_of more)
