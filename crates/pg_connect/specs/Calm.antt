-- Calls of a link that are no lull, and how many weren't ready.
use Rattle.std.specs.Prelude.{◌≡◌, ◌+◌, ◌≤◌, IsTrue}
use Rattle.pg_spec.specs.Links.{LinkView}
use Rattle.pg_wire.specs.LinkCalls.{NoLull}

-- On a steady link no call was a lull, and it is steady still.
pub record StaysCalm (before after : LinkView) : Type 0 where
  pub steady : IsTrue before.steady → IsTrue after.steady
  pub no_lull : NoLull before after

-- each call was ready
abbrev pub MissesNone : LinkView → LinkView → Type 0
MissesNone before after = after.quiet ≡ before.quiet

-- at most one call wasn't
abbrev pub MissesOne : LinkView → LinkView → Type 0
MissesOne before after = after.quiet ≤ before.quiet + 1

-- At most two calls weren't ready, and on a steady link at most one.
pub record MissesFew (before after : LinkView) : Type 0 where
  pub two : after.quiet ≤ before.quiet + 2
  pub steady : IsTrue before.steady → after.quiet ≤ before.quiet + 1
