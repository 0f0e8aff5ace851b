use Rattle.std.proofs.Common.{◌≡◌, ◌≤◌, length, drop, false}
use Rattle.pg_search.proofs.Busy.{busy_in}
use Rattle.pg_search.proofs.stack.Stack.may_find.Given as goal

-- no frame from here on is of the oid
abbrev pub invariant-loop-place : goal.invariant-loop-place
invariant-loop-place l = (l.place ≤ length l.self.frames.items) × (busy_in l.oid (drop l.place l.self.frames.items) ≡ false)

abbrev pub decreases-loop-place : goal.decreases-loop-place
decreases-loop-place l = l.place
