use Rattle.std.proofs.Common.{◌≡◌, ℕ, ◌<◌, get_or}
use Rattle.pg_values.proofs.scalars_written.is_known.Given as goal

abbrev pub invariant-loop-label : goal.invariant-loop-label
invariant-loop-label l = (k : ℕ) → k < l.label-index → get_or l.labels k l.bytes ≡ l.bytes → ⊥
