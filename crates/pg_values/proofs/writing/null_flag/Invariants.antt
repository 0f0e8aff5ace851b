use Rattle.std.proofs.Common.{◌≡◌, ℕ, ◌<◌, get_or}
use Rattle.pg_values.specs.declared.datum.Datum as d
use Rattle.pg_values.proofs.writing.null_flag.Given as goal

abbrev pub invariant-loop-item : goal.invariant-loop-item
invariant-loop-item l = (k : ℕ) → k < l.item-index → get_or l.items k d.Null ≡ d.Null → ⊥
