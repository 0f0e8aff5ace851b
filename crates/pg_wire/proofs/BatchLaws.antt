-- A batch and its rest, and what its end tells.
use Rattle.std.proofs.Common.{◌≡◌, Bool, true, false, ◌&&◌, List, [], ◌∷◌, refl, sym, subst, ◌∙◌, if◌then◌else◌}
use Rattle.pg_spec.specs.Batches.{is_batch, IsBatch, is_nothing}
use Rattle.pg_spec.specs.RawMessages.{RawMessage, is_aside, is_ready, ends_in}
use Rattle.pg_wire.proofs.Cuttings.{ends_by}

-- behind the first message of a batch stands a batch
pub batch-tail : (m : RawMessage) (ms : List RawMessage) → IsBatch (m ∷ ms) → IsBatch ms
batch-tail m ms (complete, is) = by_first (is_aside m) (is_ready m) complete ms is
  where
    by_first : (aside ready complete : Bool) (ms : List RawMessage) → (if aside then false else (if ready then complete && is_nothing ms else is_batch complete ms)) ≡ true → IsBatch ms
    by_first true ready complete ms is = absurd cc
    by_first false true true [] is = (false, refl)
    by_first false true true (x ∷ xs) is = absurd cc
    by_first false true false ms is = absurd cc
    by_first false false complete ms is = (complete, is)

-- a batch is complete where it ends in ReadyForQuery
pub batch-by_end : (complete : Bool) (ms : List RawMessage) → IsBatch ms → complete ≡ ends_in is_ready ms → is_batch complete ms ≡ true
batch-by_end complete ms (b, is) end = subst (λ (c : Bool). is_batch c ms ≡ true) ((ends_by b ms is).ends ∙ sym end) is
