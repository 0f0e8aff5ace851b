-- Batches: messages of one request that are passed on together (PostgreSQL documentation, "Message
-- Flow": one ReadyForQuery ends the reply to a request).
use Rattle.std.specs.Prelude.{◌≡◌, Bool, true, false, not, ◌&&◌, List, [], ◌∷◌, IsTrue, if◌then◌else◌}
use Rattle.pg_spec.specs.RawMessages.{RawMessage, is_aside, is_ready}

-- the list of nothing
abbrev pub is_nothing : {X : Type 0} → List X → Bool
is_nothing [] = true
is_nothing (x ∷ xs) = false

-- No message aside stands among them. A complete batch has a ReadyForQuery, as its last, and any other has none.
abbrev pub is_batch : Bool → List RawMessage → Bool
is_batch complete [] = not complete
is_batch complete (m ∷ ms) = if is_aside m then false else (if is_ready m then complete && is_nothing ms else is_batch complete ms)

-- the messages are a batch, complete or not
abbrev pub IsBatch : List RawMessage → Type 0
IsBatch ms = (complete : Bool) × (is_batch complete ms ≡ true)

-- a batch that isn't complete ends before a message aside, or where whole messages run out
abbrev pub StopsAt : Bool → List RawMessage → Type 0
StopsAt true rest = Unit {0}
StopsAt false [] = Unit {0}
StopsAt false (m ∷ ms) = IsTrue (is_aside m)
