-- What stands in front of received bytes, and where the batch in front of them ends (PostgreSQL
-- documentation, "Message Formats").
use Rattle.std.specs.Prelude.{◌≡◌, ℕ, ◌≤◌, Bool, true, false, ◌||◌, ◌==◌, List, [], length, take, drop, slice_index, Some, None}
use Rattle.std.specs.Str.{byte}
use Rattle.pg_spec.specs.RawMessages.{RawMessage, message_at, messages, bytes_left, has_bad_header}
use Rattle.pg_spec.specs.Batches.{is_batch, StopsAt}
use Rattle.pg_wire.specs.declared.front.Found.{Found}
use Rattle.pg_wire.specs.declared.front.Found.TheVariants.{Whole, Short, Bad}

-- the tag of a message that answers no request: a notice, a notification or a parameter report
abbrev pub is_aside_tag : ℕ → Bool
is_aside_tag tag = (tag == byte "N" || tag == byte "A") || tag == byte "S"

-- the first n bytes as a message
abbrev pub message_of_bytes : ℕ → List ℕ → RawMessage
message_of_bytes n s = record { tag = slice_index s 0; body = drop 5 (take n s) }

-- the first n bytes are a whole message
pub record IsWhole (s : List ℕ) (n : ℕ) : Type 0 where
  pub some : 5 ≤ n
  pub fits : n ≤ length s
  pub front : message_at s ≡ Some (message_of_bytes n s, drop n s)
  pub alone : message_at (take n s) ≡ Some (message_of_bytes n s, [])

-- what was found in front
abbrev pub FrontIs : List ℕ → Found → Type 0
FrontIs s (Whole n) = IsWhole s n
FrontIs s Short = (message_at s ≡ None) × (has_bad_header s ≡ false)
FrontIs s Bad = (message_at s ≡ None) × (has_bad_header s ≡ true)

-- The first bytes are a batch, and it ends there.
pub record IsCut (s : List ℕ) (at : ℕ) (complete : Bool) : Type 0 where
  pub fits : at ≤ length s
  pub whole : bytes_left (take at s) ≡ []
  pub batch : is_batch complete (messages (take at s)) ≡ true
  pub stops : StopsAt complete (messages (drop at s))
