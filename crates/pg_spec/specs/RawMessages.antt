-- The messages of a stream of bytes, and how they are sorted into groups (PostgreSQL documentation,
-- "Message Formats", "Message Flow", "Asynchronous Operations").
use Rattle.std.specs.Prelude.{ℕ, ◌+◌, ◌-◌, ◌^◌, Bool, false, not, ◌&&◌, ◌||◌, List, [], ◌∷◌, ◌++◌, length, filter, Option, Some, None, nat_lt, nat_le, ◌==◌, if◌then◌else◌}
use Rattle.std.specs.List.{onto_first}
use Rattle.std.specs.Int.{w32, to_be_bytes}
use Rattle.std.specs.Str.{byte}
use Rattle.pg_spec.specs.Bytes.{◌>>=◌, bytes_at, number_at, items_of}

-- a message as it stands on the wire: one byte of tag, and the body behind the length
pub record RawMessage : Type 0 where
  pub tag : ℕ
  pub body : List ℕ

-- a length counts itself, so it is at least 4, and it is a signed number
abbrev pub is_length : ℕ → Bool
is_length n = nat_le 4 n && nat_lt n (2 ^ 31)

-- the whole message in front of the bytes
abbrev pub message_at : List ℕ → Option (RawMessage × List ℕ)
message_at [] = None
message_at (tag ∷ bytes) = do
  n ← number_at w32 bytes
  body ← bytes_at (n.0 - 4) n.1
  if is_length n.0 then Some (record { tag = tag; body = body.0 }, body.1) else None

-- the bytes of a message
abbrev pub message_bytes : RawMessage → List ℕ
message_bytes m = m.tag ∷ to_be_bytes w32 (4 + length m.body) ++ m.body

-- the whole messages from the front of the bytes
abbrev pub messages : List ℕ → List RawMessage
messages bytes = (items_of message_at bytes).0

-- what stands behind them: nothing, a message that isn't whole, or a header that is none
abbrev pub bytes_left : List ℕ → List ℕ
bytes_left bytes = (items_of message_at bytes).1

-- a header stands in front whose length is below 4
abbrev pub has_bad_header : List ℕ → Bool
has_bad_header [] = false
has_bad_header (tag ∷ bytes) = elim (number_at w32 bytes) [ None ↦ false | Some n ↦ not (is_length n.0) ]

-- NoticeResponse and NotificationResponse, which a server may send at any time
abbrev pub is_async : RawMessage → Bool
is_async m = m.tag == byte "N" || m.tag == byte "A"

-- ParameterStatus, likewise
abbrev pub is_parameter : RawMessage → Bool
is_parameter m = m.tag == byte "S"

-- a message that no request asks for: it may stand between any two others, and enters no group
abbrev pub is_aside : RawMessage → Bool
is_aside m = is_async m || is_parameter m

-- ReadyForQuery, which ends the reply to a Query or a Sync
abbrev pub is_ready : RawMessage → Bool
is_ready m = m.tag == byte "Z"

-- the notices and notifications, in order
abbrev pub async_of : List RawMessage → List RawMessage
async_of ms = filter is_async ms

-- the messages that answer requests, in order
abbrev pub sync_of : List RawMessage → List RawMessage
sync_of ms = filter (λ m. not (is_aside m)) ms

-- a list cut after each item that passes the test; the last piece may be unfinished
abbrev pub cut_after : {X : Type 0} → (X → Bool) → List X → List (List X)
cut_after p [] = []
cut_after p (x ∷ xs) = if p x then (x ∷ []) ∷ cut_after p xs else onto_first x (cut_after p xs)

-- the last item passes the test
abbrev pub ends_in : {X : Type 0} → (X → Bool) → List X → Bool
ends_in p [] = false
ends_in p (x ∷ []) = p x
ends_in p (x ∷ y ∷ xs) = ends_in p (y ∷ xs)

-- The replies: group k is the messages that answer request k. The last group may be unfinished.
abbrev pub groups : List RawMessage → List (List RawMessage)
groups ms = cut_after is_ready (sync_of ms)

-- a group that its ReadyForQuery ends
abbrev pub is_whole_group : List RawMessage → Bool
is_whole_group group = ends_in is_ready group
