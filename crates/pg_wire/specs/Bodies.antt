-- What the bodies that hold two texts stand for (PostgreSQL documentation, "Message Formats", under
-- ParameterStatus and NotificationResponse).
use Rattle.std.specs.Prelude.{◌≡◌, ℕ, ◌+◌, ◌-◌, ◌<◌, ℤ, List, length, take, drop, Option, Some, None}
use Rattle.pg_spec.specs.Bytes.{◌>>=◌, text0_at, if_all_read}

-- a text, and the text behind it
pub record TextPair : Type 0 where
  pub first : List ℕ
  pub second : List ℕ

-- two texts, and nothing behind them
abbrev pub text_pair : List ℕ → Option TextPair
text_pair bytes = do
  first ← text0_at bytes
  second ← text0_at first.1
  if_all_read (record { first = first.0; second = second.0 }, second.1)

-- a setting of the server
pub record Setting : Type 0 where
  pub name : List ℕ
  pub value : List ℕ

-- a notification of another session
pub record Notified : Type 0 where
  pub process_id : ℤ
  pub channel : List ℕ
  pub payload : List ℕ

-- the text in front ends at its first zero byte, which stands there
abbrev pub TextEnds : List ℕ → Option ℕ → Type 0
TextEnds bytes None = text0_at bytes ≡ None
TextEnds bytes (Some n) = (n < length bytes) × (text0_at bytes ≡ Some (take n bytes, drop (n + 1) bytes))

-- the bytes are two texts, the first of which ends there
abbrev pub PairEnds : List ℕ → Option ℕ → Type 0
PairEnds bytes None = text_pair bytes ≡ None
PairEnds bytes (Some n) = (n + 1 < length bytes)
    × (text_pair bytes ≡ Some (record { first = take n bytes; second = drop (n + 1) (take (length bytes - 1) bytes) }))
