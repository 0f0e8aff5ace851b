-- The frames of a client as they are found in bytes: by the tag, the length and the layout alone
-- (PostgreSQL documentation, "Message Formats"). How a frame is written is nowhere said here.
use Rattle.std.specs.Prelude.{ℕ, zero, suc, ◌-◌, ◌^◌, Bool, List, [], ◌∷◌, Option, Some, None, nat_lt, ◌==◌, ◌||◌, if◌then◌else◌, ℤ, find}
use Rattle.std.specs.Int.{w16, w32}
use Rattle.std.specs.Str.{byte, bytes_eq}
use Rattle.pg_spec.specs.Bytes.{◌>>=◌, byte_at, bytes_at, number_at, signed_at, text0_at, items_of, if_all_read}
use Rattle.pg_spec.specs.Bodies.{name_at}
use Rattle.pg_spec.specs.RawMessages.{RawMessage, is_length, message_at}

-- a frame behind the startup frame
pub data ClientFrame : Type 0 where
  -- what a request for authentication is answered with; the request tells how it is read
  Answer : (body : List ℕ) → ClientFrame
  Query : (text : List ℕ) → ClientFrame
  -- the statement's name, its text, the types of its parameters
  Parse : (name text : List ℕ) (oids : List ℕ) → ClientFrame
  Bind : (portal statement : List ℕ) (formats : List ℤ) (values : List (Option (List ℕ))) (results : List ℤ) → ClientFrame
  -- the variant is `S` for a statement and `P` for a portal
  Describe : (variant : ℕ) (name : List ℕ) → ClientFrame
  Close : (variant : ℕ) (name : List ℕ) → ClientFrame
  Execute : (portal : List ℕ) (max_rows : ℤ) → ClientFrame
  Sync : ClientFrame
  Flush : ClientFrame
  CopyData : (piece : List ℕ) → ClientFrame
  CopyDone : ClientFrame
  CopyFail : (message : List ℕ) → ClientFrame
  Terminate : ClientFrame

-- nothing stands there
abbrev pub empty : ClientFrame → List ℕ → Option ClientFrame
empty frame body = if_all_read (frame, body)

-- a text, and nothing behind it
abbrev pub one_text : (List ℕ → ClientFrame) → List ℕ → Option ClientFrame
one_text frame body = do
  text ← text0_at body
  if_all_read (frame text.0, text.1)

-- n items, and the bytes behind them
abbrev pub items_at : {A : Type 0} → ℕ → (List ℕ → Option (A × List ℕ)) → List ℕ → Option (List A × List ℕ)
items_at zero item bytes = Some ([], bytes)
items_at (suc n) item bytes = do
  first ← item bytes
  others ← items_at n item first.1
  Some (first.0 ∷ others.0, others.1)

-- a count, and so many items
abbrev pub counted_at : {A : Type 0} → (List ℕ → Option (A × List ℕ)) → List ℕ → Option (List A × List ℕ)
counted_at item bytes = do
  count ← number_at w16 bytes
  items_at count.0 item count.1

-- what follows the length of a value: as many bytes, or nothing where the length is -1, which is null
abbrev pub value_behind : ℕ → List ℕ → Option (Option (List ℕ) × List ℕ)
value_behind n rest =
    if n == 4294967295 then Some (None, rest)
    else if nat_lt n (2 ^ 31) then (bytes_at n rest >>= λ value. Some (Some value.0, value.1))
    else None

-- a value: a length and what follows it
abbrev pub value_at : List ℕ → Option (Option (List ℕ) × List ℕ)
value_at bytes = do
  n ← number_at w32 bytes
  value_behind n.0 n.1

-- a name, a text, a count of type oids
abbrev pub parsing : List ℕ → Option ClientFrame
parsing body = do
  name ← text0_at body
  text ← text0_at name.1
  oids ← counted_at (number_at w32) text.1
  if_all_read (Parse name.0 text.0 oids.0, oids.1)

-- two names, the formats of the parameters, the parameters, the formats of the result
abbrev pub binding : List ℕ → Option ClientFrame
binding body = do
  portal ← text0_at body
  statement ← text0_at portal.1
  formats ← counted_at (signed_at w16) statement.1
  values ← counted_at value_at formats.1
  results ← counted_at (signed_at w16) values.1
  if_all_read (Bind portal.0 statement.0 formats.0 values.0 results.0, results.1)

-- a statement is meant, `S`, or a portal, `P`
abbrev pub is_variant : ℕ → Bool
is_variant variant = variant == byte "S" || variant == byte "P"

-- a statement or a portal, by its name
abbrev pub target : (ℕ → List ℕ → ClientFrame) → List ℕ → Option ClientFrame
target frame body = do
  variant ← byte_at body
  name ← text0_at variant.1
  if is_variant variant.0 then if_all_read (frame variant.0 name.0, name.1) else None

-- a portal's name, and how many rows at most
abbrev pub executing : List ℕ → Option ClientFrame
executing body = do
  portal ← text0_at body
  max_rows ← signed_at w32 portal.1
  if_all_read (Execute portal.0 max_rows.0, max_rows.1)

-- what a tag's frame has behind its length
pub record Layout : Type 0 where
  pub tag : ℕ
  pub body : List ℕ → Option ClientFrame

-- the layout of each tag
abbrev pub layouts : List Layout
layouts =
    record { tag = byte "p"; body = λ body. Some (Answer body) }
    ∷ record { tag = byte "Q"; body = one_text Query }
    ∷ record { tag = byte "P"; body = parsing }
    ∷ record { tag = byte "B"; body = binding }
    ∷ record { tag = byte "D"; body = target Describe }
    ∷ record { tag = byte "C"; body = target Close }
    ∷ record { tag = byte "E"; body = executing }
    ∷ record { tag = byte "S"; body = empty Sync }
    ∷ record { tag = byte "H"; body = empty Flush }
    ∷ record { tag = byte "d"; body = λ body. Some (CopyData body) }
    ∷ record { tag = byte "c"; body = empty CopyDone }
    ∷ record { tag = byte "f"; body = one_text CopyFail }
    ∷ record { tag = byte "X"; body = empty Terminate }
    ∷ []

-- the frame of a tag and a body, None for another tag and where the layout is broken
abbrev pub client_frame_of : RawMessage → Option ClientFrame
client_frame_of raw = find (λ layout. layout.tag == raw.tag) layouts >>= λ layout. layout.body raw.body

-- the frame in front of the bytes, and the bytes behind it
abbrev pub client_frame_at : List ℕ → Option (ClientFrame × List ℕ)
client_frame_at bytes = do
  raw ← message_at bytes
  frame ← client_frame_of raw.0
  Some (frame, raw.1)

-- ---- the readings of an answer

-- PasswordMessage: a password
abbrev pub password_of : List ℕ → Option (List ℕ)
password_of body = text0_at body >>= if_all_read

-- SASLInitialResponse: a mechanism, and its first message or none
abbrev pub sasl_initial_of : List ℕ → Option (List ℕ × Option (List ℕ))
sasl_initial_of body = do
  mechanism ← text0_at body
  response ← value_at mechanism.1
  if_all_read ((mechanism.0, response.0), response.1)

-- ---- the frames before all others

-- a frame without a tag
pub data OpeningFrame : Type 0 where
  Startup : (pairs : List (List ℕ × List ℕ)) → OpeningFrame
  SslRequest : OpeningFrame
  CancelRequest : (process_id secret_key : ℤ) → OpeningFrame

-- a name that isn't empty, and its value
abbrev pub pair_at : List ℕ → Option ((List ℕ × List ℕ) × List ℕ)
pair_at bytes = do
  name ← name_at bytes
  value ← text0_at name.1
  Some ((name.0, value.0), value.1)

-- the pairs, where one zero byte and nothing else is left
abbrev pub if_ended : List (List ℕ × List ℕ) × List ℕ → Option OpeningFrame
if_ended read = if bytes_eq read.1 (0 ∷ []) then Some (Startup read.0) else None

-- the process id and the secret key
abbrev pub cancelling : List ℕ → Option OpeningFrame
cancelling body = do
  process_id ← signed_at w32 body
  secret_key ← signed_at w32 process_id.1
  if_all_read (CancelRequest process_id.0 secret_key.0, secret_key.1)

-- by the first number: a code, or version 3.0
abbrev pub opening_by : ℕ → List ℕ → Option OpeningFrame
opening_by code body =
    if code == 80877103 then if_all_read (SslRequest, body)
    else if code == 80877102 then cancelling body
    else if code == 196608 then if_ended (items_of pair_at body)
    else None

-- the frame in front of the bytes, and the bytes behind it
abbrev pub opening_frame_at : List ℕ → Option (OpeningFrame × List ℕ)
opening_frame_at bytes = do
  n ← number_at w32 bytes
  body ← bytes_at (n.0 - 4) n.1
  code ← number_at w32 body.0
  frame ← opening_by code.0 code.1
  if is_length n.0 then Some (frame, body.1) else None
