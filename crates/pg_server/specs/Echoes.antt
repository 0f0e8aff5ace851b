-- What a handler answers that gives a query its own text back (PostgreSQL documentation, "Message Formats": RowDescription,
-- DataRow, CommandComplete, ErrorResponse).
use Rattle.std.specs.Prelude.{◌≡◌, ℕ, ◌+◌, ◌^◌, true, false, Ok, List, [], ◌∷◌, ◌++◌, length, nat_lt, if◌then◌else◌, codes}
use Rattle.std.specs.Int.{w16, w32, to_be_bytes}
use Rattle.std.specs.Str.{byte, is_utf8}
use Rattle.pg_spec.specs.Bytes.{text0}
use Rattle.pg_spec.specs.ClientFrames.{ClientFrame, Query}
use Rattle.pg_spec.specs.Frames.{query_frame}
use Rattle.pg_spec.specs.RawMessages.{RawMessage, message_bytes}
use Rattle.pg_server.specs.declared.handler.Effect.{Effect}

-- a column `echo` of no table, of type text (25), of any size (-1), without a modifier (-1), as text
abbrev pub description : RawMessage
description = record {
  tag = byte "T";
  body = to_be_bytes w16 1 ++ text0 (codes "echo") ++ to_be_bytes w32 0 ++ to_be_bytes w16 0 ++ to_be_bytes w32 25
      ++ to_be_bytes w16 65535 ++ to_be_bytes w32 4294967295 ++ to_be_bytes w16 0;
}

-- a row of one cell
abbrev pub data_row : List ℕ → RawMessage
data_row text = record { tag = byte "D"; body = to_be_bytes w16 1 ++ to_be_bytes w32 (length text) ++ text }

-- one row was selected
abbrev pub complete : RawMessage
complete = record { tag = byte "C"; body = text0 (codes "SELECT 1") }

-- the row of a text, with what comes before and behind it
abbrev pub rows_of : List ℕ → List ℕ
rows_of text = message_bytes description ++ message_bytes (data_row text) ++ message_bytes complete

-- a field of an error
abbrev pub field : ℕ → List ℕ → List ℕ
field kind text = kind ∷ text0 text

-- the error `0A000`, feature_not_supported: severity, severity that isn't translated, code, message
abbrev pub not_here : RawMessage
not_here = record {
  tag = byte "E";
  body = field (byte "S") (codes "ERROR") ++ field (byte "V") (codes "ERROR") ++ field (byte "C") (codes "0A000") ++ field (byte "M") (codes "not here") ++ 0 ∷ [];
}

-- a query is answered by its text, where the row is no longer than a message may be; any other frame by the error
abbrev pub echo_reply : ClientFrame → List ℕ
echo_reply (Query text) = if nat_lt (10 + length text) (2 ^ 31) then rows_of text else message_bytes not_here
echo_reply frame = message_bytes not_here

-- it has one state
abbrev pub echo_step : Unit {0} → ClientFrame → Effect × Unit {0}
echo_step state frame = (record { reply = echo_reply frame; opens = false }, state)

-- the frame of a simple query in UTF-8
pub record IsTextQuery (frame : List ℕ) : Type 0 where
  pub text : List ℕ
  pub is_text : is_utf8 text ≡ true
  pub is : query_frame text ≡ Ok frame
