-- The messages of a server that stand in a generated plan (PostgreSQL documentation, "Message Formats").
use Rattle.std.specs.Prelude.{ℕ, List, ◌++◌, flat_map, Some, codes, negsuc}
use Rattle.std.specs.Int.{w16, w32, to_be_bytes, cast_unsigned}
use Rattle.std.specs.Str.{byte}
use Rattle.pg_spec.specs.Bytes.{text0}
use Rattle.pg_spec.specs.Frames.{value_bytes}
use Rattle.pg_spec.specs.RawMessages.{RawMessage, message_bytes}

-- the bytes of messages, one behind another
abbrev pub bytes_of : List RawMessage → List ℕ
bytes_of ms = flat_map message_bytes ms

-- AuthenticationOk
abbrev pub authentication_ok : RawMessage
authentication_ok = record { tag = byte "R"; body = to_be_bytes w32 0 }

-- ReadyForQuery, outside a transaction
abbrev pub ready : RawMessage
ready = record { tag = byte "Z"; body = codes "I" }

-- NotificationResponse
abbrev pub notification : (process_id : ℕ) (channel payload : List ℕ) → RawMessage
notification process_id channel payload = record { tag = byte "A"; body = to_be_bytes w32 process_id ++ text0 channel ++ text0 payload }

-- RowDescription of one column that is no table's: the type int4 (oid 23) of 4 bytes, without a modifier, as text
abbrev pub one_column : List ℕ → RawMessage
one_column name = record {
  tag = byte "T";
  body = to_be_bytes w16 1 ++ text0 name ++ to_be_bytes w32 0 ++ to_be_bytes w16 0
      ++ to_be_bytes w32 23 ++ to_be_bytes w16 4 ++ to_be_bytes w32 (cast_unsigned w32 (negsuc 0)) ++ to_be_bytes w16 0;
}

-- DataRow of one cell
abbrev pub one_cell : List ℕ → RawMessage
one_cell value = record { tag = byte "D"; body = to_be_bytes w16 1 ++ value_bytes (Some value) }

-- CommandComplete
abbrev pub command_complete : List ℕ → RawMessage
command_complete tag = record { tag = byte "C"; body = text0 tag }
