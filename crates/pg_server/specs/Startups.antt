-- What a server says to the startup frame (PostgreSQL documentation, "Message Flow", "Start-up").
use Rattle.std.specs.Prelude.{ℕ, Bool, false, ◌&&◌, ◌||◌, ◌==◌, List, [], ◌∷◌, if◌then◌else◌}
use Rattle.std.specs.Str.{byte, bytes_eq}
use Rattle.pg_spec.specs.Batches.{is_nothing}
use Rattle.pg_spec.specs.RawMessages.{RawMessage, messages, bytes_left, is_ready}

-- AuthenticationOk
abbrev pub is_authentication_ok : RawMessage → Bool
is_authentication_ok m = m.tag == byte "R" && bytes_eq m.body (0 ∷ 0 ∷ 0 ∷ 0 ∷ [])

-- the tag of BackendKeyData, ParameterStatus or NoticeResponse
abbrev pub is_report_tag : ℕ → Bool
is_report_tag tag = (tag == byte "K" || tag == byte "S") || tag == byte "N"

-- one of these
abbrev pub is_report : RawMessage → Bool
is_report m = is_report_tag m.tag

-- these in any number, then ReadyForQuery
abbrev pub are_settled : List RawMessage → Bool
are_settled [] = false
are_settled (m ∷ ms) = if is_ready m then is_nothing ms else is_report m && are_settled ms

-- the same of bytes
abbrev pub is_settled : List ℕ → Bool
is_settled bytes = is_nothing (bytes_left bytes) && are_settled (messages bytes)

-- AuthenticationOk, and then these
abbrev pub are_startup : List RawMessage → Bool
are_startup [] = false
are_startup (m ∷ ms) = is_authentication_ok m && are_settled ms

-- the same of bytes
abbrev pub is_startup : List ℕ → Bool
is_startup bytes = is_nothing (bytes_left bytes) && are_startup (messages bytes)
