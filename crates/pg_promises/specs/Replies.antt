-- Messages of the worked replies.
use Rattle.std.specs.Prelude.{ℕ, List, [], ◌∷◌, ◌++◌, length, flat_map, codes}
use Rattle.std.specs.Int.{w16, w32, to_be_bytes}
use Rattle.std.specs.Str.{byte}
use Rattle.pg_spec.specs.Bytes.{text0}
use Rattle.pg_spec.specs.RawMessages.{RawMessage}

-- a message with this tag
abbrev pub message : ℕ → List ℕ → RawMessage
message tag body = record { tag = tag; body = body }

-- ReadyForQuery
abbrev pub ready : RawMessage
ready = message (byte "Z") (byte "I" ∷ [])

-- CommandComplete
abbrev pub complete : List ℕ → RawMessage
complete tag = message (byte "C") (text0 tag)

-- ErrorResponse
abbrev pub error : RawMessage
error = message (byte "E") (byte "C" ∷ text0 (codes "42601") ++ 0 ∷ [])

-- a column of a RowDescription, of this type
abbrev pub column : List ℕ → ℕ → List ℕ
column name oid = text0 name ++ to_be_bytes w32 0 ++ to_be_bytes w16 0 ++ to_be_bytes w32 oid ++ to_be_bytes w16 4 ++ to_be_bytes w32 0 ++ to_be_bytes w16 0

-- RowDescription
abbrev pub columns : List (List ℕ) → RawMessage
columns all = message (byte "T") (to_be_bytes w16 (length all) ++ flat_map (λ c. c) all)

-- DataRow
abbrev pub row : List (List ℕ) → RawMessage
row cells = message (byte "D") (to_be_bytes w16 (length cells) ++ flat_map (λ cell. to_be_bytes w32 (length cell) ++ cell) cells)

-- a statement without parameters is described, by what its columns are
abbrev pub describes : RawMessage → List RawMessage
describes last = message (byte "1") [] ∷ message (byte "t") (0 ∷ 0 ∷ []) ∷ last ∷ ready ∷ []

-- NoData
abbrev pub no_data : RawMessage
no_data = message (byte "n") []

-- BindComplete
abbrev pub bound : RawMessage
bound = message (byte "2") []

-- CopyInResponse
abbrev pub copy_in_response : RawMessage
copy_in_response = message (byte "G") (0 ∷ 0 ∷ 0 ∷ [])
