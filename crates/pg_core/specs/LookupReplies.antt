-- The server's messages of worked lookups (PostgreSQL documentation, "Message Formats").
use Rattle.std.specs.Prelude.{ℕ, zero, suc, ◌+◌, List, [], ◌∷◌, ◌++◌, length, map, flat_map, Option, Some, None, codes}
use Rattle.std.specs.Int.{w16, w32, to_be_bytes}
use Rattle.std.specs.Str.{byte}
use Rattle.pg_spec.specs.Bytes.{text0}
use Rattle.pg_spec.specs.Frames.{value_bytes}
use Rattle.pg_spec.specs.RawMessages.{RawMessage}

-- a message of this tag
abbrev pub message : ℕ → List ℕ → RawMessage
message tag body = record { tag = tag; body = body }

-- the end of a reply: ReadyForQuery
abbrev pub ready : List RawMessage
ready = message (byte "Z") (byte "I" ∷ []) ∷ []

-- a column of a RowDescription
abbrev pub column : (name : List ℕ) → (oid : ℕ) → List ℕ
column name oid = text0 name ++ to_be_bytes w32 0 ++ to_be_bytes w16 0 ++ to_be_bytes w32 oid ++ to_be_bytes w16 4 ++ to_be_bytes w32 0 ++ to_be_bytes w16 0

-- the description of a statement: ParseComplete, ParameterDescription, RowDescription
abbrev pub described : (params : List ℕ) → (columns : List (List ℕ)) → List RawMessage
described params columns =
    message (byte "1") []
    ∷ message (byte "t") (to_be_bytes w16 (length params) ++ flat_map (to_be_bytes w32) params)
    ∷ message (byte "T") (to_be_bytes w16 (length columns) ++ flat_map (λ c. c) columns)
    ∷ ready

-- the description of a statement without parameters and with one column of oid 90000
abbrev pub q_described : List RawMessage
q_described = described [] (column (codes "c") 90000 ∷ [])

-- that of a statement of a type's own row
abbrev pub info_described : List RawMessage
info_described = described (26 ∷ []) (
    column (codes "typname") 19 ∷ column (codes "typtype") 18 ∷ column (codes "typelem") 26 ∷ column (codes "rngsubtype") 26
    ∷ column (codes "typbasetype") 26 ∷ column (codes "nspname") 19 ∷ column (codes "typrelid") 26 ∷ [])

-- that of a statement of an enumeration's labels
abbrev pub labels_described : List RawMessage
labels_described = described (26 ∷ []) (column (codes "enumlabel") 19 ∷ [])

-- that of a statement of a relation's columns
abbrev pub fields_described : List RawMessage
fields_described = described (26 ∷ []) (column (codes "attname") 19 ∷ column (codes "atttypid") 26 ∷ [])

-- an ErrorResponse of this code
abbrev pub refused : (code : List ℕ) → List RawMessage
refused code = message (byte "E") (byte "S" ∷ text0 (codes "ERROR") ++ byte "C" ∷ text0 code ++ byte "M" ∷ text0 (codes "bad") ++ 0 ∷ []) ∷ ready

-- an oid as a cell
abbrev pub oid_cell : ℕ → Option (List ℕ)
oid_cell n = Some (to_be_bytes w32 n)

-- DataRow
abbrev pub data_row : List (Option (List ℕ)) → RawMessage
data_row cells = message (byte "D") (to_be_bytes w16 (length cells) ++ flat_map value_bytes cells)

-- rows of a statement: BindComplete, the rows, CommandComplete
abbrev pub rows : List (List (Option (List ℕ))) → List RawMessage
rows given = message (byte "2") [] ∷ map data_row given ++ message (byte "C") (text0 (codes "SELECT")) ∷ ready

-- what a type's own row says of its kind
pub record Catalogued : Type 0 where
  pub typtype : List ℕ
  pub typelem : ℕ
  pub rngsubtype : Option (List ℕ)
  pub typbasetype : ℕ
  pub typrelid : ℕ

-- a base type
abbrev pub base : Catalogued
base = record { typtype = codes "b"; typelem = 0; rngsubtype = None; typbasetype = 0; typrelid = 0 }

-- the row of a type named `a` in the schema `public`
abbrev pub type_row : Catalogued → List RawMessage
type_row t = rows ((Some (codes "a") ∷ Some t.typtype ∷ oid_cell t.typelem ∷ t.rngsubtype ∷ oid_cell t.typbasetype ∷ Some (codes "public") ∷ oid_cell t.typrelid ∷ []) ∷ [])

-- a domain over this oid
abbrev pub domain : ℕ → List RawMessage
domain oid = type_row (record base { typtype = codes "d"; typbasetype = oid })

-- an array of this oid
abbrev pub array : ℕ → List RawMessage
array oid = type_row (record base { typelem = oid })

-- a range of this oid
abbrev pub range : ℕ → List RawMessage
range oid = type_row (record base { typtype = codes "r"; rngsubtype = oid_cell oid })

-- a composite of this relation
abbrev pub composite : ℕ → List RawMessage
composite relation = type_row (record base { typtype = codes "c"; typrelid = relation })

-- an enumeration
abbrev pub enumeration : List RawMessage
enumeration = type_row (record base { typtype = codes "e" })

-- a relation's column, of this name and oid
abbrev pub field : List ℕ → ℕ → List (Option (List ℕ))
field name oid = Some name ∷ oid_cell oid ∷ []

-- so many domains, each over the next oid, the last one over this oid
abbrev pub domains : ℕ → (first : ℕ) → (last : ℕ) → List (List RawMessage)
domains zero first last = []
domains (suc zero) first last = domain last ∷ []
domains (suc (suc n)) first last = domain (first + 1) ∷ domains (suc n) (first + 1) last
