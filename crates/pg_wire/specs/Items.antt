-- Items that stand one behind another in a frame (PostgreSQL documentation, "Message Formats", under
-- Parse and Bind).
use Rattle.std.specs.Prelude.{◌≡◌, ℕ, ℤ, List, length, flat_map, Option}
use Rattle.std.specs.Int.{w16, w32, to_be_bytes, cast_unsigned}
use Rattle.pg_spec.specs.Frames.{value_bytes}

-- type oids
abbrev pub oid_bytes : List ℕ → List ℕ
oid_bytes oids = flat_map (to_be_bytes w32) oids

-- the format of a parameter
abbrev pub format_item : ℤ → List ℕ
format_item format = to_be_bytes w16 (cast_unsigned w16 format)

-- formats of parameters
abbrev pub format_bytes : List ℤ → List ℕ
format_bytes formats = flat_map format_item formats

-- the bytes spell these values, as many as are counted: each a length and so many bytes, or -1 for null
pub record SpellValues (count : ℕ) (bytes : List ℕ) (values : List (Option (List ℕ))) : Type 0 where
  pub counted : length values ≡ count
  pub spelled : flat_map value_bytes values ≡ bytes
