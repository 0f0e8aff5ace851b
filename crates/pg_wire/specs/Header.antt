-- The front of a backend message: a tag byte, and a signed big-endian length that counts its own four
-- bytes and the body (PostgreSQL documentation, "Message Formats").
use Rattle.std.specs.Prelude.{◌≡◌, ◌≤◌, ◌<ℤ◌, ℕ, ℤ, pos, List, length, take, drop, slice_index}
use Rattle.std.specs.Int.{w32, from_be_bytes, cast_signed}
use Rattle.pg_wire.specs.declared.header.Header.{Header}

-- the tag of a header
abbrev pub tag_of : Header → ℕ
tag_of h = h.tag

-- the length of a header
abbrev pub len_of : Header → ℤ
len_of h = h.len

-- the number in the four bytes after the tag
abbrev pub length_field : List ℕ → ℤ
length_field buf = cast_signed w32 (from_be_bytes w32 (take 4 (drop 1 buf)))

-- the header is the one that the first five bytes spell
pub record StandsAtFront (buf : List ℕ) (h : Header) : Type 0 where
  pub tag : tag_of h ≡ slice_index buf 0
  pub len : len_of h ≡ length_field buf

-- the length doesn't even count itself
abbrev pub HasBadLength : List ℕ → Type 0
HasBadLength buf = (5 ≤ length buf) × (length_field buf <ℤ pos 4)
