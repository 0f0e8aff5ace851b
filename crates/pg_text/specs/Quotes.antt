-- Texts in quotes, read byte by byte.
use Rattle.std.specs.Prelude.{◌≡◌, ◌<◌, ◌≤◌, ◌+◌, ◌*◌, ◌||◌, ℕ, List, [], ◌∷◌, ◌++◌, length, drop, Option, Some, None, if◌then◌else◌, ◌==◌, nat_lt}
use Rattle.std.specs.Char.{digit_value}
use Rattle.std.specs.Str.{byte}
use Rattle.pg_text.specs.declared.quoted.Inside.{Inside}
use Rattle.pg_text.specs.declared.quoted.Inside.TheVariants.{Plain, Escape, High, Low}
use Rattle.pg_text.specs.declared.quoted.Quoted.{Quoted}
use Rattle.pg_text.specs.declared.quoted.Next.{Next}
use Rattle.pg_text.specs.declared.quoted.Next.TheVariants.{Byte, Goes, End, Broken}

-- the value of a hex digit of either case
abbrev pub hex_value : ℕ → Option ℕ
hex_value digit = if nat_lt (digit_value digit) 16 then Some (digit_value digit) else None

-- a hex digit, and then this
abbrev pub with_digit : (ℕ → Next) → Option ℕ → Next
with_digit next None = Broken
with_digit next (Some value) = next value

-- what a byte means where the reader stands
abbrev pub next_of : Inside → ℕ → Next
next_of Plain b = if b == byte "\"" then End else if b == byte "\\" then Goes Escape else if b == 10 then Broken else Byte b
next_of Escape b = if b == byte "\"" || b == byte "\\" then Byte b else if b == byte "x" then Goes High else Broken
next_of High b = with_digit (λ value. Goes (Low value)) (hex_value b)
next_of (Low high) b = with_digit (λ value. Byte (16 * high + value)) (hex_value b)

-- bytes in front of those of a text
abbrev pub in_front : List ℕ → Option (List ℕ × List ℕ) → Option (List ℕ × List ℕ)
in_front bytes None = None
in_front bytes (Some read) = Some (bytes ++ read.0, read.1)

-- the text up to the closing quote and what stands behind it
abbrev pub inside_at : Inside → List ℕ → Option (List ℕ × List ℕ)
inside_at state [] = None
inside_at state (b ∷ rest) = elim (next_of state b) [
  | Byte value ↦ in_front (value ∷ []) (inside_at Plain rest)
  | Goes on ↦ inside_at on rest
  | End ↦ Some ([], rest)
  | Broken ↦ None
]

-- the text in quotes that stands in front, and what stands behind it
abbrev pub quoted_at : List ℕ → Option (List ℕ × List ℕ)
quoted_at [] = None
quoted_at (b ∷ rest) = if b == byte "\"" then inside_at Plain rest else None

-- behind the first of two hex digits its value is known
abbrev pub IsWithin : Inside → Type 0
IsWithin (Low high) = high < 16
IsWithin other = Unit {0}

-- and what it becomes is known too
abbrev pub StaysWithin : Next → Type 0
StaysWithin (Goes on) = IsWithin on
StaysWithin other = Unit {0}

-- a text of which so many bytes were used, or none where there is none
abbrev pub Reads : Option (List ℕ × List ℕ) → List ℕ → Option Quoted → Type 0
Reads read s None = read ≡ None
Reads read s (Some quoted) = (read ≡ Some (quoted.bytes.items, drop quoted.used s)) × (quoted.used ≤ length s)

-- the text up to the closing quote
abbrev pub ReadsInside : List ℕ → Option Quoted → Type 0
ReadsInside s found = Reads (inside_at Plain s) s found

-- the text in quotes at the front
abbrev pub ReadsQuoted : List ℕ → Option Quoted → Type 0
ReadsQuoted s found = Reads (quoted_at s) s found
