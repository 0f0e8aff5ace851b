-- The text of a machine, as it is written.
use Rattle.std.specs.Prelude.{◌≡◌, ℕ, ◌+◌, ◌^◌, ◌<◌, true, List, [], ◌∷◌, map, codes, decimal, Some, if◌then◌else◌}
use Rattle.std.specs.List.{join_with_byte}
use Rattle.hex.specs.Hex.{IsBytes, encode_lower}
use Rattle.pg_machine.specs.declared.machine.MachineRow.{MachineRow}
use Rattle.pg_machine.specs.MachineTexts.{Said, is_row_frame}

-- bytes as words: none, or one
abbrev pub hex_words : List ℕ → List (List ℕ)
hex_words [] = []
hex_words (b ∷ bytes) = encode_lower (b ∷ bytes) ∷ []

-- the words of a row behind the first
abbrev pub row_words : MachineRow → List (List ℕ)
row_words row = decimal row.state ∷ encode_lower row.frame ∷ decimal row.next ∷ hex_words row.reply

-- words as a line
abbrev pub line_of : List ℕ → List (List ℕ) → List ℕ
line_of word words = join_with_byte 32 (word ∷ words)

-- a row as a line
abbrev pub row_line : MachineRow → List ℕ
row_line row = line_of (if row.opens then codes "opens" else codes "row") (row_words row)

-- the text of a startup, a refusal and rows
abbrev pub text_of : (startup refusal : List ℕ) → List MachineRow → List ℕ
text_of startup refusal rows =
    join_with_byte 10 (line_of (codes "startup") (hex_words startup) ∷ line_of (codes "refusal") (hex_words refusal) ∷ map row_line rows)

-- a row that can be written: its numbers are of 32 bits, and its frame may be answered
pub record IsWritten (row : MachineRow) : Type 0 where
  pub state : row.state < 2 ^ 32
  pub next : row.next < 2 ^ 32
  pub frame : IsBytes row.frame
  pub reply : IsBytes row.reply
  pub answered : is_row_frame row.frame ≡ true

-- the numbers of as many lines as there are rows
abbrev pub numbers_from : ℕ → List MachineRow → List ℕ
numbers_from n [] = []
numbers_from n (row ∷ rows) = n ∷ numbers_from (n + 1) rows

-- what such a text says
abbrev pub written : (startup refusal : List ℕ) → List MachineRow → Said
written startup refusal rows = record { startup = Some startup; refusal = Some (2, refusal); rows = rows; numbers = numbers_from 3 rows }
