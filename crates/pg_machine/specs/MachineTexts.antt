-- The text of a machine: how its lines are spelled, what each says, and what they say together.
use Rattle.std.specs.Prelude.{◌≡◌, ◌≢◌, ℕ, ◌+◌, length, Bool, true, false, ◌&&◌, List, [], ◌∷◌, ◌++◌, Option, Some, None, is_some, Result, Ok, Err, codes, ◌==◌, if◌then◌else◌}
use Rattle.std.specs.List.{list_all, slice_get, slice_split}
use Rattle.std.specs.Option.{ok_or}
use Rattle.std.specs.Str.{byte, bytes_eq}
use Rattle.hex.specs.Hex.{decode_of}
use Rattle.pg_spec.specs.Numerals.{number_in}
use Rattle.pg_spec.specs.RawMessages.{message_at}
use Rattle.pg_machine.specs.Serving.{kind_of}
use Rattle.pg_machine.specs.declared.serving.Kind.{Kind}
use Rattle.pg_machine.specs.declared.serving.Kind.TheVariants.{Query, Sync, Flush, CopyData, CopyDone, CopyFail, Terminate, Other}
use Rattle.pg_machine.specs.Machines.{FirstBad, IsMachine, is_row, is_refusal}
use Rattle.pg_machine.specs.declared.machine.MachineRow.{MachineRow}
use Rattle.pg_machine.specs.declared.draft.MachineFile.{MachineFile}
use Rattle.pg_machine.specs.declared.fault.LineFault.{LineFault}
use Rattle.pg_machine.specs.declared.fault.LineFault.TheVariants.{FirstWord, Words, Number, Hex, Frame, Twice, Rules, NoError}
use Rattle.pg_machine.specs.declared.fault.FileFault.{FileFault}
use Rattle.pg_machine.specs.declared.fault.FileFault.TheVariants as file
use Rattle.pg_machine.specs.declared.line.Keyword.{Keyword}
use Rattle.pg_machine.specs.declared.line.Keyword.TheVariants as first
use Rattle.pg_machine.specs.declared.line.Line.{Line}
use Rattle.pg_machine.specs.declared.line.Line.TheVariants as says

infixl 10 ◌>>=◌
-- one step behind another; the first fault counts
abbrev pub ◌>>=◌ : {A B : Type 0} → Result A LineFault → (A → Result B LineFault) → Result B LineFault
(Ok x) >>= f = f x
(Err fault) >>= f = Err fault

-- ---- words

-- a number of 32 bits, in decimal digits
abbrev pub state_at : List ℕ → Result ℕ LineFault
state_at [] = Err Number
state_at (b ∷ word) = if b == byte "+" then Err Number else ok_or (number_in 32 (b ∷ word)) Number

-- bytes in hex
abbrev pub if_hex : {E : Type 0} → Result (List ℕ) E → Result (List ℕ) LineFault
if_hex (Ok bytes) = Ok bytes
if_hex (Err e) = Err Hex

-- bytes in hex, one at least
abbrev pub bytes_at : List ℕ → Result (List ℕ) LineFault
bytes_at [] = Err Hex
bytes_at (b ∷ word) = if_hex (decode_of (b ∷ word))

-- the bytes of all words, joined
abbrev pub joined_at : List (List ℕ) → Result (List ℕ) LineFault
joined_at [] = Ok []
joined_at (word ∷ words) = do
  bytes ← bytes_at word
  more ← joined_at words
  Ok (bytes ++ more)

-- a server may have an answer of its own to a frame of this kind
abbrev pub is_answered : Kind → Bool
is_answered Query = true
is_answered CopyData = true
is_answered CopyDone = true
is_answered Other = true
is_answered Sync = false
is_answered Flush = false
is_answered CopyFail = false
is_answered Terminate = false

-- one whole frame, to which a server may have an answer
abbrev pub is_row_frame : List ℕ → Bool
is_row_frame bytes = elim (message_at bytes) [ None ↦ false | Some found ↦ length found.1 == 0 && is_answered (kind_of found.0) ]

-- such a frame, in hex
unfoldable pub frame_at : List ℕ → Result (List ℕ) LineFault
frame_at word = do
  bytes ← bytes_at word
  if is_row_frame bytes then Ok bytes else Err Frame

-- ---- lines

-- a row: the state, the frame, the next state, and the words of the reply
unfoldable pub row_at : Bool → List (List ℕ) → Result Line LineFault
row_at opens (state ∷ frame ∷ next ∷ reply) = do
  state ← state_at state
  frame ← frame_at frame
  next ← state_at next
  reply ← joined_at reply
  Ok (says.Row (record { state = state; frame = frame; next = next; reply = reply; opens = opens }))
row_at opens words = Err Words

-- the line that a first word begins
abbrev pub keyword_by : List ℕ → Option Keyword
keyword_by word =
    if bytes_eq word (codes "startup") then Some first.Startup
    else if bytes_eq word (codes "refusal") then Some first.Refusal
    else if bytes_eq word (codes "row") then Some first.Row
    else if bytes_eq word (codes "opens") then Some first.Opens
    else None

-- what a line says by the words behind its first
unfoldable pub rest_at : Keyword → List (List ℕ) → Result Line LineFault
rest_at first.Startup words = do
  reply ← joined_at words
  Ok (says.Startup reply)
rest_at first.Refusal words = do
  reply ← joined_at words
  Ok (says.Refusal reply)
rest_at first.Row words = row_at false words
rest_at first.Opens words = row_at true words

-- what such a line says, where there is one
abbrev pub begun_by : Option Keyword → List (List ℕ) → Result Line LineFault
begun_by None words = Err FirstWord
begun_by (Some keyword) words = rest_at keyword words

-- what words say
abbrev pub words_at : List (List ℕ) → Result Line LineFault
words_at [] = Err FirstWord
words_at (word ∷ words) = begun_by (keyword_by word) words

-- What a line says: nothing where it is empty or begins with `#`, else what its words say, which single spaces separate.
abbrev pub line_at : List ℕ → Result Line LineFault
line_at [] = Ok says.Nothing
line_at (b ∷ line) = if b == byte "#" then Ok says.Nothing else words_at (slice_split (λ b. b == 32) (b ∷ line))

-- ---- all lines

-- What lines say together: what the startup frame is replied; the refusal, with the number of its line; the rows, and the
-- numbers of theirs.
pub record Said : Type 0 where
  pub startup : Option (List ℕ)
  pub refusal : Option (ℕ × List ℕ)
  pub rows : List MachineRow
  pub numbers : List ℕ

-- before the first line
abbrev pub nothing_said : Said
nothing_said = record { startup = None; refusal = None; rows = []; numbers = [] }

-- what is said with one more line, of this number
abbrev pub with_line : ℕ → Line → Said → Result Said LineFault
with_line n says.Nothing s = Ok s
with_line n (says.Startup reply) s = if is_some s.startup then Err Twice else Ok (record s { startup = Some reply })
with_line n (says.Refusal reply) s = if is_some s.refusal then Err Twice else Ok (record s { refusal = Some (n, reply) })
with_line n (says.Row row) s = Ok (record s { rows = s.rows ++ row ∷ []; numbers = s.numbers ++ n ∷ [] })

-- the same by the bytes of that line
abbrev pub said_after : ℕ → List ℕ → Said → Result Said LineFault
said_after n line s = do
  l ← line_at line
  with_line n l s

-- what is said with these lines, of which the first has this number, or the first line that is refused
abbrev pub said_from : ℕ → List (List ℕ) → Said → Result Said FileFault
said_from n [] s = Ok s
said_from n (line ∷ lines) s = elim (said_after n line s) [ Err fault ↦ Err (file.Line n fault) | Ok next ↦ said_from (n + 1) lines next ]

-- what a text says by its lines, which line feeds separate, counted from 1
abbrev pub said_in : List ℕ → Result Said FileFault
said_in text = said_from 1 (slice_split (λ b. b == 10) text) nothing_said

-- ---- the machine

-- What is said is a machine and its startup; or why it isn't, told by the number of a line: the first row that breaks the rules of
-- a server, then the refusal.
abbrev pub Becomes : Said → Result MachineFile FileFault → Type 0
Becomes s (Ok file) = (s.startup ≡ Some file.startup) × (file.machine.rows ≡ s.rows) × IsMachine file.machine
    × (n : ℕ) × (s.refusal ≡ Some (n, file.machine.refusal))
Becomes s (Err file.NoStartup) = s.startup ≡ None
Becomes s (Err file.NoRefusal) = (s.startup ≢ None) × (s.refusal ≡ None)
Becomes s (Err (file.Line n Rules)) = (s.startup ≢ None) × (s.refusal ≢ None) × (i : ℕ) × FirstBad s.rows (Some i) × (slice_get s.numbers i ≡ Some n)
Becomes s (Err (file.Line n NoError)) = (s.startup ≢ None) × (list_all is_row s.rows ≡ true)
    × (refusal : List ℕ) × (s.refusal ≡ Some (n, refusal)) × (is_refusal refusal ≡ false)
Becomes s (Err file.OutOfMemory) = Unit {0}
Becomes s other = ⊥

-- a text is refused so, unless memory lacks
abbrev pub Refuses : FileFault → Result MachineFile FileFault → Type 0
Refuses fault (Err file.OutOfMemory) = Unit {0}
Refuses fault result = result ≡ Err fault

-- what is answered where this is said, or a line is refused
abbrev pub Answers : Result Said FileFault → Result MachineFile FileFault → Type 0
Answers (Ok s) result = Becomes s result
Answers (Err fault) result = Refuses fault result

-- what reading a text answers
abbrev pub ReadsMachine : List ℕ → Result MachineFile FileFault → Type 0
ReadsMachine text result = Answers (said_in text) result
