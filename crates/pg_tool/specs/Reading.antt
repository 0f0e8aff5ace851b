-- What reading a source to its end answers.
use Rattle.std.specs.Prelude.{◌≡◌, ℕ, ◌<◌, ◌≤◌, List, length, IfSome, Result, Ok, Err}
use Rattle.pg_spec.specs.Links.{Rose}
use Rattle.pg_wire.specs.Streams.{SourceView}
use Rattle.pg_tool.specs.declared.reading.ReadFault.{ReadFault}
use Rattle.pg_tool.specs.declared.reading.ReadFault.TheVariants as fault

-- the longest text, in bytes: 64 MiB
abbrev pub longest_text : ℕ
longest_text = 67108864

-- all bytes of the source were read, where it tells them, and they aren't too many
pub record ReadWhole (old : SourceView) (text : List ℕ) : Type 0 where
  pub all : IfSome old.left (λ left. left ≡ text)
  pub within : length text ≤ longest_text

-- the bytes, or why they can't be had
abbrev pub ReadsAll : SourceView → SourceView → Result (List ℕ) ReadFault → Type 0
ReadsAll old new (Ok text) = ReadWhole old text
ReadsAll old new (Err fault.Failed) = Rose old.faults new.faults
ReadsAll old new (Err fault.TooLong) = IfSome old.left (λ left. longest_text < length left)
ReadsAll old new (Err fault.OutOfMemory) = Unit {0}
