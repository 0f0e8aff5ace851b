-- The line that a program says on standard error: its name, the file's, in it the line, and what is wrong.
use Rattle.std.specs.Prelude.{◌≡◌, ℕ, List, ◌++◌, length, Option, Some, None, codes, decimal, EachIndex, IsTrue, slice_index}
use Rattle.std.specs.Char.{is_ascii_alphanumeric}
use Rattle.pg_types.specs.Getters.{cause_in}
use Rattle.pg_types.specs.declared.cause.Cause.{Cause}
use Rattle.pg_diagnostics.specs.Words.{cause_words, error_words}
use Rattle.pg_diagnostics.specs.declared.reason.Reason.{Reason}
use Rattle.pg_diagnostics.specs.declared.reason.Reason.TheVariants as reason

-- what is written where a line of a text is refused
abbrev pub refusal : ℕ → List ℕ
refusal n = codes "refused " ++ decimal n ++ codes "\n"

-- five letters and digits (PostgreSQL documentation, "PostgreSQL Error Codes")
abbrev pub IsCode : List ℕ → Type 0
IsCode code = (length code ≡ 5) × EachIndex code (λ k. IsTrue (is_ascii_alphanumeric (slice_index code k)))

-- what is wrong with a file
abbrev pub says : (program file words : List ℕ) → List ℕ
says program file words = program ++ codes ": " ++ file ++ codes ": " ++ words

-- what a session answered: the kind of its error, and the cause where it has one
abbrev pub session_message : (program file words : List ℕ) → Option Cause → List ℕ
session_message program file words (Some cause) = says program file (words ++ codes ": " ++ cause_words cause)
session_message program file words None = says program file words

-- the line, without its line feed
abbrev pub message : (program file : List ℕ) → Reason → List ℕ
message program file (reason.Session error) = session_message program file (error_words error.now) (cause_in error.now)
message program file (reason.Line n) = program ++ (codes ": " ++ (file ++ (codes ":" ++ (decimal n ++ codes ": the line is refused"))))
message program file reason.TooLong = says program file (codes "the text is longer than 67108864 bytes")
message program file reason.Unread = says program file (codes "can't be read")
message program file reason.Unwritten = says program file (codes "can't be written")
message program file reason.OutOfMemory = program ++ codes ": out of memory"
