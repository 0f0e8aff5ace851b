-- The reply to an execute of which only its count is told (PostgreSQL documentation, "Extended Query"): BindComplete, then rows, which aren't
-- read, and the ends of commands in any order, up to ReadyForQuery.
use Rattle.std.specs.Prelude.{ℕ, List, Bool, true, false, Option, Result, Ok, Err, if◌then◌else◌}
use Rattle.std.specs.Str.{is_utf8}
use Rattle.pg_spec.specs.Faults.{Parse, Wire, NotText, UnexpectedMessage}
use Rattle.pg_spec.specs.Messages as message
use Rattle.pg_spec.specs.Messages.{message_of}
use Rattle.pg_spec.specs.RawMessages.{RawMessage}
use Rattle.pg_spec.specs.Readings.{Next, GoesOn, Answers}
use Rattle.pg_spec.specs.SimpleQuery.{affected, server_error}
use Rattle.pg_types.specs.declared.error.Error.{Error}
use Rattle.pg_core.specs.QueryReplies.{told_by}

-- What was read so far.
pub record Counted : Type 0 where
  -- BindComplete came
  pub bound : Bool
  -- how many rows the last command affected, 0 where it was empty or none ended
  pub count : ℕ

-- behind the end of a command
abbrev pub counts : ℕ → Next Counted (Result ℕ Error)
counts n = GoesOn (record { bound = true; count = n })

-- what a message does, before BindComplete and behind it
abbrev pub count_by : (bound : Bool) → (count : ℕ) → message.Message → Next Counted (Result ℕ Error)
count_by bound n (message.ErrorResponse fields) = Answers (Err (server_error fields))
count_by false n message.BindComplete = counts n
count_by true n (message.DataRow count cells) = counts n
count_by true n (message.CommandComplete tag) = if is_utf8 tag then counts (affected tag) else Answers (Err (Parse NotText))
count_by true n message.EmptyQueryResponse = counts 0
count_by true n (message.ReadyForQuery status) = Answers (Ok n)
count_by bound n other = Answers (Err UnexpectedMessage)

-- the same of a message that may be malformed
abbrev pub count_next : Counted → RawMessage → Next Counted (Result ℕ Error)
count_next c raw = elim (message_of raw) [
  | Ok m ↦ count_by c.bound c.count m
  | Err fault ↦ Answers (Err (Parse (Wire fault)))
]

-- the reply
abbrev pub count_read : Counted → List RawMessage → Option (Result ℕ Error)
count_read = told_by count_next

-- nothing was read
abbrev pub nothing_counted : Counted
nothing_counted = record { bound = false; count = 0 }
