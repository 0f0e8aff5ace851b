-- The reply to a simple query, whose parts are collected.
use Rattle.std.specs.Prelude.{◌≡◌, List, [], ◌∷◌, ◌++◌, Option, Some, None, Result, Ok, Err}
use Rattle.pg_spec.specs.RawMessages.{RawMessage}
use Rattle.pg_types.specs.declared.error.Error.{Error}
use Rattle.pg_streams.specs.SimpleStreams.{parts_from}
use Rattle.pg_streams.specs.Telling.{told_behind}
use Rattle.pg_streams.specs.declared.giving.Told.{Told}
use Rattle.pg_streams.specs.declared.giving.Told.TheVariants.{Item, Ends, Fails}
use Rattle.pg_streams.specs.declared.parts_reading.PartsReading.{PartsReading}
use Rattle.pg_streams.specs.declared.simple_query_message.SimpleQueryMessage.{SimpleQueryMessage}

-- what the messages from here on tell, behind the parts that came
abbrev pub reading_of_parts : PartsReading → List RawMessage → Option (Result (List SimpleQueryMessage) Error)
reading_of_parts r ms = told_behind (λ later. r.parts ++ later) (parts_from r.giving.columns ms)

-- A part stands behind those that came. The end tells all of them, and an error itself.
abbrev pub Collects : (before : List SimpleQueryMessage) → Told SimpleQueryMessage → Option (Result (List SimpleQueryMessage) Error) → (behind : List SimpleQueryMessage) → Type 0
Collects before (Item part) None behind = behind ≡ before ++ part ∷ []
Collects before Ends (Some (Ok parts)) behind = parts ≡ before
Collects before (Fails e) (Some (Err error)) behind = error ≡ e
Collects before told answer behind = ⊥
