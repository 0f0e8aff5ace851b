-- What the reading of a typed execute tells from here on.
use Rattle.std.specs.Prelude.{ℕ, List, Option, Result}
use Rattle.pg_spec.specs.RawMessages.{RawMessage}
use Rattle.pg_types.specs.declared.error.Error.{Error}
use Rattle.pg_core.specs.QueryReplies.{told_by}
use Rattle.pg_execute.specs.Typed.{typed_count_next}
use Rattle.pg_execute.specs.declared.typed_count_reading.TypedCountReading.{TypedCountReading}

-- what is told
abbrev pub reading_of_count : TypedCountReading → List RawMessage → Option (Result ℕ Error)
reading_of_count r = told_by typed_count_next r.count
