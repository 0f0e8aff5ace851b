-- What the reading of a count tells from here on.
use Rattle.std.specs.Prelude.{ℕ, List, Option, Result}
use Rattle.pg_spec.specs.RawMessages.{RawMessage}
use Rattle.pg_types.specs.declared.error.Error.{Error}
use Rattle.pg_execute.specs.Counts.{Counted, count_read}
use Rattle.pg_execute.specs.declared.count_reading.CountReading.{CountReading}

-- what was read so far
abbrev pub counted_of : CountReading → Counted
counted_of r = record { bound = r.bound; count = r.count }

-- what is told
abbrev pub reading_of_count : CountReading → List RawMessage → Option (Result ℕ Error)
reading_of_count r = count_read (counted_of r)
