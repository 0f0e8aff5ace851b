-- How a description is read.
use Rattle.std.specs.Prelude.{◌≡◌, List, Option, Some, None, Result, Ok, Err}
use Rattle.pg_spec.specs.RawMessages.{RawMessage}
use Rattle.pg_spec.specs.Readings.{Next, GoesOn, Answers}
use Rattle.pg_types.specs.declared.error.Error.{Error}
use Rattle.pg_types.specs.declared.faults.WireFault.{WireFault}
use Rattle.pg_wire.specs.Faults.{wire_fault}
use Rattle.pg_query.specs.Replies.{IsRefusedFor}
use Rattle.pg_core.specs.QueryReplies.{told_by}
use Rattle.pg_core.specs.Descriptions as spec
use Rattle.pg_core.specs.Descriptions.{Description, Seen, description_next}
use Rattle.pg_core.specs.declared.description_reading.DescriptionReading.{DescriptionReading}
use Rattle.pg_core.specs.declared.description_reading.DescriptionReading.TheVariants.{Nothing, Parsed, Params}

-- the items of a body, or why they can't be read; want of memory may come anywhere
abbrev pub ReadsAll : {A : Type 0} → Result (List A) WireFault → Result (List A) WireFault → Type 0
ReadsAll read (Ok items) = read ≡ Ok items
ReadsAll read (Err fault) = IsRefusedFor read (wire_fault fault)

-- what a message does is what was told of it, and the state behind it
abbrev pub Does : {S A : Type 0} → Next S A → Option A → S → Type 0
Does next (Some answer) new = next ≡ Answers answer
Does next None new = next ≡ GoesOn new

-- what was read
abbrev pub seen_of : DescriptionReading → Seen
seen_of Nothing = spec.Nothing
seen_of Parsed = spec.Parsed
seen_of (Params oids) = spec.Params oids

-- what it tells from here on
abbrev pub reading_of : DescriptionReading → List RawMessage → Option (Result Description Error)
reading_of r = told_by description_next (seen_of r)
