use Rattle.std.proofs.Common.{◌≡◌}
use Rattle.pg_spec.specs.Bodies.{fields_of}
use Rattle.pg_query.proofs.Counting.{behind}
use Rattle.pg_core.proofs.description_reading.new_columns.Given as goal

-- these columns were read, and the others are left
abbrev pub invariant-loop-field : goal.invariant-loop-field
invariant-loop-field l = fields_of l.body.count l.body.fields ≡ behind l.columns (fields_of l.fields.count l.fields.bytes)

abbrev pub decreases-loop-field : goal.decreases-loop-field
decreases-loop-field l = l.fields.count
