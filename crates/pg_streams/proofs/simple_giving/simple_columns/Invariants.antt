use Rattle.std.proofs.Common.{◌≡◌, List}
use Rattle.pg_spec.specs.Bodies.{Field, fields_of}
use Rattle.pg_query.proofs.Counting.{behind}
use Rattle.pg_streams.specs.SimpleStreams.{named}
use Rattle.pg_streams.proofs.simple_giving.simple_columns.Given as goal

-- these columns were read, and the others are left
abbrev pub invariant-loop-field : goal.invariant-loop-field
invariant-loop-field l =
    (done : List Field) × (l.columns ≡ named done) × (fields_of l.body.count l.body.fields ≡ behind done (fields_of l.fields.count l.fields.bytes))

abbrev pub decreases-loop-field : goal.decreases-loop-field
decreases-loop-field l = l.fields.count
