use Rattle.std.proofs.Common.{◌≡◌, length}
use Rattle.pg_spec.specs.DbErrors.{are_numbers}
use Rattle.pg_errors.specs.Fields.{fields_in}
use Rattle.pg_errors.proofs.error_fields.are_numbers.Given as goal

-- all are where those are that are left
abbrev pub invariant-loop-field : goal.invariant-loop-field
invariant-loop-field l = are_numbers l.kind (fields_in l.body.fields) ≡ are_numbers l.kind (fields_in l.fields)

abbrev pub decreases-loop-field : goal.decreases-loop-field
decreases-loop-field l = length l.fields
