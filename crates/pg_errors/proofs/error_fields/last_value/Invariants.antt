use Rattle.std.proofs.Common.{◌≡◌, length, option_map}
use Rattle.std.specs.List.{last_or}
use Rattle.pg_errors.specs.Fields.{fields_in, values_of, value_of}
use Rattle.pg_errors.proofs.error_fields.last_value.Given as goal

-- the last among those that are left, or else the last so far
abbrev pub invariant-loop-field : goal.invariant-loop-field
invariant-loop-field l = last_or (option_map (λ value. value.now) l.last) (values_of l.kind (fields_in l.fields)) ≡ value_of l.kind (fields_in l.body.fields)

abbrev pub decreases-loop-field : goal.decreases-loop-field
decreases-loop-field l = length l.fields
