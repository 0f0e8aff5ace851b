use Rattle.std.proofs.Common.{◌≡◌, length, is_some}
use Rattle.pg_spec.specs.DbErrors.{error_fields}
use Rattle.pg_errors.proofs.error_fields.are_laid_out.Given as goal

-- what is left is laid out where all of it is
abbrev pub invariant-loop : goal.invariant-loop
invariant-loop l = is_some (error_fields l.body.fields) ≡ is_some (error_fields l.fields)

abbrev pub decreases-loop : goal.decreases-loop
decreases-loop l = length l.fields
