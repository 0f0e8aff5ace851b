use Rattle.std.proofs.Common.{◌≡◌, take}
use Rattle.pg_types.proofs.pg_type.+copy.Given as goal

abbrev pub invariant-copy_fields-loop-field : goal.invariant-copy_fields-loop-field
invariant-copy_fields-loop-field l = l.copies ≡ take l.field-index l.fields
