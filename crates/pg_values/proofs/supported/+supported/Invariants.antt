use Rattle.std.proofs.Common.{◌≡◌, drop}
use Rattle.pg_values.specs.Supported.{are_supported}
use Rattle.pg_types.proofs.KindLaws.{row_of}
use Rattle.pg_values.proofs.supported.+supported.Given as goal

abbrev pub invariant-are_supported-loop-field : goal.invariant-are_supported-loop-field
invariant-are_supported-loop-field l = are_supported (row_of (drop l.field-index l.fields)) ≡ are_supported (row_of l.fields)
