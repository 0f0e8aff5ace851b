use Rattle.std.proofs.Common.{ℤ, false, subst, w64}
use Rattle.std.proofs.lemmas.Int.{to_z-of_z}
use Rattle.pg_types.specs.Values.{Writes, bytes_given, int_bytes}
use Rattle.pg_values.proofs.SentValues.{timestamp_sent}
use Rattle.pg_values.proofs.scalars_written.write_microseconds.Goals as goal

pub returns : goal.returns
returns c =
    timestamp_sent c.args.microseconds c.ranges.microseconds c.args.out.now.items c.to_sql.new.out.items c.to_sql.result c.sent.result
    (subst (λ (z : ℤ). Writes false (bytes_given (int_bytes w64 z)) c.args.out.now.items c.to_sql.new.out.items c.to_sql.result) (to_z-of_z w64 c.args.microseconds c.ranges.microseconds) c.to_sql.ensures)
    c.sent.ensures
