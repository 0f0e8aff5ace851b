use Rattle.std.proofs.Common.{ℤ, false, subst, w32}
use Rattle.std.proofs.lemmas.Int.{to_z-of_z}
use Rattle.pg_types.specs.Values.{Writes, bytes_given, int_bytes}
use Rattle.pg_values.proofs.SentValues.{date_sent}
use Rattle.pg_values.proofs.scalars_written.write_days.Goals as goal

pub returns : goal.returns
returns c =
    date_sent c.args.days c.ranges.days c.args.out.now.items c.to_sql.new.out.items c.to_sql.result c.sent.result
    (subst (λ (z : ℤ). Writes false (bytes_given (int_bytes w32 z)) c.args.out.now.items c.to_sql.new.out.items c.to_sql.result) (to_z-of_z w32 c.args.days c.ranges.days) c.to_sql.ensures)
    c.sent.ensures
