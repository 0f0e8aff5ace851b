use Rattle.std.proofs.Common.{ℤ, false, subst, w64}
use Rattle.std.proofs.lemmas.Int.{to_z-of_z}
use Rattle.pg_types.specs.AnyValues.{number_given}
use Rattle.pg_types.specs.Values.{Writes}
use Rattle.pg_values.proofs.SentValues.{int_sent}
use Rattle.pg_values.proofs.scalars_written.write_int.Goals as goal

pub returns : goal.returns
returns c =
    int_sent c.args.n c.args.ty.now.oid c.args.out.now.items c.to_sql.new.out.items c.to_sql.result c.sent.result
    (subst (λ (z : ℤ). Writes false (number_given z c.args.ty.now.oid) c.args.out.now.items c.to_sql.new.out.items c.to_sql.result) (to_z-of_z w64 c.args.n c.ranges.n) c.to_sql.ensures)
    c.sent.ensures
