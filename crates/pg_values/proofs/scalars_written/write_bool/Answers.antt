use Rattle.pg_values.proofs.SentValues.{bool_sent}
use Rattle.pg_values.proofs.scalars_written.write_bool.Goals as goal

pub returns : goal.returns
returns c = bool_sent c.args.b c.args.ty.now.oid c.args.out.now.items c.to_sql.new.out.items c.to_sql.result c.sent.result c.to_sql.ensures c.sent.ensures
