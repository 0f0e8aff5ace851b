use Rattle.pg_values.proofs.SentValues.{bytea_sent}
use Rattle.pg_values.proofs.scalars_written.write_bytea.Goals as goal

pub returns : goal.returns
returns c =
    bytea_sent c.args.bytes.now c.args.ty.now.oid c.args.out.now.items c.to_sql_checked.new.out.items c.to_sql_checked.result c.sent.result
    c.to_sql_checked.ensures c.sent.ensures
