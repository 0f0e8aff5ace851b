use Rattle.pg_values.proofs.TraitLaws.{writes_checked}
use Rattle.pg_values.proofs.datum_to_sql.DatumToSql.to_sql_checked.Goals as goal

pub returns : goal.returns
returns c = writes_checked c.args.self.now c.args.ty.now c.args.out.now.items c.write_datum.new.out.items c.write_datum.result c.write_datum.ensures.gives
