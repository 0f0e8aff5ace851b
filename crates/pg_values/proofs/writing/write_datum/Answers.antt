use Rattle.pg_values.proofs.TraitLaws.{writes_datum}
use Rattle.pg_values.proofs.writing.write_datum.Goals as goal

pub returns-clause-form : goal.returns-clause-form
returns-clause-form c = writes_datum c.args.value.now c.args.ty.now c.args.out.now.items c.write_given.new.out.items c.write_given.result c.write_given.ensures
