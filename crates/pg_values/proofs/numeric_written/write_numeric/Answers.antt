use Rattle.pg_values.proofs.NumericSent.{numeric_sent}
use Rattle.pg_values.proofs.numeric_written.write_numeric.Goals as goal

pub returns : goal.returns
returns c = numeric_sent c.args.value.now c.args.out.now.items c.write_form.new.out.items c.write_form.result c.write_form.ensures
