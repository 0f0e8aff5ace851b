use Rattle.pg_values.proofs.TraitLaws.{null_gives, reads_back}
use Rattle.pg_values.proofs.laws.datums_read_back.Goals as goal

pub returns-clause-null_given : goal.returns-clause-null_given
returns-clause-null_given c = λ supported. null_gives c.args.ty.now supported

pub returns-clause-value : goal.returns-clause-value
returns-clause-value c = λ bytes e. reads_back c.args.value.now c.args.ty.now bytes e
