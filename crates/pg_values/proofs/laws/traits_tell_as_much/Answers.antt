use Rattle.pg_values.proofs.TraitLaws.{checked_writes, reads_datum, reads_one, writes_datum}
use Rattle.pg_values.proofs.laws.traits_tell_as_much.Goals as goal

pub returns-clause-written : goal.returns-clause-written
returns-clause-written c = λ old new r. writes_datum c.args.value.now c.args.ty.now old new r

pub returns-clause-checked : goal.returns-clause-checked
returns-clause-checked c = λ old new r. checked_writes c.args.value.now c.args.ty.now old new r

pub returns-clause-read : goal.returns-clause-read
returns-clause-read c =
    λ raw r supported. (reads_datum c.args.ty.now raw r supported, reads_one c.args.ty.now raw r)
