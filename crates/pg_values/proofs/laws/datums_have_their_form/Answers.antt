use Rattle.pg_values.proofs.TraitLaws.{gives_so}
use Rattle.pg_values.proofs.laws.datums_have_their_form.Goals as goal

pub returns : goal.returns
returns c = gives_so c.args.value.now c.args.ty.now
