use Rattle.std.proofs.Common.{sym}
use Rattle.pg_scram.proofs.FieldLaws.{one_field, first_field}
use Rattle.pg_scram.proofs.fields.cut_at_comma.Goals as goal

pub returns-in-None : goal.returns-in-None
returns-in-None c = one_field c.args.text.now (sym c.in-None.ensures)

pub returns-in-Some : goal.returns-in-Some
returns-in-Some c = first_field c.args.text.now c.in-Some.at (sym c.in-Some.ensures)
