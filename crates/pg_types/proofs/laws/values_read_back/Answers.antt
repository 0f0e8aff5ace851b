use Rattle.std.proofs.lemmas.Str.{is_utf8-from_IsUtf8}
use Rattle.pg_types.proofs.RoundTrips.{only, number_in, text_in}
use Rattle.pg_types.specs.declared.value.Value.TheVariants as value
use Rattle.pg_types.proofs.laws.values_read_back.Goals as goal

pub returns-clause-number : goal.returns-clause-number
returns-clause-number c bytes e = only c.args.ty.now.oid bytes (value.Int c.args.number) (number_in c.args.number bytes c.args.ty.now.oid e)

pub returns-clause-text : goal.returns-clause-text
returns-clause-text c bytes e = only c.args.ty.now.oid bytes (value.Text c.args.text.now) (text_in c.args.text.now (is_utf8-from_IsUtf8 _ c.utf8.text) bytes c.args.ty.now.oid e)
