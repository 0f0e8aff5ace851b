use Rattle.std.proofs.lemmas.Str.{is_utf8-from_IsUtf8}
use Rattle.pg_values.proofs.SentValues.{text_sent}
use Rattle.pg_values.proofs.scalars_written.write_text.Goals as goal

pub returns : goal.returns
returns c =
    text_sent c.args.text.now (is_utf8-from_IsUtf8 _ c.utf8.text) c.args.ty.now.oid c.args.out.now.items c.to_sql_checked.new.out.items c.to_sql_checked.result c.sent.result
    c.to_sql_checked.ensures c.sent.ensures
