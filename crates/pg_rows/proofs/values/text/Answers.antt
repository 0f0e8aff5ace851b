use Rattle.std.proofs.lemmas.Str.{is_utf8-from_IsUtf8}
use Rattle.pg_types.proofs.Utf8.{not_utf8}
use Rattle.pg_rows.proofs.Got.{text-read, text-invalid}
use Rattle.pg_rows.proofs.values.text.Goals as goal

pub returns-in-Ok : goal.returns-in-Ok
returns-in-Ok c = text-read c.args.raw c.in-Some.bytes c.in-Ok.text c.in-Some.is (is_utf8-from_IsUtf8 _ c.in-Ok.ensures.cases.1) c.in-Ok.ensures.cases.0

pub returns-in-Err : goal.returns-in-Err
returns-in-Err c = text-invalid c.args.raw c.in-Some.bytes c.in-Some.is (not_utf8 _ c.in-Err.ensures.cases.0)
