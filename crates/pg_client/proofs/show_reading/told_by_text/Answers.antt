use Rattle.std.proofs.lemmas.Str.{is_utf8-from_IsUtf8}
use Rattle.pg_wire.proofs.ZeroEnded.{not_utf8}
use Rattle.pg_client.proofs.Texts.{no-text-told, text-told}
use Rattle.pg_client.proofs.show_reading.told_by_text.Goals as goal

pub returns-in-Ok : goal.returns-in-Ok
returns-in-Ok c =
    text-told c.told_by_value.result c.args.attrs c.args.bytes.now c.in-Ok.value.now c.in-Ok.ensures.cases.0 (is_utf8-from_IsUtf8 _ c.in-Ok.ensures.cases.1) c.told_by_value.ensures

pub returns-in-Err : goal.returns-in-Err
returns-in-Err c = no-text-told c.args.attrs c.args.bytes.now (not_utf8 _ c.in-Err.ensures.cases.0)
