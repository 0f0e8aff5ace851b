use Rattle.std.proofs.Common.{sym, ◌∙◌}
use Rattle.pg_values.proofs.DatumWritten.{wrong_written, null_written, ok_written, err_written}
use Rattle.pg_values.proofs.writing.write_given.Goals as goal

pub returns-then-not-is_supported : goal.returns-then-not-is_supported
returns-then-not-is_supported c = wrong_written c.args.ty.now c.args.value.now c.args.out.now.items c.oid.result c.oid.ensures (sym c.is_supported.ensures ∙ c.if-not-is_supported.true)

pub returns-then-is_null : goal.returns-then-is_null
returns-then-is_null c =
    null_written c.args.ty.now c.args.value.now c.args.out.now.items (sym c.is_supported.ensures ∙ c.if-not-is_supported.false) (c.is_null.ensures.0 c.if-is_null.true)

pub returns-in-Ok : goal.returns-in-Ok
returns-in-Ok c =
    ok_written c.args.ty.now c.args.value.now c.args.out.now.items c.write_bytes.new.out.items c.write_bytes.result _ c.in-Ok.is (sym c.is_supported.ensures ∙ c.if-not-is_supported.false)
    (λ e. absurd (cc (c.is_null.ensures.1 e, c.if-is_null.false))) c.write_bytes.ensures

pub returns-in-Err : goal.returns-in-Err
returns-in-Err c =
    err_written c.args.ty.now c.args.value.now c.args.out.now.items c.write_bytes.new.out.items c.truncate.new.self.items c.len-len.result c.write_bytes.result c.in-Err.fault c.in-Err.is
    c.len-len.ensures.value c.truncate.ensures.items (sym c.is_supported.ensures ∙ c.if-not-is_supported.false) (λ e. absurd (cc (c.is_null.ensures.1 e, c.if-is_null.false))) c.write_bytes.ensures
