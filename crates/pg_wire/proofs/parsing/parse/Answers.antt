use Rattle.std.proofs.Common.{Result, sym, subst}
use Rattle.pg_spec.specs.Frames.{parse_frame}
use Rattle.pg_wire.specs.Writes.{Writes}
use Rattle.pg_types.specs.declared.faults.FrameFault.{FrameFault}
use Rattle.pg_wire.proofs.HandedOn.{handed-on}
use Rattle.pg_wire.proofs.Written.{parse_refused, parse_written}
use Rattle.pg_wire.proofs.parsing.parse.Goals as goal

pub returns-in_err-begin : goal.returns-in_err-begin
returns-in_err-begin c =
    subst (λ (r : Result (Unit {0}) FrameFault). Writes (parse_frame c.args.name.now c.args.text.now c.args.oids.now) c.args.out.now.items c.begin.new.out.items r)
    (sym (handed-on c.from_residual.result c.in_err-begin.field-0.0 c.from_residual.ensures.1))
    (parse_refused _ _ _ _ _ _ _ _ _ _ c.as_bytes-name.ensures.value c.as_bytes-text.ensures.value c.if-has_zero.ensures c.if-has_zero-2.ensures
    c.if-oids-gt-MAX_COUNT.false c.saturating_add.ensures c.saturating_add-len.ensures c.in_err-begin.ensures)

pub returns : goal.returns
returns c =
    parse_written _ _ _ _ _ _ _ _ _ _ _ _ _ _ c.as_bytes-name.ensures.value c.as_bytes-text.ensures.value c.if-has_zero.ensures c.if-has_zero-2.ensures
    c.if-oids-gt-MAX_COUNT.false c.saturating_add.ensures c.saturating_add-len.ensures c.in_ok-begin.ensures
    c.put_text.ensures.items c.put_text-2.ensures.items c.put_u16.ensures.items c.put_oids.ensures.items
