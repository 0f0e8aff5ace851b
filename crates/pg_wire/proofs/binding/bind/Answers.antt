use Rattle.std.proofs.Common.{Result, ap, sym, subst, ◌∙◌}
use Rattle.pg_spec.specs.Frames.{bind_frame}
use Rattle.pg_wire.specs.Writes.{Writes}
use Rattle.pg_types.specs.declared.faults.FrameFault.{FrameFault}
use Rattle.pg_wire.proofs.HandedOn.{handed-on}
use Rattle.std.specs.Int.{w16}
use Rattle.std.proofs.lemmas.Int.{to_z-of_z}
use Rattle.pg_wire.specs.Items.{format_item}
use Rattle.pg_wire.proofs.Written.{bind_refused, bind_written}
use Rattle.pg_wire.proofs.binding.bind.Goals as goal

pub returns-in_err-begin : goal.returns-in_err-begin
returns-in_err-begin c given spelled =
    subst (λ (r : Result (Unit {0}) FrameFault).
    Writes (bind_frame c.args.portal.now c.args.statement.now c.args.formats.now given c.args.result_format) c.args.out.now.items c.begin.new.out.items r)
    (sym (handed-on c.from_residual.result c.in_err-begin.field-0.0 c.from_residual.ensures.1))
    (bind_refused _ _ _ _ _ _ _ c.args.result_format _ _ _ _ _ _ c.as_bytes-portal.ensures.value c.as_bytes-statement.ensures.value c.if-has_zero.ensures c.if-has_zero-2.ensures
    c.if-formats-gt-MAX_COUNT.false c.if-count-gt-MAX_COUNT.false c.saturating_add.ensures c.saturating_add-2.ensures
    c.saturating_add-len.ensures c.in_err-begin.ensures given spelled)

pub returns : goal.returns
returns c =
    bind_written _ _ _ _ _ _ _ c.args.result_format _ _ _ _ _ _ _ _ _ _ _ _ _ _ _ c.as_bytes-portal.ensures.value c.as_bytes-statement.ensures.value
    c.if-has_zero.ensures c.if-has_zero-2.ensures c.if-formats-gt-MAX_COUNT.false c.if-count-gt-MAX_COUNT.false
    c.saturating_add.ensures c.saturating_add-2.ensures c.saturating_add-len.ensures c.in_ok-begin.ensures
    c.put_text.ensures.items c.put_text-2.ensures.items c.put_u16.ensures.items c.put_formats.ensures.items c.put_u16-2.ensures.items
    c.extend_reserved.ensures.items c.put_u16-3.ensures.items c.extend_reserved-2.ensures.items
    (c.to_be_bytes.ensures ∙ ap format_item (to_z-of_z w16 c.args.result_format c.ranges.result_format))
