use Rattle.std.proofs.Common.{Result, refl, sym, subst}
use Rattle.pg_spec.specs.Frames.{startup_frame}
use Rattle.pg_wire.specs.Writes.{Writes}
use Rattle.pg_types.specs.declared.faults.FrameFault.{FrameFault}
use Rattle.pg_wire.proofs.HandedOn.{handed-on}
use Rattle.pg_wire.proofs.Pairs.{pairs_are, startup_zero, startup_long, startup_written}
use Rattle.pg_wire.proofs.frontend.startup_message.Goals as goal

pub returns-then-any_zero : goal.returns-then-any_zero
returns-then-any_zero c =
    (startup_zero _ _ (pairs_are _ _ _ c.params.view_is c.as_slice-pairs.ensures.value) c.if-any_zero.ensures, refl)

pub returns-in_err-len : goal.returns-in_err-len
returns-in_err-len c =
    subst (λ (r : Result (Unit {0}) FrameFault). Writes (startup_frame c.args.params.now) c.args.out.now.items c.args.out.now.items r)
    (sym (handed-on c.from_residual.result c.in_err-len.field-0.0 c.from_residual.ensures.1)) (
      startup_long _ _ _ _ _ (pairs_are _ _ _ c.params.view_is c.as_slice-pairs.ensures.value) c.if-any_zero.ensures c.pairs_len.ensures
          c.saturating_add.ensures c.in_err-len.ensures.err,
      refl,
    )

pub returns : goal.returns
returns c =
    startup_written _ _ _ _ _ _ _ _ _ _ _ _ (pairs_are _ _ _ c.params.view_is c.as_slice-pairs.ensures.value) c.if-any_zero.ensures
    c.pairs_len.ensures c.saturating_add.ensures c.in_ok-len.ensures.ok c.in_ok-reserve.ensures.items c.to_be_bytes.ensures
    c.extend_reserved.ensures.items c.extend_reserved-2.ensures.items c.put_pairs.ensures.items c.extend_reserved-3.ensures.items
