use Rattle.std.proofs.Common.{Result, Option, sym, subst}
use Rattle.pg_wire.specs.Parse.{Parses}
use Rattle.pg_wire.specs.declared.message.Message.{Message}
use Rattle.pg_types.specs.declared.faults.WireFault.{WireFault}
use Rattle.pg_wire.proofs.HandedOn.{handed-on}
use Rattle.pg_wire.proofs.Taken.{parse_takes, parse_refuses}
use Rattle.pg_wire.proofs.message.Message.parse.Goals as goal

pub returns-in_err-message : goal.returns-in_err-message
returns-in_err-message c =
    subst (λ (r : Result (Option Message) WireFault). Parses c.args.buf.now c.args.buf.now r) (sym (handed-on c.from_residual-in_err-message.result c.in_err-message.field-0.0 c.from_residual-in_err-message.ensures.1))
    (parse_refuses _ _ _ _ _ _ c.as_slice.ensures c.as_slice-2.ensures c.in-Whole.ensures c.in_ok-body.ensures.ok c.in_err-message.ensures)

pub returns : goal.returns
returns c =
    parse_takes _ _ _ _ _ _ _ c.as_slice.ensures c.as_slice-2.ensures c.in-Whole.ensures c.in_ok-body.ensures.ok c.in_ok-message.ensures c.advance.ensures
