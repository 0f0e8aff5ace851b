use Rattle.std.proofs.Common.{ap}
use Rattle.std.proofs.lemmas.Result.{err_from_is_err_and}
use Rattle.pg_spec.specs.Faults.{NotUtf8}
use Rattle.pg_wire.specs.Faults.{wire_fault}
use Rattle.pg_wire.proofs.Items.{text_taken, text_refused}
use Rattle.pg_wire.proofs.row_fields.text.Goals as goal

pub returns : goal.returns
returns c = text_taken _ _ _ c.in-Some.ensures c.in_ok-text.ensures.0 c.in_ok-text.ensures.1

pub returns-in_err-text : goal.returns-in_err-text
returns-in_err-text c =
    let p = err_from_is_err_and c.from_residual.result c.from_residual.ensures.1 in
    rw (p.1, p.2) (NotUtf8, ap wire_fault c.in_err-text.ensures.0, text_refused _ _ c.in-Some.ensures c.in_err-text.ensures.1)
