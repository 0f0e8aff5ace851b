use Rattle.std.proofs.Common.{Some, sym, ap, ◌∙◌}
use Rattle.pg_spec.specs.Faults.{ServerError}
use Rattle.pg_scram.proofs.VerdictLaws.{not_text, told}
use Rattle.pg_scram.proofs.verdict.server_error.Goals as goal

pub returns-in_default : goal.returns-in_default
returns-in_default c = not_text c.args.text.now c.in_default.ensures.cases.0

pub returns-in-Ok-from_str : goal.returns-in-Ok-from_str
returns-in-Ok-from_str c =
    let text = c.in-Ok.ensures.cases.0 in
    let free = rw (c.as_bytes.ensures.value, text) at (sym c.has_delimiter.ensures ∙ c.if-has_delimiter.false) in
    told c.args.text.now c.in-Ok.ensures.cases.1 free ∙ ap (λ t. Some (ServerError t)) (sym (c.in-Ok-from_str.ensures ∙ text))
