use Rattle.std.proofs.Common.{sym, ◌∙◌}
use Rattle.pg_errors.proofs.Numbers.{number-parsed}
use Rattle.pg_errors.proofs.error_fields.number_in.Goals as goal

pub returns : goal.returns
returns c = c.ok.ensures.value ∙ sym (number-parsed 32 c.args.text.now c.parse.result c.parse.ensures.value.0)
