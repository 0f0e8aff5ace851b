use Rattle.std.proofs.Common.{Ok, Err}
use Rattle.pg_diagnostics.proofs.Refusals.{digits_utf8, reads}
use Rattle.pg_diagnostics.proofs.reason.number_of.Goals as goal

pub returns-in_default : goal.returns-in_default
returns-in_default c = λ n fits is. absurd (c.in_default.ensures.cases.0 (digits_utf8 n c.args.digits.now fits is))

pub returns-in-Ok-parse : goal.returns-in-Ok-parse
returns-in-Ok-parse c = λ n fits is. reads {E = Unit {0}} n c.args.digits.now c.in-Ok.text.now (Ok c.in-Ok-parse.number) fits is c.in-Ok.ensures.cases.0 c.in-Ok-parse.ensures.value.0

pub returns-in-Err : goal.returns-in-Err
returns-in-Err c = λ n fits is. reads n c.args.digits.now c.in-Ok.text.now (Err c.in-Err.field-0) fits is c.in-Ok.ensures.cases.0 c.in-Err.ensures.value.0
