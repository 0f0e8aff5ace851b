use Rattle.std.proofs.Common.{ℕ, List, Option, ap, sym, ◌∙◌}
use Rattle.std.specs.Option.{ok_or}
use Rattle.std.specs.Result.{result_ok}
use Rattle.pg_spec.specs.Numerals.{number_in}
use Rattle.pg_errors.proofs.Numbers.{no-number, number-parsed}
use Rattle.pg_machine.specs.declared.fault.LineFault.TheVariants.{Number}
use Rattle.pg_machine.proofs.word.number_of.Goals as goal

pub returns-in_default : goal.returns-in_default
returns-in_default c = ap (λ (n : Option ℕ). ok_or n Number) (no-number 32 c.args.word.now c.in_default.ensures.cases.0)

pub returns-in-Ok-parse : goal.returns-in-Ok-parse
returns-in-Ok-parse c =
    ap (λ (text : List ℕ). ok_or (number_in 32 text) Number) (sym c.in-Ok.ensures.cases.0)
    ∙ ap (λ (n : Option ℕ). ok_or n Number) (number-parsed 32 c.in-Ok.text.now c.parse.result c.parse.ensures.value.0)
    ∙ ap (λ r. ok_or (result_ok r) Number) c.in-Ok-parse.is

pub returns-in-Err : goal.returns-in-Err
returns-in-Err c =
    ap (λ (text : List ℕ). ok_or (number_in 32 text) Number) (sym c.in-Ok.ensures.cases.0)
    ∙ ap (λ (n : Option ℕ). ok_or n Number) (number-parsed 32 c.in-Ok.text.now c.parse.result c.parse.ensures.value.0)
    ∙ ap (λ r. ok_or (result_ok r) Number) c.in-Err.is
