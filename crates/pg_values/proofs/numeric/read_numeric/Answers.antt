use Rattle.std.proofs.Common.{ℕ, List, false, None}
use Rattle.std.proofs.lemmas.Result.{err_from_is_err_and}
use Rattle.pg_values.specs.declared.numeric.Form.{Form}
use Rattle.pg_values.specs.declared.datum.Datum.{Datum}
use Rattle.pg_values.specs.Numerics.{IsNumericOf, SpellsNumeric, IsValueOf}
use Rattle.pg_values.proofs.ReadLaws.{handed_on}
use Rattle.pg_values.proofs.DigitLaws.{numeral_same}
use Rattle.pg_values.proofs.numeric.read_numeric.Goals as goal

form_of : (raw : List ℕ) (v : Datum) → SpellsNumeric false v raw → (form : Form) × IsNumericOf false form.sign form.scale form.weight form.digits raw
form_of raw v is = let form : Form = record { sign = is.sign; scale = is.scale; weight = is.weight; digits = is.digits } in (form, is.form)

pub returns-in_err-form : goal.returns-in_err-form
returns-in_err-form c =
    let p = err_from_is_err_and c.from_residual.result c.from_residual.ensures.1 in
    rw (p.1, p.2) (handed_on (λ (form : Form). IsNumericOf false form.sign form.scale form.weight form.digits c.args.raw.now)
    (λ (v : Datum). SpellsNumeric false v c.args.raw.now) c.in_err-form.field-0.0 c.in_err-form.ensures (form_of c.args.raw.now))

no_value : (raw : List ℕ) (form : Form) → IsNumericOf false form.sign form.scale form.weight form.digits raw
    → IsValueOf form.sign form.scale form.weight form.digits None → (v : Datum) → SpellsNumeric false v raw → ⊥
no_value raw form is none v spelled =
    none v (numeral_same form.sign spelled.sign form.scale spelled.scale form.weight spelled.weight form.digits spelled.digits raw v is spelled.form spelled.is)

pub returns : goal.returns
returns c = no_value c.args.raw.now c.in_ok-form.form c.in_ok-form.ensures c.in-None.ensures
