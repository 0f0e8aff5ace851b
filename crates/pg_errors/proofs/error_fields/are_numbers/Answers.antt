use Rattle.std.proofs.Common.{◌≡◌, List, ℕ, Ok, Some, is_some, sym, ap, ◌∙◌}
use Rattle.std.proofs.lemmas.Bool.{eq-eqb, ne_eqb}
use Rattle.pg_spec.specs.Numerals.{number_in}
use Rattle.std.specs.Str.Lossy.{utf8_lossy}
use Rattle.pg_wire.specs.Steps.{error_step}
use Rattle.pg_errors.proofs.FieldLemmas.{pass-true, pass-other}
use Rattle.pg_errors.proofs.error_fields.are_numbers.Goals as goal

pub loop-field-preserved-else-not-branch : goal.loop-field-preserved-else-not-branch
loop-field-preserved-else-not-branch c =
    let field = c.in-Ok-Some.field in
    let step : error_step c.loop-field.fields ≡ Ok (Some (field, c.next.new.self)) = rw c.in-Ok-Some.field-0-is at c.in-Ok-Some.ensures.step in
    c.loop-field.invariant
    ∙ pass-true (λ text. is_some (number_in 32 text)) c.args.kind c.loop-field.fields field c.next.new.self step (eq-eqb _ _ (sym c.type_.ensures ∙ c.if-type_-kind.true))
    (sym c.if-not-branch.false ∙ c.in_ok-is_number.ensures ∙ ap (λ (v : List ℕ). is_some (number_in 32 (utf8_lossy v))) c.value_bytes.ensures)

pub loop-field-preserved : goal.loop-field-preserved
loop-field-preserved c =
    let field = c.in-Ok-Some.field in
    let step : error_step c.loop-field.fields ≡ Ok (Some (field, c.next.new.self)) = rw c.in-Ok-Some.field-0-is at c.in-Ok-Some.ensures.step in
    c.loop-field.invariant
    ∙ pass-other (λ text. is_some (number_in 32 text)) c.args.kind c.loop-field.fields field c.next.new.self step (ne_eqb _ _ (λ e. c.if-type_-kind.false (c.type_.ensures ∙ e)))
