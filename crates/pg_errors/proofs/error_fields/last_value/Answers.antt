use Rattle.std.proofs.Common.{◌≡◌, List, ℕ, Ok, Some, sym, ap, ◌∙◌, option_map}
use Rattle.std.specs.List.{last_or}
use Rattle.std.proofs.lemmas.Bool.{eq-eqb, ne_eqb}
use Rattle.pg_wire.specs.Steps.{error_step}
use Rattle.pg_errors.specs.Fields.{fields_in, values_of}
use Rattle.pg_errors.proofs.FieldLemmas.{last-same, last-other}
use Rattle.pg_errors.proofs.error_fields.last_value.Goals as goal

pub loop-field-preserved-then-type_-kind : goal.loop-field-preserved-then-type_-kind
loop-field-preserved-then-type_-kind c =
    let field = c.in-Ok-Some.field in
    let step : error_step c.loop-field.fields ≡ Ok (Some (field, c.next.new.self)) = rw c.in-Ok-Some.field-0-is at c.in-Ok-Some.ensures.step in
    ap (λ (v : List ℕ). last_or (Some v) (values_of c.args.kind (fields_in c.next.new.self))) c.value_bytes.ensures
    ∙ sym (last-same c.args.kind c.loop-field.fields field c.next.new.self (option_map (λ v. v.now) c.loop-field.last) step (eq-eqb _ _ (sym c.type_.ensures ∙ c.if-type_-kind.true)))
    ∙ c.loop-field.invariant

pub loop-field-preserved : goal.loop-field-preserved
loop-field-preserved c =
    let field = c.in-Ok-Some.field in
    let step : error_step c.loop-field.fields ≡ Ok (Some (field, c.next.new.self)) = rw c.in-Ok-Some.field-0-is at c.in-Ok-Some.ensures.step in
    sym (last-other c.args.kind c.loop-field.fields field c.next.new.self (option_map (λ v. v.now) c.loop-field.last) step (ne_eqb _ _ (λ e. c.if-type_-kind.false (c.type_.ensures ∙ e))))
    ∙ c.loop-field.invariant
