use Rattle.std.proofs.Common.{◌≡◌, List, Ok, Some, sym, ap, ◌∙◌}
use Rattle.pg_spec.specs.Bodies.{Field, fields_of, field_at}
use Rattle.pg_wire.specs.Steps.{counted_step}
use Rattle.pg_query.proofs.Counting.{behind, reads-one, read-behind}
use Rattle.pg_core.proofs.description_reading.new_columns.Goals as goal

pub loop-field-preserved : goal.loop-field-preserved
loop-field-preserved c =
    let old = c.loop-field.fields in
    let new = c.next.new.self in
    let step : counted_step field_at old.count old.bytes ≡ Ok (Some (c.in-Ok-Some.field, new)) = rw c.in-Ok-Some.field-0-is at c.in-Ok-Some.ensures.step in
    read-behind (fields_of c.args.body.now.count c.args.body.now.fields) field_at c.loop-field.columns old.count old.bytes c.in-Ok-Some.field new c.loop-field.invariant
    (reads-one field_at old.count old.bytes c.in-Ok-Some.field new step)
    ∙ ap (λ (l : List Field). behind l (fields_of new.count new.bytes)) (sym c.in-Ok.ensures)
