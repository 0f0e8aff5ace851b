use Rattle.std.proofs.Common.{◌≡◌, ℕ, ◌++◌, [], ◌∷◌, List, Ok, Some, sym, ap, ◌∙◌}
use Rattle.std.proofs.lemmas.List.{map-append}
use Rattle.pg_spec.specs.Bodies.{Field, fields_of, field_at}
use Rattle.pg_wire.specs.Steps.{counted_step}
use Rattle.pg_query.proofs.Counting.{reads-one, read-behind}
use Rattle.pg_rows.specs.declared.simple_column.SimpleColumn.{SimpleColumn}
use Rattle.pg_streams.specs.SimpleStreams.{named}
use Rattle.pg_streams.proofs.simple_giving.simple_columns.Goals as goal

pub loop-field-preserved : goal.loop-field-preserved
loop-field-preserved c =
    let old = c.loop-field.fields in
    let done = c.loop-field.invariant.0 in
    let field : Field = c.in-Ok-Some.field in
    let step : counted_step field_at old.count old.bytes ≡ Ok (Some (field, c.next.new.self)) = rw c.in-Ok-Some.field-0-is at c.in-Ok-Some.ensures.step in (
      done ++ field ∷ [],
      c.in-Ok.ensures
          ∙ ap (λ (l : List SimpleColumn). l ++ record { name = c.name-name.result.now } ∷ []) c.loop-field.invariant.1
          ∙ ap (λ (n : List ℕ). let l : List SimpleColumn = named done ++ record { name = n } ∷ [] in l) c.name-name.ensures
          ∙ sym (map-append (λ (f : Field). let x : SimpleColumn = record { name = f.name } in x) done (field ∷ [])),
      read-behind (fields_of c.args.body.now.count c.args.body.now.fields) field_at done old.count old.bytes field c.next.new.self c.loop-field.invariant.2
          (reads-one field_at old.count old.bytes field c.next.new.self step),
    )
