use Rattle.std.proofs.Common.{◌∙◌, refl, arith, sym, ap, length, List, Ok}
use Rattle.pg_desk.specs.declared.column.Column.{Column}
use Rattle.pg_types.specs.declared.pg_type.Kind.{Composite}
use Rattle.pg_core.specs.Cells.{Cells}
use Rattle.pg_core.specs.Lookups.{field_row, keeps}
use Rattle.pg_search.proofs.Popping.{nothing-popped}
use Rattle.pg_search.proofs.Stacking.{any-room, at-keeps, fields-end, fields-some, fields-fail}
use Rattle.pg_search.proofs.Counting.{any-room-steps, fields-some-steps}
use Rattle.pg_search.proofs.stack.Stack.field.Goals as goal

pub returns-in_ok-ty-in-None-clause-goes : goal.returns-in_ok-ty-in-None-clause-goes
returns-in_ok-ty-in-None-clause-goes g c =
    let part = c.args.composite in
    at-keeps (record c.args.self.now { room = part.room }) part.oid part.row (Composite part.found) _ c.in_ok-ty-in-None.ensures
    ∙ any-room c.args.self.now part.room (keeps part.oid part.row (Composite part.found))
    ∙ fields-end c.args.self.now c.args.composite (nothing-popped _ _ c.in-None.ensures.items c.in-None.ensures.rest)

pub returns-in_ok-ty-in-None-clause-steps : goal.returns-in_ok-ty-in-None-clause-steps
returns-in_ok-ty-in-None-clause-steps g c = λ most. omega (arith, any-room-steps most c.args.self.now c.args.composite.room)

pub returns-in_ok-push-in-Ok-clause-goes : goal.returns-in_ok-push-in-Ok-clause-goes
returns-in_ok-push-in-Ok-clause-goes g c =
    fields-some c.args.self.now _ c.args.composite _ _ _ c.in-Some.cells (record { left = c.in_ok-push-in-Ok.ensures.left; found = c.in_ok-push-in-Ok.ensures.found }) c.in_ok-push-in-Ok.ensures.frames c.in-Some.ensures.items refl
    (ap Ok c.field-in-Ok.view_is ∙ sym c.in-Ok.is ∙ c.in_ok-field-in-Some.ensures
    ∙ ap (λ (l : List Column). field_row l c.as_slice.result.now) c.columns.ensures
    ∙ ap (λ (l : Cells). field_row c.args.composite.statement.columns l) c.as_slice.ensures)

pub returns-in_ok-push-in-Ok-clause-steps : goal.returns-in_ok-push-in-Ok-clause-steps
returns-in_ok-push-in-Ok-clause-steps g c =
    λ most. fields-some-steps most c.args.self.now _ c.args.composite _ _ (length c.args.composite.left.items) c.in_ok-push-in-Ok.ensures.left c.in_ok-push-in-Ok.ensures.frames (ap length c.in-Some.ensures.items)

pub returns-in-Err-clause-goes : goal.returns-in-Err-clause-goes
returns-in-Err-clause-goes g c =
    fields-fail c.args.self.now c.args.composite c.in-Some.cells _ _ c.in-Some.ensures.items
    (sym c.in-Err.is ∙ c.in_ok-field-in-Some.ensures
    ∙ ap (λ (l : List Column). field_row l c.as_slice.result.now) c.columns.ensures
    ∙ ap (λ (l : Cells). field_row c.args.composite.statement.columns l) c.as_slice.ensures)
