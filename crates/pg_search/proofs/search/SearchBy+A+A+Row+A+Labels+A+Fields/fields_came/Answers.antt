use Rattle.std.proofs.Common.{◌≤◌, ◌∙◌, ◌+◌, ◌*◌, List, length, ap, arith, Ok}
use Rattle.pg_types.specs.declared.pg_type.Kind.{Composite}
use Rattle.pg_types.specs.declared.pg_type.Field.{Field}
use Rattle.pg_core.specs.Lookups as spec
use Rattle.pg_search.specs.Stacks.{fields_goes, find_over, searching_at}
use Rattle.pg_search.specs.Steps.{finding_steps, more_over, most_fields, stack_steps}
use Rattle.pg_search.proofs.Counting.{fields-steps}
use Rattle.pg_search.proofs.Went.{moved-ok}
use Rattle.pg_search.proofs.search.SearchBy+A+A+Row+A+Labels+A+Fields.fields_came.Goals as goal

pub returns-clause-goes_on : goal.returns-clause-goes_on
returns-clause-goes_on g c =
    let s = c.args.self.now.stack in
    moved-ok g.A.Row.Script.dialogue g.A.Row.Script.refuses g.A.Row.Script.waits g.A.Labels.Script.dialogue g.A.Labels.Script.refuses g.A.Labels.Script.waits g.A.Fields.Script.dialogue g.A.Fields.Script.refuses g.A.Fields.Script.waits c.turns.result c.turns.new.self _ _
    (c.in_ok-turn.ensures.goes
    ∙ ap (λ (x : List Field). searching_at s (spec.fields_by (find_over s c.args.oid) c.fields.inside.statement.columns c.fields.inside.rows.items x (λ fields. spec.keeps c.args.oid c.args.row (Composite fields)))) c.empty.ensures
    ∙ ap (λ (f : spec.FieldRows). fields_goes s c.args.oid c.args.row (Ok f)) c.fields.view_is)
    c.turns.ensures.goes_on

pub returns-clause-falls : goal.returns-clause-falls
returns-clause-falls g c =
    let few : length c.fields.inside.rows.items ≤ most_fields = omega (arith, c.fields.inside.rows.ok.0) in
    c.turns.ensures.falls (1 + most_fields * finding_steps g.A.Asker.most (more_over c.args.self.now.stack) + stack_steps g.A.Asker.most c.args.self.now.stack)
    (omega (arith, c.in_ok-turn.ensures.steps g.A.Asker.most, fields-steps g.A.Asker.most (more_over c.args.self.now.stack) (length c.fields.inside.rows.items) (stack_steps g.A.Asker.most c.args.self.now.stack) few))
