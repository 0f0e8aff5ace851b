use Rattle.std.proofs.Common.{◌∙◌, ◌+◌, ap, arith}
use Rattle.pg_core.specs.Lookups as spec
use Rattle.pg_search.specs.Stacks.{find_over, searching_at}
use Rattle.pg_search.specs.Steps.{more_over, row_steps, stack_steps}
use Rattle.pg_search.proofs.Counting.{waits-steps}
use Rattle.pg_search.proofs.Stacking.{at-keeps, at-waits, at-labels, at-fields}
use Rattle.pg_search.proofs.Went.{moved, moved-ok, falls-more}
use Rattle.pg_search.proofs.search.SearchBy+A+A+Row+A+Labels+A+Fields.row_came.Goals as goal

pub returns-in_ok-ty-in-Is-clause-goes_on : goal.returns-in_ok-ty-in-Is-clause-goes_on
returns-in_ok-ty-in-Is-clause-goes_on g c =
    moved g.A.Row.Script.dialogue g.A.Row.Script.refuses g.A.Row.Script.waits g.A.Labels.Script.dialogue g.A.Labels.Script.refuses g.A.Labels.Script.waits g.A.Fields.Script.dialogue g.A.Fields.Script.refuses g.A.Fields.Script.waits c.wants.result c.wants.new.self _ _ (at-keeps c.args.self.now.stack c.args.oid c.args.row c.in-Is.kind _ c.in_ok-ty-in-Is.ensures ∙ ap (λ (x : spec.Sort). searching_at c.args.self.now.stack (spec.made_by (find_over c.args.self.now.stack c.args.oid) c.args.oid c.args.row x)) c.in-Is.ensures) c.wants.ensures.goes_on

pub returns-in_ok-ty-in-Is-clause-falls : goal.returns-in_ok-ty-in-Is-clause-falls
returns-in_ok-ty-in-Is-clause-falls g c =
    c.wants.ensures.falls (row_steps g.A.Asker.most (more_over c.args.self.now.stack) + stack_steps g.A.Asker.most c.args.self.now.stack) (omega arith)

pub returns-in_ok-want-in-Labels-clause-goes_on : goal.returns-in_ok-want-in-Labels-clause-goes_on
returns-in_ok-want-in-Labels-clause-goes_on g c =
    moved-ok g.A.Row.Script.dialogue g.A.Row.Script.refuses g.A.Row.Script.waits g.A.Labels.Script.dialogue g.A.Labels.Script.refuses g.A.Labels.Script.waits g.A.Fields.Script.dialogue g.A.Fields.Script.refuses g.A.Fields.Script.waits c.labels_went.result c.labels_went.new.self _ _ (at-labels c.args.self.now.stack c.args.oid c.args.row (g.A.Labels.Script.dialogue c.in_ok-script-in-Labels.script) c.in_ok-script-in-Labels.ensures.dialogue ∙ ap (λ (x : spec.Sort). searching_at c.args.self.now.stack (spec.made_by (find_over c.args.self.now.stack c.args.oid) c.args.oid c.args.row x)) c.in-Labels.ensures) (c.labels_went.ensures.goes_on (g.A.Labels.Script.dialogue c.in_ok-script-in-Labels.script) c.in_ok-want-in-Labels.ensures.goes_on)

pub returns-in_ok-want-in-Labels-clause-falls : goal.returns-in_ok-want-in-Labels-clause-falls
returns-in_ok-want-in-Labels-clause-falls g c =
    falls-more c.labels_went.result _ _ _ (omega (arith, c.in_ok-script-in-Labels.ensures.steps)) (c.labels_went.ensures.falls (g.A.Labels.Script.steps c.in_ok-script-in-Labels.script) c.in_ok-want-in-Labels.ensures.falls)

pub returns-in_ok-push-in-Of-clause-goes_on : goal.returns-in_ok-push-in-Of-clause-goes_on
returns-in_ok-push-in-Of-clause-goes_on g c =
    moved-ok g.A.Row.Script.dialogue g.A.Row.Script.refuses g.A.Row.Script.waits g.A.Labels.Script.dialogue g.A.Labels.Script.refuses g.A.Labels.Script.waits g.A.Fields.Script.dialogue g.A.Fields.Script.refuses g.A.Fields.Script.waits c.turns.result c.turns.new.self _ _ (at-waits c.args.self.now.stack c.push.new.self c.args.oid c.args.row c.in-Of.wrap c.in-Of.inner (record { left = c.in_ok-push-in-Of.ensures.left; found = c.in_ok-push-in-Of.ensures.found }) c.in_ok-push-in-Of.ensures.frames ∙ ap (λ (x : spec.Sort). searching_at c.args.self.now.stack (spec.made_by (find_over c.args.self.now.stack c.args.oid) c.args.oid c.args.row x)) c.in-Of.ensures) (c.turns.ensures.goes_on)

pub returns-in_ok-push-in-Of-clause-falls : goal.returns-in_ok-push-in-Of-clause-falls
returns-in_ok-push-in-Of-clause-falls g c =
    c.turns.ensures.falls (row_steps g.A.Asker.most (more_over c.args.self.now.stack) + stack_steps g.A.Asker.most c.args.self.now.stack) (waits-steps g.A.Asker.most c.args.self.now.stack c.push.new.self c.args.oid c.args.row c.in-Of.wrap c.in_ok-push-in-Of.ensures.left c.in_ok-push-in-Of.ensures.frames)

pub returns-in_ok-want-in-Fields-clause-goes_on : goal.returns-in_ok-want-in-Fields-clause-goes_on
returns-in_ok-want-in-Fields-clause-goes_on g c =
    moved-ok g.A.Row.Script.dialogue g.A.Row.Script.refuses g.A.Row.Script.waits g.A.Labels.Script.dialogue g.A.Labels.Script.refuses g.A.Labels.Script.waits g.A.Fields.Script.dialogue g.A.Fields.Script.refuses g.A.Fields.Script.waits c.fields_went.result c.fields_went.new.self _ _ (at-fields c.args.self.now.stack c.args.oid c.args.row c.in-Fields.relation (g.A.Fields.Script.dialogue c.in_ok-script-in-Fields.script) c.in_ok-script-in-Fields.ensures.dialogue ∙ ap (λ (x : spec.Sort). searching_at c.args.self.now.stack (spec.made_by (find_over c.args.self.now.stack c.args.oid) c.args.oid c.args.row x)) c.in-Fields.ensures) (c.fields_went.ensures.goes_on (g.A.Fields.Script.dialogue c.in_ok-script-in-Fields.script) c.in_ok-want-in-Fields.ensures.goes_on)

pub returns-in_ok-want-in-Fields-clause-falls : goal.returns-in_ok-want-in-Fields-clause-falls
returns-in_ok-want-in-Fields-clause-falls g c =
    falls-more c.fields_went.result _ _ _ (omega (arith, c.in_ok-script-in-Fields.ensures.steps)) (c.fields_went.ensures.falls (g.A.Fields.Script.steps c.in_ok-script-in-Fields.script) c.in_ok-want-in-Fields.ensures.falls)
