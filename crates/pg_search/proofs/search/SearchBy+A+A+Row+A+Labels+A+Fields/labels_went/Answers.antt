use Rattle.std.proofs.Common.{◌∙◌, ◌+◌, ℕ, List, sym, subst, arith, Ok, Err}
use Rattle.pg_types.specs.declared.pg_type.Kind.{Enum}
use Rattle.pg_query.specs.declared.script.Want.{Want}
use Rattle.pg_query.specs.Scripts.{Falls}
use Rattle.pg_search.specs.Steps.{stack_steps}
use Rattle.pg_search.proofs.Stacking.{at-fails, at-keeps}
use Rattle.pg_search.proofs.Went.{moved, labels-acts, labels-reads, labels-answers}
use Rattle.pg_search.proofs.search.SearchBy+A+A+Row+A+Labels+A+Fields.labels_went.Goals as goal

pub returns-in-Answer-Err-clause-goes_on : goal.returns-in-Answer-Err-clause-goes_on
returns-in-Answer-Err-clause-goes_on g c d h =
    moved g.A.Row.Script.dialogue g.A.Row.Script.refuses g.A.Row.Script.waits g.A.Labels.Script.dialogue g.A.Labels.Script.refuses g.A.Labels.Script.waits g.A.Fields.Script.dialogue g.A.Fields.Script.refuses g.A.Fields.Script.waits c.wants-in-Answer-Err.result c.wants-in-Answer-Err.new.self _ _ (sym (at-fails c.args.self.now.stack c.in-Answer-Err.error) ∙ labels-answers g.A.Row.Script.dialogue g.A.Row.Script.refuses g.A.Row.Script.waits g.A.Labels.Script.dialogue g.A.Labels.Script.refuses g.A.Labels.Script.waits g.A.Fields.Script.dialogue g.A.Fields.Script.refuses g.A.Fields.Script.waits c.args.self.now.stack c.args.oid c.args.row c.args.script d c.args.want c.in-Answer-Err.field-0 (Err c.in-Answer-Err.error) c.in-Answer-Err.is c.in-Answer-Err.field-0-is h) c.wants-in-Answer-Err.ensures.goes_on

pub returns-in-Act-clause-goes_on : goal.returns-in-Act-clause-goes_on
returns-in-Act-clause-goes_on g c d h =
    labels-acts g.A.Row.Script.dialogue g.A.Row.Script.refuses g.A.Row.Script.waits g.A.Labels.Script.dialogue g.A.Labels.Script.refuses g.A.Labels.Script.waits g.A.Fields.Script.dialogue g.A.Fields.Script.refuses g.A.Fields.Script.waits c.args.self.now.asker c.args.self.now.stack c.args.oid c.args.row c.args.script d c.args.want c.in-Act.action c.in-Act.is h

pub returns-in-Act-clause-falls : goal.returns-in-Act-clause-falls
returns-in-Act-clause-falls g c n h =
    let low = subst (λ (y : Want (List (List ℕ))). Falls y n (g.A.Labels.Script.steps c.args.script)) c.in-Act.is h in
    omega (arith, low)

pub returns-in-Read-clause-goes_on : goal.returns-in-Read-clause-goes_on
returns-in-Read-clause-goes_on g c d h =
    labels-reads g.A.Row.Script.dialogue g.A.Row.Script.refuses g.A.Row.Script.waits g.A.Labels.Script.dialogue g.A.Labels.Script.refuses g.A.Labels.Script.waits g.A.Fields.Script.dialogue g.A.Fields.Script.refuses g.A.Fields.Script.waits c.args.self.now.asker c.args.self.now.stack c.args.oid c.args.row c.args.script d c.args.want c.in-Read.is h

pub returns-in_ok-ty-in-Answer-Ok-clause-goes_on : goal.returns-in_ok-ty-in-Answer-Ok-clause-goes_on
returns-in_ok-ty-in-Answer-Ok-clause-goes_on g c d h =
    moved g.A.Row.Script.dialogue g.A.Row.Script.refuses g.A.Row.Script.waits g.A.Labels.Script.dialogue g.A.Labels.Script.refuses g.A.Labels.Script.waits g.A.Fields.Script.dialogue g.A.Fields.Script.refuses g.A.Fields.Script.waits c.wants.result c.wants.new.self _ _ (at-keeps c.args.self.now.stack c.args.oid c.args.row (Enum c.in-Answer-Ok.labels) _ c.in_ok-ty-in-Answer-Ok.ensures ∙ labels-answers g.A.Row.Script.dialogue g.A.Row.Script.refuses g.A.Row.Script.waits g.A.Labels.Script.dialogue g.A.Labels.Script.refuses g.A.Labels.Script.waits g.A.Fields.Script.dialogue g.A.Fields.Script.refuses g.A.Fields.Script.waits c.args.self.now.stack c.args.oid c.args.row c.args.script d c.args.want c.in-Answer-Ok.field-0 (Ok c.in-Answer-Ok.labels) c.in-Answer-Ok.is c.in-Answer-Ok.field-0-is h) c.wants.ensures.goes_on

pub returns-in_ok-ty-in-Answer-Ok-clause-falls : goal.returns-in_ok-ty-in-Answer-Ok-clause-falls
returns-in_ok-ty-in-Answer-Ok-clause-falls g c n h =
    c.wants.ensures.falls (n + (1 + stack_steps g.A.Asker.most c.args.self.now.stack)) (omega arith)
