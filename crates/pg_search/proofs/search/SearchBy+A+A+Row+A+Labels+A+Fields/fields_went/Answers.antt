use Rattle.std.proofs.Common.{◌∙◌, sym, subst, arith, Ok, Err}
use Rattle.pg_query.specs.declared.script.Want.{Want}
use Rattle.pg_query.specs.Scripts.{Falls}
use Rattle.pg_core.specs.Lookups as spec
use Rattle.pg_search.proofs.Stacking.{at-fails}
use Rattle.pg_search.proofs.Went.{moved, moved-ok, falls-more, fields-acts, fields-reads, fields-answers}
use Rattle.pg_search.proofs.search.SearchBy+A+A+Row+A+Labels+A+Fields.fields_went.Goals as goal

pub returns-in-Answer-Err-clause-goes_on : goal.returns-in-Answer-Err-clause-goes_on
returns-in-Answer-Err-clause-goes_on g c d h =
    moved g.A.Row.Script.dialogue g.A.Row.Script.refuses g.A.Row.Script.waits g.A.Labels.Script.dialogue g.A.Labels.Script.refuses g.A.Labels.Script.waits g.A.Fields.Script.dialogue g.A.Fields.Script.refuses g.A.Fields.Script.waits c.wants.result c.wants.new.self _ _ (sym (at-fails c.args.self.now.stack c.in-Answer-Err.error) ∙ fields-answers g.A.Row.Script.dialogue g.A.Row.Script.refuses g.A.Row.Script.waits g.A.Labels.Script.dialogue g.A.Labels.Script.refuses g.A.Labels.Script.waits g.A.Fields.Script.dialogue g.A.Fields.Script.refuses g.A.Fields.Script.waits c.args.self.now.stack c.args.oid c.args.row c.args.script d c.args.want c.in-Answer-Err.field-0 (Err c.in-Answer-Err.error) c.in-Answer-Err.is c.in-Answer-Err.field-0-is h) c.wants.ensures.goes_on

pub returns-in-Act-clause-goes_on : goal.returns-in-Act-clause-goes_on
returns-in-Act-clause-goes_on g c d h =
    fields-acts g.A.Row.Script.dialogue g.A.Row.Script.refuses g.A.Row.Script.waits g.A.Labels.Script.dialogue g.A.Labels.Script.refuses g.A.Labels.Script.waits g.A.Fields.Script.dialogue g.A.Fields.Script.refuses g.A.Fields.Script.waits c.args.self.now.asker c.args.self.now.stack c.args.oid c.args.row c.args.script d c.args.want c.in-Act.action c.in-Act.is h

pub returns-in-Act-clause-falls : goal.returns-in-Act-clause-falls
returns-in-Act-clause-falls g c n h =
    let low = subst (λ (y : Want spec.FieldRows). Falls y n (g.A.Fields.Script.steps c.args.script)) c.in-Act.is h in
    omega (arith, low)

pub returns-in-Read-clause-goes_on : goal.returns-in-Read-clause-goes_on
returns-in-Read-clause-goes_on g c d h =
    fields-reads g.A.Row.Script.dialogue g.A.Row.Script.refuses g.A.Row.Script.waits g.A.Labels.Script.dialogue g.A.Labels.Script.refuses g.A.Labels.Script.waits g.A.Fields.Script.dialogue g.A.Fields.Script.refuses g.A.Fields.Script.waits c.args.self.now.asker c.args.self.now.stack c.args.oid c.args.row c.args.script d c.args.want c.in-Read.is h

pub returns-in-Answer-Ok-clause-goes_on : goal.returns-in-Answer-Ok-clause-goes_on
returns-in-Answer-Ok-clause-goes_on g c d h =
    moved-ok g.A.Row.Script.dialogue g.A.Row.Script.refuses g.A.Row.Script.waits g.A.Labels.Script.dialogue g.A.Labels.Script.refuses g.A.Labels.Script.waits g.A.Fields.Script.dialogue g.A.Fields.Script.refuses g.A.Fields.Script.waits c.fields_came.result c.fields_came.new.self _ _ (fields-answers g.A.Row.Script.dialogue g.A.Row.Script.refuses g.A.Row.Script.waits g.A.Labels.Script.dialogue g.A.Labels.Script.refuses g.A.Labels.Script.waits g.A.Fields.Script.dialogue g.A.Fields.Script.refuses g.A.Fields.Script.waits c.args.self.now.stack c.args.oid c.args.row c.args.script d c.args.want c.in-Answer-Ok.field-0 (Ok c.in-Answer-Ok.fields) c.in-Answer-Ok.is c.in-Answer-Ok.field-0-is h) (c.fields_came.ensures.goes_on)

pub returns-in-Answer-Ok-clause-falls : goal.returns-in-Answer-Ok-clause-falls
returns-in-Answer-Ok-clause-falls g c n h =
    falls-more c.fields_came.result _ _ _ (omega arith) c.fields_came.ensures.falls
