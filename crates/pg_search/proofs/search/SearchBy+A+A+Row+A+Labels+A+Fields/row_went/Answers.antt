use Rattle.std.proofs.Common.{◌∙◌, sym, subst, arith, Ok, Err}
use Rattle.pg_query.specs.declared.script.Want.{Want}
use Rattle.pg_query.specs.Scripts.{Falls}
use Rattle.pg_core.specs.Lookups as spec
use Rattle.pg_search.proofs.Stacking.{at-fails}
use Rattle.pg_search.proofs.Went.{moved, moved-ok, falls-more, row-acts, row-reads, row-answers}
use Rattle.pg_search.proofs.search.SearchBy+A+A+Row+A+Labels+A+Fields.row_went.Goals as goal

pub returns-in-Answer-Err-clause-goes_on : goal.returns-in-Answer-Err-clause-goes_on
returns-in-Answer-Err-clause-goes_on g c d h =
    moved g.A.Row.Script.dialogue g.A.Row.Script.refuses g.A.Row.Script.waits g.A.Labels.Script.dialogue g.A.Labels.Script.refuses g.A.Labels.Script.waits g.A.Fields.Script.dialogue g.A.Fields.Script.refuses g.A.Fields.Script.waits c.wants.result c.wants.new.self _ _ (sym (at-fails c.args.self.now.stack c.in-Answer-Err.error) ∙ row-answers g.A.Row.Script.dialogue g.A.Row.Script.refuses g.A.Row.Script.waits g.A.Labels.Script.dialogue g.A.Labels.Script.refuses g.A.Labels.Script.waits g.A.Fields.Script.dialogue g.A.Fields.Script.refuses g.A.Fields.Script.waits c.args.self.now.stack c.args.oid c.args.script d c.args.want c.in-Answer-Err.field-0 (Err c.in-Answer-Err.error) c.in-Answer-Err.is c.in-Answer-Err.field-0-is h) c.wants.ensures.goes_on

pub returns-in-Act-clause-goes_on : goal.returns-in-Act-clause-goes_on
returns-in-Act-clause-goes_on g c d h =
    row-acts g.A.Row.Script.dialogue g.A.Row.Script.refuses g.A.Row.Script.waits g.A.Labels.Script.dialogue g.A.Labels.Script.refuses g.A.Labels.Script.waits g.A.Fields.Script.dialogue g.A.Fields.Script.refuses g.A.Fields.Script.waits c.args.self.now.asker c.args.self.now.stack c.args.oid c.args.script d c.args.want c.in-Act.action c.in-Act.is h

pub returns-in-Act-clause-falls : goal.returns-in-Act-clause-falls
returns-in-Act-clause-falls g c n h =
    let low = subst (λ (y : Want spec.TypeRow). Falls y n (g.A.Row.Script.steps c.args.script)) c.in-Act.is h in
    omega (arith, low)

pub returns-clause-goes_on : goal.returns-clause-goes_on
returns-clause-goes_on g c d h =
    row-reads g.A.Row.Script.dialogue g.A.Row.Script.refuses g.A.Row.Script.waits g.A.Labels.Script.dialogue g.A.Labels.Script.refuses g.A.Labels.Script.waits g.A.Fields.Script.dialogue g.A.Fields.Script.refuses g.A.Fields.Script.waits c.args.self.now.asker c.args.self.now.stack c.args.oid c.args.script d c.args.want c.in-Read.is h

pub returns-in-Answer-Ok-clause-goes_on : goal.returns-in-Answer-Ok-clause-goes_on
returns-in-Answer-Ok-clause-goes_on g c d h =
    moved-ok g.A.Row.Script.dialogue g.A.Row.Script.refuses g.A.Row.Script.waits g.A.Labels.Script.dialogue g.A.Labels.Script.refuses g.A.Labels.Script.waits g.A.Fields.Script.dialogue g.A.Fields.Script.refuses g.A.Fields.Script.waits c.row_came.result c.row_came.new.self _ _ (row-answers g.A.Row.Script.dialogue g.A.Row.Script.refuses g.A.Row.Script.waits g.A.Labels.Script.dialogue g.A.Labels.Script.refuses g.A.Labels.Script.waits g.A.Fields.Script.dialogue g.A.Fields.Script.refuses g.A.Fields.Script.waits c.args.self.now.stack c.args.oid c.args.script d c.args.want c.in-Answer-Ok.field-0 (Ok c.in-Answer-Ok.row) c.in-Answer-Ok.is c.in-Answer-Ok.field-0-is h) (c.row_came.ensures.goes_on)

pub returns-in-Answer-Ok-clause-falls : goal.returns-in-Answer-Ok-clause-falls
returns-in-Answer-Ok-clause-falls g c n h =
    falls-more c.row_came.result _ _ _ (omega arith) c.row_came.ensures.falls
