use Rattle.std.proofs.Common.{◌∙◌, sym}
use Rattle.pg_search.proofs.Counting.{looking-up}
use Rattle.pg_search.proofs.Stacking.{at-looks-up, at-refuses}
use Rattle.pg_search.proofs.Went.{moved, moved-ok, falls-more}
use Rattle.pg_search.proofs.search.SearchBy+A+A+Row+A+Labels+A+Fields.looks_up.Goals as goal

pub returns-in_ok-want-clause-goes_on : goal.returns-in_ok-want-clause-goes_on
returns-in_ok-want-clause-goes_on g c =
    moved-ok g.A.Row.Script.dialogue g.A.Row.Script.refuses g.A.Row.Script.waits g.A.Labels.Script.dialogue g.A.Labels.Script.refuses g.A.Labels.Script.waits g.A.Fields.Script.dialogue g.A.Fields.Script.refuses g.A.Fields.Script.waits c.row_went.result c.row_went.new.self _ _ (at-looks-up c.args.self.now.stack c.args.oid (g.A.Row.Script.dialogue c.in_ok-script.script) c.in_ok-script.ensures.dialogue (sym c.if-may_find.true ∙ c.may_find.ensures)) (c.row_went.ensures.goes_on (g.A.Row.Script.dialogue c.in_ok-script.script) c.in_ok-want.ensures.goes_on)

pub returns-in_ok-want-clause-falls : goal.returns-in_ok-want-clause-falls
returns-in_ok-want-clause-falls g c =
    falls-more c.row_went.result _ _ _ (looking-up g.A.Asker.most c.args.self.now.stack c.args.oid (g.A.Row.Script.steps c.in_ok-script.script) (sym c.may_find.ensures ∙ c.if-may_find.true) c.in_ok-script.ensures.steps) (c.row_went.ensures.falls (g.A.Row.Script.steps c.in_ok-script.script) c.in_ok-want.ensures.falls)

pub returns-else-may_find-clause-goes_on : goal.returns-else-may_find-clause-goes_on
returns-else-may_find-clause-goes_on g c =
    moved g.A.Row.Script.dialogue g.A.Row.Script.refuses g.A.Row.Script.waits g.A.Labels.Script.dialogue g.A.Labels.Script.refuses g.A.Labels.Script.waits g.A.Fields.Script.dialogue g.A.Fields.Script.refuses g.A.Fields.Script.waits c.wants.result c.wants.new.self _ _ (at-refuses c.args.self.now.stack c.args.oid (sym c.if-may_find.false ∙ c.may_find.ensures)) c.wants.ensures.goes_on
