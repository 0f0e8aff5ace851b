use Rattle.std.proofs.Common.{◌∙◌, sym, ap}
use Rattle.pg_search.specs.Stacks.{searching_at}
use Rattle.pg_search.proofs.Stacking.{at-fails}
use Rattle.pg_search.proofs.Went.{moved, moved-ok}
use Rattle.pg_search.proofs.search.SearchBy+A+A+Row+A+Labels+A+Fields.kept.Goals as goal

pub returns-in-Ok-clause-goes_on : goal.returns-in-Ok-clause-goes_on
returns-in-Ok-clause-goes_on g c =
    moved-ok g.A.Row.Script.dialogue g.A.Row.Script.refuses g.A.Row.Script.waits g.A.Labels.Script.dialogue g.A.Labels.Script.refuses g.A.Labels.Script.waits g.A.Fields.Script.dialogue g.A.Fields.Script.refuses g.A.Fields.Script.waits c.finds.result c.finds.new.self _ _ (ap (searching_at c.args.self.now.stack) (sym c.in-Ok.ensures)) (c.finds.ensures.goes_on)

pub returns-in-Ok-clause-falls : goal.returns-in-Ok-clause-falls
returns-in-Ok-clause-falls g c =
    c.finds.ensures.falls

pub returns-in-Err-clause-goes_on : goal.returns-in-Err-clause-goes_on
returns-in-Err-clause-goes_on g c =
    moved g.A.Row.Script.dialogue g.A.Row.Script.refuses g.A.Row.Script.waits g.A.Labels.Script.dialogue g.A.Labels.Script.refuses g.A.Labels.Script.waits g.A.Fields.Script.dialogue g.A.Fields.Script.refuses g.A.Fields.Script.waits c.wants.result c.wants.new.self _ _ (sym (at-fails c.args.self.now.stack c.in-Err.error) ∙ ap (searching_at c.args.self.now.stack) (sym c.in-Err.ensures)) c.wants.ensures.goes_on
