use Rattle.std.proofs.Common.{◌∙◌, sym, ap, arith, Option}
use Rattle.pg_types.specs.declared.pg_type.PgType.{PgType}
use Rattle.pg_query.specs.Dialogue.{Dialogue}
use Rattle.pg_core.specs.Lookups as spec
use Rattle.pg_search.specs.Stacks.{may_find, searching_at, told_goes}
use Rattle.pg_search.proofs.Stacking.{at-fails}
use Rattle.pg_search.proofs.Went.{moved, moved-ok, falls-more}
use Rattle.pg_search.proofs.search.SearchBy+A+A+Row+A+Labels+A+Fields.told.Goals as goal

pub returns-in-Ok-Some-clause-goes_on : goal.returns-in-Ok-Some-clause-goes_on
returns-in-Ok-Some-clause-goes_on g c =
    let next : Option PgType → Dialogue PgType = spec.unless_known (may_find c.args.self.now.stack c.args.oid) (told_goes c.args.self.now.stack c.args.oid) in
    moved-ok g.A.Row.Script.dialogue g.A.Row.Script.refuses g.A.Row.Script.waits g.A.Labels.Script.dialogue g.A.Labels.Script.refuses g.A.Labels.Script.waits g.A.Fields.Script.dialogue g.A.Fields.Script.refuses g.A.Fields.Script.waits c.finds.result c.finds.new.self _ _ (ap (searching_at c.args.self.now.stack) (ap next (sym c.in-Ok-Some.field-0-is) ∙ sym (c.in-Ok-Some.ensures next))) (c.finds.ensures.goes_on)

pub returns-in-Ok-Some-clause-falls : goal.returns-in-Ok-Some-clause-falls
returns-in-Ok-Some-clause-falls g c =
    falls-more c.finds.result _ _ _ (omega arith) c.finds.ensures.falls

pub returns-in-Ok-None-clause-goes_on : goal.returns-in-Ok-None-clause-goes_on
returns-in-Ok-None-clause-goes_on g c =
    let next : Option PgType → Dialogue PgType = spec.unless_known (may_find c.args.self.now.stack c.args.oid) (told_goes c.args.self.now.stack c.args.oid) in
    moved-ok g.A.Row.Script.dialogue g.A.Row.Script.refuses g.A.Row.Script.waits g.A.Labels.Script.dialogue g.A.Labels.Script.refuses g.A.Labels.Script.waits g.A.Fields.Script.dialogue g.A.Fields.Script.refuses g.A.Fields.Script.waits c.looks_up.result c.looks_up.new.self _ _ (ap (searching_at c.args.self.now.stack) (ap next (sym c.in-Ok-None.field-0-is) ∙ sym (c.in-Ok-None.ensures next))) (c.looks_up.ensures.goes_on)

pub returns-in-Ok-None-clause-falls : goal.returns-in-Ok-None-clause-falls
returns-in-Ok-None-clause-falls g c =
    c.looks_up.ensures.falls

pub returns-in-Err-clause-goes_on : goal.returns-in-Err-clause-goes_on
returns-in-Err-clause-goes_on g c =
    let next : Option PgType → Dialogue PgType = spec.unless_known (may_find c.args.self.now.stack c.args.oid) (told_goes c.args.self.now.stack c.args.oid) in
    moved g.A.Row.Script.dialogue g.A.Row.Script.refuses g.A.Row.Script.waits g.A.Labels.Script.dialogue g.A.Labels.Script.refuses g.A.Labels.Script.waits g.A.Fields.Script.dialogue g.A.Fields.Script.refuses g.A.Fields.Script.waits c.wants.result c.wants.new.self _ _ (sym (at-fails c.args.self.now.stack c.in-Err.error) ∙ ap (searching_at c.args.self.now.stack) (sym (c.in-Err.ensures next))) c.wants.ensures.goes_on
