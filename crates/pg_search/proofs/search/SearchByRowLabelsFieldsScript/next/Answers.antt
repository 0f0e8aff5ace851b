use Rattle.std.proofs.Common.{◌≡◌, ◌∙◌, ◌*◌, length, IfOk, sym, ap, subst}
use Rattle.pg_query.specs.Scripts.{Falls}
use Rattle.pg_search.specs.declared.search.Job.{Job}
use Rattle.pg_search.specs.declared.search.Job.TheVariants as job
use Rattle.pg_search.specs.Searching.{Searched, job_dialogue, job_steps, search_steps}
use Rattle.pg_search.specs.Steps.{finding_steps}
use Rattle.pg_search.proofs.Counting.{new-steps}
use Rattle.pg_search.proofs.Stacking.{rest-all}
use Rattle.pg_search.proofs.Went.{moved-ok}
use Rattle.pg_search.proofs.search.SearchByRowLabelsFieldsScript.next.Goals as goal

pub rest-turn-requires : goal.rest-turn-requires
rest-turn-requires g c = c.new.ensures.frames

pub returns-in-New-clause-goes_on : goal.returns-in-New-clause-goes_on
returns-in-New-clause-goes_on g c =
    let e : c.args.self.now.job ≡ job.New c.in-New.oids = search in
    moved-ok g.A.Row.Script.dialogue g.A.Row.Script.refuses g.A.Row.Script.waits g.A.Labels.Script.dialogue g.A.Labels.Script.refuses g.A.Labels.Script.waits g.A.Fields.Script.dialogue g.A.Fields.Script.refuses g.A.Fields.Script.waits c.turns.result c.turns.new.self _ _
    (c.rest-turn.ensures.goes ∙ rest-all c.new.result c.in-New.oids.items c.new.ensures.left c.new.ensures.found ∙ ap (λ (x : Job g.row.A-Row.Denot g.row.A-Labels.Denot g.row.A-Fields.Denot). job_dialogue g.A.Row.Script.dialogue g.A.Labels.Script.dialogue g.A.Fields.Script.dialogue c.args.self.now.stack x) (sym e))
    c.turns.ensures.goes_on

pub returns-in-New-clause-falls : goal.returns-in-New-clause-falls
returns-in-New-clause-falls g c =
    let e : c.args.self.now.job ≡ job.New c.in-New.oids = search in
    subst (λ (x : Job g.row.A-Row.Denot g.row.A-Labels.Denot g.row.A-Fields.Denot). IfOk c.turns.result (λ w. Falls w (job_steps g.A.Asker.most g.A.Row.Script.steps g.A.Labels.Script.steps g.A.Fields.Script.steps c.args.self.now.stack x) (search_steps g.A.Asker.most g.A.Row.Script.steps g.A.Labels.Script.steps g.A.Fields.Script.steps c.turns.new.self))) (sym e)
    (c.turns.ensures.falls (length c.in-New.oids.items * finding_steps g.A.Asker.most 64) (new-steps g.A.Asker.most _ c.new.result c.in-New.oids.items c.new.ensures.left c.new.ensures.frames (c.rest-turn.ensures.steps g.A.Asker.most)))

pub returns-in_ok-want-in-Row-clause-goes_on : goal.returns-in_ok-want-in-Row-clause-goes_on
returns-in_ok-want-in-Row-clause-goes_on g c =
    let e : c.args.self.now.job ≡ job.Row c.in-Row.oid c.in-Row.script = search in
    subst (λ (x : Job g.row.A-Row.Denot g.row.A-Labels.Denot g.row.A-Fields.Denot). IfOk c.row_went.result (λ w. Searched g.A.Row.Script.dialogue g.A.Row.Script.refuses g.A.Row.Script.waits g.A.Labels.Script.dialogue g.A.Labels.Script.refuses g.A.Labels.Script.waits g.A.Fields.Script.dialogue g.A.Fields.Script.refuses g.A.Fields.Script.waits (job_dialogue g.A.Row.Script.dialogue g.A.Labels.Script.dialogue g.A.Fields.Script.dialogue c.args.self.now.stack x) w c.row_went.new.self)) (sym e)
    (c.row_went.ensures.goes_on (g.A.Row.Script.dialogue c.in-Row.script) c.in_ok-want-in-Row.ensures.goes_on)

pub returns-in_ok-want-in-Row-clause-falls : goal.returns-in_ok-want-in-Row-clause-falls
returns-in_ok-want-in-Row-clause-falls g c =
    let e : c.args.self.now.job ≡ job.Row c.in-Row.oid c.in-Row.script = search in
    subst (λ (x : Job g.row.A-Row.Denot g.row.A-Labels.Denot g.row.A-Fields.Denot). IfOk c.row_went.result (λ w. Falls w (job_steps g.A.Asker.most g.A.Row.Script.steps g.A.Labels.Script.steps g.A.Fields.Script.steps c.args.self.now.stack x) (search_steps g.A.Asker.most g.A.Row.Script.steps g.A.Labels.Script.steps g.A.Fields.Script.steps c.row_went.new.self))) (sym e)
    (c.row_went.ensures.falls (g.A.Row.Script.steps c.in-Row.script) c.in_ok-want-in-Row.ensures.falls)

pub returns-in_ok-want-in-Labels-clause-goes_on : goal.returns-in_ok-want-in-Labels-clause-goes_on
returns-in_ok-want-in-Labels-clause-goes_on g c =
    let e : c.args.self.now.job ≡ job.Labels c.in-Labels.oid c.in-Labels.row c.in-Labels.script = search in
    subst (λ (x : Job g.row.A-Row.Denot g.row.A-Labels.Denot g.row.A-Fields.Denot). IfOk c.labels_went.result (λ w. Searched g.A.Row.Script.dialogue g.A.Row.Script.refuses g.A.Row.Script.waits g.A.Labels.Script.dialogue g.A.Labels.Script.refuses g.A.Labels.Script.waits g.A.Fields.Script.dialogue g.A.Fields.Script.refuses g.A.Fields.Script.waits (job_dialogue g.A.Row.Script.dialogue g.A.Labels.Script.dialogue g.A.Fields.Script.dialogue c.args.self.now.stack x) w c.labels_went.new.self)) (sym e)
    (c.labels_went.ensures.goes_on (g.A.Labels.Script.dialogue c.in-Labels.script) c.in_ok-want-in-Labels.ensures.goes_on)

pub returns-in_ok-want-in-Labels-clause-falls : goal.returns-in_ok-want-in-Labels-clause-falls
returns-in_ok-want-in-Labels-clause-falls g c =
    let e : c.args.self.now.job ≡ job.Labels c.in-Labels.oid c.in-Labels.row c.in-Labels.script = search in
    subst (λ (x : Job g.row.A-Row.Denot g.row.A-Labels.Denot g.row.A-Fields.Denot). IfOk c.labels_went.result (λ w. Falls w (job_steps g.A.Asker.most g.A.Row.Script.steps g.A.Labels.Script.steps g.A.Fields.Script.steps c.args.self.now.stack x) (search_steps g.A.Asker.most g.A.Row.Script.steps g.A.Labels.Script.steps g.A.Fields.Script.steps c.labels_went.new.self))) (sym e)
    (c.labels_went.ensures.falls (g.A.Labels.Script.steps c.in-Labels.script) c.in_ok-want-in-Labels.ensures.falls)

pub returns-in_ok-want-in-Fields-clause-goes_on : goal.returns-in_ok-want-in-Fields-clause-goes_on
returns-in_ok-want-in-Fields-clause-goes_on g c =
    let e : c.args.self.now.job ≡ job.Fields c.in-Fields.oid c.in-Fields.row c.in-Fields.script = search in
    subst (λ (x : Job g.row.A-Row.Denot g.row.A-Labels.Denot g.row.A-Fields.Denot). IfOk c.fields_went.result (λ w. Searched g.A.Row.Script.dialogue g.A.Row.Script.refuses g.A.Row.Script.waits g.A.Labels.Script.dialogue g.A.Labels.Script.refuses g.A.Labels.Script.waits g.A.Fields.Script.dialogue g.A.Fields.Script.refuses g.A.Fields.Script.waits (job_dialogue g.A.Row.Script.dialogue g.A.Labels.Script.dialogue g.A.Fields.Script.dialogue c.args.self.now.stack x) w c.fields_went.new.self)) (sym e)
    (c.fields_went.ensures.goes_on (g.A.Fields.Script.dialogue c.in-Fields.script) c.in_ok-want-in-Fields.ensures.goes_on)

pub returns-in_ok-want-in-Fields-clause-falls : goal.returns-in_ok-want-in-Fields-clause-falls
returns-in_ok-want-in-Fields-clause-falls g c =
    let e : c.args.self.now.job ≡ job.Fields c.in-Fields.oid c.in-Fields.row c.in-Fields.script = search in
    subst (λ (x : Job g.row.A-Row.Denot g.row.A-Labels.Denot g.row.A-Fields.Denot). IfOk c.fields_went.result (λ w. Falls w (job_steps g.A.Asker.most g.A.Row.Script.steps g.A.Labels.Script.steps g.A.Fields.Script.steps c.args.self.now.stack x) (search_steps g.A.Asker.most g.A.Row.Script.steps g.A.Labels.Script.steps g.A.Fields.Script.steps c.fields_went.new.self))) (sym e)
    (c.fields_went.ensures.falls (g.A.Fields.Script.steps c.in-Fields.script) c.in_ok-want-in-Fields.ensures.falls)
