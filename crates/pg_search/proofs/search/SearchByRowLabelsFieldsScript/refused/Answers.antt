use Rattle.std.proofs.Common.{◌≡◌, IfOk, sym, subst}
use Rattle.pg_query.specs.Scripts.{Falls}
use Rattle.pg_search.specs.declared.search.Job.{Job}
use Rattle.pg_search.specs.declared.search.Job.TheVariants as job
use Rattle.pg_search.specs.Searching.{Searched, job_refuses, job_steps, search_steps}
use Rattle.pg_search.proofs.search.SearchByRowLabelsFieldsScript.refused.Goals as goal

pub returns-in-Row-clause-goes_on : goal.returns-in-Row-clause-goes_on
returns-in-Row-clause-goes_on g c =
    let e : c.args.self.now.job ≡ job.Row c.in-Row.oid c.in-Row.script = search in
    subst (λ (x : Job g.row.A-Row.Denot g.row.A-Labels.Denot g.row.A-Fields.Denot). IfOk c.row_went.result (λ w. Searched g.A.Row.Script.dialogue g.A.Row.Script.refuses g.A.Row.Script.waits g.A.Labels.Script.dialogue g.A.Labels.Script.refuses g.A.Labels.Script.waits g.A.Fields.Script.dialogue g.A.Fields.Script.refuses g.A.Fields.Script.waits (job_refuses g.A.Row.Script.refuses g.A.Labels.Script.refuses g.A.Fields.Script.refuses c.args.self.now.stack x c.args.error) w c.row_went.new.self)) (sym e)
    (c.row_went.ensures.goes_on (g.A.Row.Script.refuses c.in-Row.script c.args.error) c.in_ok-want-in-Row.ensures.goes_on)

pub returns-in-Row-clause-falls : goal.returns-in-Row-clause-falls
returns-in-Row-clause-falls g c =
    let e : c.args.self.now.job ≡ job.Row c.in-Row.oid c.in-Row.script = search in
    subst (λ (x : Job g.row.A-Row.Denot g.row.A-Labels.Denot g.row.A-Fields.Denot). IfOk c.row_went.result (λ w. Falls w (job_steps g.A.Asker.most g.A.Row.Script.steps g.A.Labels.Script.steps g.A.Fields.Script.steps c.args.self.now.stack x) (search_steps g.A.Asker.most g.A.Row.Script.steps g.A.Labels.Script.steps g.A.Fields.Script.steps c.row_went.new.self))) (sym e)
    (c.row_went.ensures.falls (g.A.Row.Script.steps c.in-Row.script) c.in_ok-want-in-Row.ensures.falls)

pub returns-in-Labels-clause-goes_on : goal.returns-in-Labels-clause-goes_on
returns-in-Labels-clause-goes_on g c =
    let e : c.args.self.now.job ≡ job.Labels c.in-Labels.oid c.in-Labels.row c.in-Labels.script = search in
    subst (λ (x : Job g.row.A-Row.Denot g.row.A-Labels.Denot g.row.A-Fields.Denot). IfOk c.labels_went.result (λ w. Searched g.A.Row.Script.dialogue g.A.Row.Script.refuses g.A.Row.Script.waits g.A.Labels.Script.dialogue g.A.Labels.Script.refuses g.A.Labels.Script.waits g.A.Fields.Script.dialogue g.A.Fields.Script.refuses g.A.Fields.Script.waits (job_refuses g.A.Row.Script.refuses g.A.Labels.Script.refuses g.A.Fields.Script.refuses c.args.self.now.stack x c.args.error) w c.labels_went.new.self)) (sym e)
    (c.labels_went.ensures.goes_on (g.A.Labels.Script.refuses c.in-Labels.script c.args.error) c.in_ok-want-in-Labels.ensures.goes_on)

pub returns-in-Labels-clause-falls : goal.returns-in-Labels-clause-falls
returns-in-Labels-clause-falls g c =
    let e : c.args.self.now.job ≡ job.Labels c.in-Labels.oid c.in-Labels.row c.in-Labels.script = search in
    subst (λ (x : Job g.row.A-Row.Denot g.row.A-Labels.Denot g.row.A-Fields.Denot). IfOk c.labels_went.result (λ w. Falls w (job_steps g.A.Asker.most g.A.Row.Script.steps g.A.Labels.Script.steps g.A.Fields.Script.steps c.args.self.now.stack x) (search_steps g.A.Asker.most g.A.Row.Script.steps g.A.Labels.Script.steps g.A.Fields.Script.steps c.labels_went.new.self))) (sym e)
    (c.labels_went.ensures.falls (g.A.Labels.Script.steps c.in-Labels.script) c.in_ok-want-in-Labels.ensures.falls)

pub returns-in-Fields-clause-goes_on : goal.returns-in-Fields-clause-goes_on
returns-in-Fields-clause-goes_on g c =
    let e : c.args.self.now.job ≡ job.Fields c.in-Fields.oid c.in-Fields.row c.in-Fields.script = search in
    subst (λ (x : Job g.row.A-Row.Denot g.row.A-Labels.Denot g.row.A-Fields.Denot). IfOk c.fields_went.result (λ w. Searched g.A.Row.Script.dialogue g.A.Row.Script.refuses g.A.Row.Script.waits g.A.Labels.Script.dialogue g.A.Labels.Script.refuses g.A.Labels.Script.waits g.A.Fields.Script.dialogue g.A.Fields.Script.refuses g.A.Fields.Script.waits (job_refuses g.A.Row.Script.refuses g.A.Labels.Script.refuses g.A.Fields.Script.refuses c.args.self.now.stack x c.args.error) w c.fields_went.new.self)) (sym e)
    (c.fields_went.ensures.goes_on (g.A.Fields.Script.refuses c.in-Fields.script c.args.error) c.in_ok-want-in-Fields.ensures.goes_on)

pub returns-in-Fields-clause-falls : goal.returns-in-Fields-clause-falls
returns-in-Fields-clause-falls g c =
    let e : c.args.self.now.job ≡ job.Fields c.in-Fields.oid c.in-Fields.row c.in-Fields.script = search in
    subst (λ (x : Job g.row.A-Row.Denot g.row.A-Labels.Denot g.row.A-Fields.Denot). IfOk c.fields_went.result (λ w. Falls w (job_steps g.A.Asker.most g.A.Row.Script.steps g.A.Labels.Script.steps g.A.Fields.Script.steps c.args.self.now.stack x) (search_steps g.A.Asker.most g.A.Row.Script.steps g.A.Labels.Script.steps g.A.Fields.Script.steps c.fields_went.new.self))) (sym e)
    (c.fields_went.ensures.falls (g.A.Fields.Script.steps c.in-Fields.script) c.in_ok-want-in-Fields.ensures.falls)
