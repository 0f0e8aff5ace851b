use Rattle.std.proofs.Common.{◌≡◌, ℕ, List, IfOk, sym, subst}
use Rattle.pg_types.specs.declared.pg_type.PgType.{PgType}
use Rattle.pg_query.specs.Dialogue.{Dialogue}
use Rattle.pg_query.specs.Scripts.{Falls, heard}
use Rattle.pg_search.specs.declared.search.Job.{Job}
use Rattle.pg_search.specs.declared.search.Job.TheVariants as job
use Rattle.pg_search.specs.Searching.{Searched, job_dialogue, job_steps, search_steps}
use Rattle.pg_search.proofs.Went.{row-heard, row-heard-steps, labels-heard, labels-heard-steps, fields-heard, fields-heard-steps}
use Rattle.pg_search.proofs.search.SearchByRowLabelsFieldsScript.reply.Goals as goal

pub returns-in-Hears-clause-goes_on : goal.returns-in-Hears-clause-goes_on
returns-in-Hears-clause-goes_on g c h =
    let e : c.args.self.now.job ≡ job.Hears c.in-Hears.oid = search in
    subst (λ (x : Job g.row.A-Row.Denot g.row.A-Labels.Denot g.row.A-Fields.Denot). IfOk c.told.result (λ w. Searched g.A.Row.Script.dialogue g.A.Row.Script.refuses g.A.Row.Script.waits g.A.Labels.Script.dialogue g.A.Labels.Script.refuses g.A.Labels.Script.waits g.A.Fields.Script.dialogue g.A.Fields.Script.refuses g.A.Fields.Script.waits (heard c.args.reply (job_dialogue g.A.Row.Script.dialogue g.A.Labels.Script.dialogue g.A.Fields.Script.dialogue c.args.self.now.stack x)) w c.told.new.self)) (sym e) c.told.ensures.goes_on

pub returns-in-Hears-clause-falls : goal.returns-in-Hears-clause-falls
returns-in-Hears-clause-falls g c h =
    let e : c.args.self.now.job ≡ job.Hears c.in-Hears.oid = search in
    subst (λ (x : Job g.row.A-Row.Denot g.row.A-Labels.Denot g.row.A-Fields.Denot). IfOk c.told.result (λ w. Falls w (job_steps g.A.Asker.most g.A.Row.Script.steps g.A.Labels.Script.steps g.A.Fields.Script.steps c.args.self.now.stack x) (search_steps g.A.Asker.most g.A.Row.Script.steps g.A.Labels.Script.steps g.A.Fields.Script.steps c.told.new.self))) (sym e) c.told.ensures.falls

pub returns-in-Keeps-clause-goes_on : goal.returns-in-Keeps-clause-goes_on
returns-in-Keeps-clause-goes_on g c h =
    let e : c.args.self.now.job ≡ job.Keeps = search in
    subst (λ (x : Job g.row.A-Row.Denot g.row.A-Labels.Denot g.row.A-Fields.Denot). IfOk c.kept.result (λ w. Searched g.A.Row.Script.dialogue g.A.Row.Script.refuses g.A.Row.Script.waits g.A.Labels.Script.dialogue g.A.Labels.Script.refuses g.A.Labels.Script.waits g.A.Fields.Script.dialogue g.A.Fields.Script.refuses g.A.Fields.Script.waits (heard c.args.reply (job_dialogue g.A.Row.Script.dialogue g.A.Labels.Script.dialogue g.A.Fields.Script.dialogue c.args.self.now.stack x)) w c.kept.new.self)) (sym e) c.kept.ensures.goes_on

pub returns-in-Keeps-clause-falls : goal.returns-in-Keeps-clause-falls
returns-in-Keeps-clause-falls g c h =
    let e : c.args.self.now.job ≡ job.Keeps = search in
    subst (λ (x : Job g.row.A-Row.Denot g.row.A-Labels.Denot g.row.A-Fields.Denot). IfOk c.kept.result (λ w. Falls w (job_steps g.A.Asker.most g.A.Row.Script.steps g.A.Labels.Script.steps g.A.Fields.Script.steps c.args.self.now.stack x) (search_steps g.A.Asker.most g.A.Row.Script.steps g.A.Labels.Script.steps g.A.Fields.Script.steps c.kept.new.self))) (sym e) c.kept.ensures.falls

pub returns-in_ok-want-in-Row-clause-goes_on : goal.returns-in_ok-want-in-Row-clause-goes_on
returns-in_ok-want-in-Row-clause-goes_on g c h =
    let e : c.args.self.now.job ≡ job.Row c.in-Row.oid c.in-Row.script = search in
    row-heard g.A.Row.Script.dialogue g.A.Row.Script.refuses g.A.Row.Script.waits g.A.Labels.Script.dialogue g.A.Labels.Script.refuses g.A.Labels.Script.waits g.A.Fields.Script.dialogue g.A.Fields.Script.refuses g.A.Fields.Script.waits c.args.self.now.stack c.in-Row.oid c.in-Row.script c.args.self.now.job e c.args.reply h (λ (d : Dialogue (List PgType)). IfOk c.row_went.result (λ w. Searched g.A.Row.Script.dialogue g.A.Row.Script.refuses g.A.Row.Script.waits g.A.Labels.Script.dialogue g.A.Labels.Script.refuses g.A.Labels.Script.waits g.A.Fields.Script.dialogue g.A.Fields.Script.refuses g.A.Fields.Script.waits d w c.row_went.new.self))
    (λ k. c.row_went.ensures.goes_on (heard c.args.reply (g.A.Row.Script.dialogue c.in-Row.script)) (c.in_ok-want-in-Row.ensures.goes_on k))

pub returns-in_ok-want-in-Row-clause-falls : goal.returns-in_ok-want-in-Row-clause-falls
returns-in_ok-want-in-Row-clause-falls g c h =
    let e : c.args.self.now.job ≡ job.Row c.in-Row.oid c.in-Row.script = search in
    row-heard-steps g.A.Row.Script.dialogue g.A.Row.Script.refuses g.A.Row.Script.waits g.A.Labels.Script.dialogue g.A.Labels.Script.refuses g.A.Labels.Script.waits g.A.Fields.Script.dialogue g.A.Fields.Script.refuses g.A.Fields.Script.waits g.A.Asker.most g.A.Row.Script.steps g.A.Labels.Script.steps g.A.Fields.Script.steps c.args.self.now.stack c.in-Row.oid c.in-Row.script c.args.self.now.job e h (λ (n : ℕ). IfOk c.row_went.result (λ w. Falls w n (search_steps g.A.Asker.most g.A.Row.Script.steps g.A.Labels.Script.steps g.A.Fields.Script.steps c.row_went.new.self)))
    (λ k. c.row_went.ensures.falls (g.A.Row.Script.steps c.in-Row.script) (c.in_ok-want-in-Row.ensures.falls k))

pub returns-in_ok-want-in-Labels-clause-goes_on : goal.returns-in_ok-want-in-Labels-clause-goes_on
returns-in_ok-want-in-Labels-clause-goes_on g c h =
    let e : c.args.self.now.job ≡ job.Labels c.in-Labels.oid c.in-Labels.row c.in-Labels.script = search in
    labels-heard g.A.Row.Script.dialogue g.A.Row.Script.refuses g.A.Row.Script.waits g.A.Labels.Script.dialogue g.A.Labels.Script.refuses g.A.Labels.Script.waits g.A.Fields.Script.dialogue g.A.Fields.Script.refuses g.A.Fields.Script.waits c.args.self.now.stack c.in-Labels.oid c.in-Labels.row c.in-Labels.script c.args.self.now.job e c.args.reply h (λ (d : Dialogue (List PgType)). IfOk c.labels_went.result (λ w. Searched g.A.Row.Script.dialogue g.A.Row.Script.refuses g.A.Row.Script.waits g.A.Labels.Script.dialogue g.A.Labels.Script.refuses g.A.Labels.Script.waits g.A.Fields.Script.dialogue g.A.Fields.Script.refuses g.A.Fields.Script.waits d w c.labels_went.new.self))
    (λ k. c.labels_went.ensures.goes_on (heard c.args.reply (g.A.Labels.Script.dialogue c.in-Labels.script)) (c.in_ok-want-in-Labels.ensures.goes_on k))

pub returns-in_ok-want-in-Labels-clause-falls : goal.returns-in_ok-want-in-Labels-clause-falls
returns-in_ok-want-in-Labels-clause-falls g c h =
    let e : c.args.self.now.job ≡ job.Labels c.in-Labels.oid c.in-Labels.row c.in-Labels.script = search in
    labels-heard-steps g.A.Row.Script.dialogue g.A.Row.Script.refuses g.A.Row.Script.waits g.A.Labels.Script.dialogue g.A.Labels.Script.refuses g.A.Labels.Script.waits g.A.Fields.Script.dialogue g.A.Fields.Script.refuses g.A.Fields.Script.waits g.A.Asker.most g.A.Row.Script.steps g.A.Labels.Script.steps g.A.Fields.Script.steps c.args.self.now.stack c.in-Labels.oid c.in-Labels.row c.in-Labels.script c.args.self.now.job e h (λ (n : ℕ). IfOk c.labels_went.result (λ w. Falls w n (search_steps g.A.Asker.most g.A.Row.Script.steps g.A.Labels.Script.steps g.A.Fields.Script.steps c.labels_went.new.self)))
    (λ k. c.labels_went.ensures.falls (g.A.Labels.Script.steps c.in-Labels.script) (c.in_ok-want-in-Labels.ensures.falls k))

pub returns-in_ok-want-in-Fields-clause-goes_on : goal.returns-in_ok-want-in-Fields-clause-goes_on
returns-in_ok-want-in-Fields-clause-goes_on g c h =
    let e : c.args.self.now.job ≡ job.Fields c.in-Fields.oid c.in-Fields.row c.in-Fields.script = search in
    fields-heard g.A.Row.Script.dialogue g.A.Row.Script.refuses g.A.Row.Script.waits g.A.Labels.Script.dialogue g.A.Labels.Script.refuses g.A.Labels.Script.waits g.A.Fields.Script.dialogue g.A.Fields.Script.refuses g.A.Fields.Script.waits c.args.self.now.stack c.in-Fields.oid c.in-Fields.row c.in-Fields.script c.args.self.now.job e c.args.reply h (λ (d : Dialogue (List PgType)). IfOk c.fields_went.result (λ w. Searched g.A.Row.Script.dialogue g.A.Row.Script.refuses g.A.Row.Script.waits g.A.Labels.Script.dialogue g.A.Labels.Script.refuses g.A.Labels.Script.waits g.A.Fields.Script.dialogue g.A.Fields.Script.refuses g.A.Fields.Script.waits d w c.fields_went.new.self))
    (λ k. c.fields_went.ensures.goes_on (heard c.args.reply (g.A.Fields.Script.dialogue c.in-Fields.script)) (c.in_ok-want-in-Fields.ensures.goes_on k))

pub returns-in_ok-want-in-Fields-clause-falls : goal.returns-in_ok-want-in-Fields-clause-falls
returns-in_ok-want-in-Fields-clause-falls g c h =
    let e : c.args.self.now.job ≡ job.Fields c.in-Fields.oid c.in-Fields.row c.in-Fields.script = search in
    fields-heard-steps g.A.Row.Script.dialogue g.A.Row.Script.refuses g.A.Row.Script.waits g.A.Labels.Script.dialogue g.A.Labels.Script.refuses g.A.Labels.Script.waits g.A.Fields.Script.dialogue g.A.Fields.Script.refuses g.A.Fields.Script.waits g.A.Asker.most g.A.Row.Script.steps g.A.Labels.Script.steps g.A.Fields.Script.steps c.args.self.now.stack c.in-Fields.oid c.in-Fields.row c.in-Fields.script c.args.self.now.job e h (λ (n : ℕ). IfOk c.fields_went.result (λ w. Falls w n (search_steps g.A.Asker.most g.A.Row.Script.steps g.A.Labels.Script.steps g.A.Fields.Script.steps c.fields_went.new.self)))
    (λ k. c.fields_went.ensures.falls (g.A.Fields.Script.steps c.in-Fields.script) (c.in_ok-want-in-Fields.ensures.falls k))
