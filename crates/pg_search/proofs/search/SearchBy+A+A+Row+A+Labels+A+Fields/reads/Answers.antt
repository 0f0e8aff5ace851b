use Rattle.std.proofs.Common.{◌≡◌, List, IfOk}
use Rattle.pg_types.specs.declared.pg_type.PgType.{PgType}
use Rattle.pg_query.specs.Dialogue.{Dialogue, feed_one}
use Rattle.pg_search.specs.declared.search.Job.TheVariants as job
use Rattle.pg_search.specs.Searching.{Searched}
use Rattle.pg_search.proofs.Went.{row-fed, labels-fed, fields-fed}
use Rattle.pg_search.proofs.search.SearchBy+A+A+Row+A+Labels+A+Fields.reads.Goals as goal

pub returns-in-Row : goal.returns-in-Row
returns-in-Row g c = record {
  goes_on = λ raw means h.
      let e : c.args.self.now.job ≡ job.Row c.in-Row.oid c.in-Row.script = search in
      row-fed g.A.Row.Script.dialogue g.A.Row.Script.refuses g.A.Row.Script.waits g.A.Labels.Script.dialogue g.A.Labels.Script.refuses g.A.Labels.Script.waits g.A.Fields.Script.dialogue g.A.Fields.Script.refuses g.A.Fields.Script.waits c.args.self.now.stack c.in-Row.oid c.in-Row.script c.args.self.now.job e raw h (λ (d : Dialogue (List PgType)). IfOk c.row_went.result (λ w. Searched g.A.Row.Script.dialogue g.A.Row.Script.refuses g.A.Row.Script.waits g.A.Labels.Script.dialogue g.A.Labels.Script.refuses g.A.Labels.Script.waits g.A.Fields.Script.dialogue g.A.Fields.Script.refuses g.A.Fields.Script.waits d w c.row_went.new.self))
      (λ k. c.row_went.ensures.goes_on (feed_one raw (g.A.Row.Script.dialogue c.in-Row.script)) (c.in_ok-want-in-Row.ensures.goes_on raw means k));
}

pub returns-in-Labels : goal.returns-in-Labels
returns-in-Labels g c = record {
  goes_on = λ raw means h.
      let e : c.args.self.now.job ≡ job.Labels c.in-Labels.oid c.in-Labels.row c.in-Labels.script = search in
      labels-fed g.A.Row.Script.dialogue g.A.Row.Script.refuses g.A.Row.Script.waits g.A.Labels.Script.dialogue g.A.Labels.Script.refuses g.A.Labels.Script.waits g.A.Fields.Script.dialogue g.A.Fields.Script.refuses g.A.Fields.Script.waits c.args.self.now.stack c.in-Labels.oid c.in-Labels.row c.in-Labels.script c.args.self.now.job e raw h (λ (d : Dialogue (List PgType)). IfOk c.labels_went.result (λ w. Searched g.A.Row.Script.dialogue g.A.Row.Script.refuses g.A.Row.Script.waits g.A.Labels.Script.dialogue g.A.Labels.Script.refuses g.A.Labels.Script.waits g.A.Fields.Script.dialogue g.A.Fields.Script.refuses g.A.Fields.Script.waits d w c.labels_went.new.self))
      (λ k. c.labels_went.ensures.goes_on (feed_one raw (g.A.Labels.Script.dialogue c.in-Labels.script)) (c.in_ok-want-in-Labels.ensures.goes_on raw means k));
}

pub returns-in-Fields : goal.returns-in-Fields
returns-in-Fields g c = record {
  goes_on = λ raw means h.
      let e : c.args.self.now.job ≡ job.Fields c.in-Fields.oid c.in-Fields.row c.in-Fields.script = search in
      fields-fed g.A.Row.Script.dialogue g.A.Row.Script.refuses g.A.Row.Script.waits g.A.Labels.Script.dialogue g.A.Labels.Script.refuses g.A.Labels.Script.waits g.A.Fields.Script.dialogue g.A.Fields.Script.refuses g.A.Fields.Script.waits c.args.self.now.stack c.in-Fields.oid c.in-Fields.row c.in-Fields.script c.args.self.now.job e raw h (λ (d : Dialogue (List PgType)). IfOk c.fields_went.result (λ w. Searched g.A.Row.Script.dialogue g.A.Row.Script.refuses g.A.Row.Script.waits g.A.Labels.Script.dialogue g.A.Labels.Script.refuses g.A.Labels.Script.waits g.A.Fields.Script.dialogue g.A.Fields.Script.refuses g.A.Fields.Script.waits d w c.fields_went.new.self))
      (λ k. c.fields_went.ensures.goes_on (feed_one raw (g.A.Fields.Script.dialogue c.in-Fields.script)) (c.in_ok-want-in-Fields.ensures.goes_on raw means k));
}
