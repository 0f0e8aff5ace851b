use Rattle.std.proofs.Common.{◌≡◌, IfOk, List, sym, subst}
use Rattle.pg_query.specs.declared.desk_call.Cleanup.{Cleanup}
use Rattle.pg_query.specs.Scripts.{IsMessage, cleanup_of}
use Rattle.pg_search.specs.declared.search.Job.{Job}
use Rattle.pg_search.specs.Searching.{job_dialogue, job_waits}
use Rattle.pg_search.specs.Stacks.{row_goes, labels_goes, fields_goes}
use Rattle.pg_search.proofs.Inside.{left-inside, message-inside}
use Rattle.pg_search.proofs.search.SearchByRowLabelsFieldsScript.cleanup.Goals as goal

pub returns-in-Row : goal.returns-in-Row
returns-in-Row g c =
    let s = c.args.self.now.stack in
    let f = row_goes s c.in-Row.field-0 in
    let d = g.A.Row.Script.dialogue c.in-Row.script in
    let w = g.A.Row.Script.waits c.in-Row.script in
    subst (λ (j : Job g.row.A-Row.Denot g.row.A-Labels.Denot g.row.A-Fields.Denot). IsMessage (job_waits g.A.Row.Script.dialogue g.A.Row.Script.waits g.A.Labels.Script.dialogue g.A.Labels.Script.waits g.A.Fields.Script.dialogue g.A.Fields.Script.waits s j) →
    IfOk c.cleanup.result (λ left. left.items ≡ cleanup_of (job_dialogue g.A.Row.Script.dialogue g.A.Labels.Script.dialogue g.A.Fields.Script.dialogue s j)))
    (sym c.in-Row.is)
    (λ h. subst (λ (l : List Cleanup). IfOk c.cleanup.result (λ left. left.items ≡ l)) (left-inside f d w h) (c.cleanup.ensures (message-inside f d w h)))

pub returns-in-Labels : goal.returns-in-Labels
returns-in-Labels g c =
    let s = c.args.self.now.stack in
    let f = labels_goes s c.in-Labels.field-0 c.in-Labels.field-1 in
    let d = g.A.Labels.Script.dialogue c.in-Labels.script in
    let w = g.A.Labels.Script.waits c.in-Labels.script in
    subst (λ (j : Job g.row.A-Row.Denot g.row.A-Labels.Denot g.row.A-Fields.Denot). IsMessage (job_waits g.A.Row.Script.dialogue g.A.Row.Script.waits g.A.Labels.Script.dialogue g.A.Labels.Script.waits g.A.Fields.Script.dialogue g.A.Fields.Script.waits s j) →
    IfOk c.cleanup-in-Labels.result (λ left. left.items ≡ cleanup_of (job_dialogue g.A.Row.Script.dialogue g.A.Labels.Script.dialogue g.A.Fields.Script.dialogue s j)))
    (sym c.in-Labels.is)
    (λ h. subst (λ (l : List Cleanup). IfOk c.cleanup-in-Labels.result (λ left. left.items ≡ l)) (left-inside f d w h) (c.cleanup-in-Labels.ensures (message-inside f d w h)))

pub returns-in-Fields : goal.returns-in-Fields
returns-in-Fields g c =
    let s = c.args.self.now.stack in
    let f = fields_goes s c.in-Fields.field-0 c.in-Fields.field-1 in
    let d = g.A.Fields.Script.dialogue c.in-Fields.script in
    let w = g.A.Fields.Script.waits c.in-Fields.script in
    subst (λ (j : Job g.row.A-Row.Denot g.row.A-Labels.Denot g.row.A-Fields.Denot). IsMessage (job_waits g.A.Row.Script.dialogue g.A.Row.Script.waits g.A.Labels.Script.dialogue g.A.Labels.Script.waits g.A.Fields.Script.dialogue g.A.Fields.Script.waits s j) →
    IfOk c.cleanup-in-Fields.result (λ left. left.items ≡ cleanup_of (job_dialogue g.A.Row.Script.dialogue g.A.Labels.Script.dialogue g.A.Fields.Script.dialogue s j)))
    (sym c.in-Fields.is)
    (λ h. subst (λ (l : List Cleanup). IfOk c.cleanup-in-Fields.result (λ left. left.items ≡ l)) (left-inside f d w h) (c.cleanup-in-Fields.ensures (message-inside f d w h)))
